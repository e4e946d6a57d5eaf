-- No more rows lie anywhere than the files of a log have cells.
use Rattle.std.proofs.Common.{◌≡◌, ◌≤◌, ℕ, ◌*◌, Bool, true, false, cond, List, [], ◌∷◌, length, map, Option, Some, None, refl, ap, arith}
use Rattle.std.specs.Prelude.{◌==◌, is_some}
use Rattle.std.specs.List.{find, AllByRecursion}
use Rattle.std.proofs.lemmas.List.{length-map}
use Rattle.std.proofs.lemmas.List.Sums.{sum_by-cons}
use Rattle.bk_ids.specs.declared.record.Place.{Place}
use Rattle.bk_lemmas.specs.Lists.{all_mapped}
use Rattle.bk_world.specs.Places.{IsCellOf, place_of}
use Rattle.bk_world.specs.Records.{Logged, RowId}
use Rattle.bk_world.specs.Telling.{tables}
use Rattle.bk_world.specs.declared.database.FileSpec.{FileSpec}
use Rattle.bk_machine.specs.Built.{IsBuiltLog, LiesWell}
use Rattle.bk_machine.specs.Files.{extents_in}
use Rattle.bk_machine.specs.Room.{AreOnce, group_extents}
use Rattle.bk_machine.specs.Sound.{IsLog}
use Rattle.bk_machine.proofs.Numbers.{at-most}
use Rattle.bk_machine.proofs.Room.{InCell, alone, number_in, numbers-apart, numbers-below, well}

-- a file as if it were of the first group
abbrev in_first : FileSpec → FileSpec
in_first f = record f { group = 0 }

find-first : (files : List FileSpec) (n : ℕ) (f : FileSpec) → find (λ (g : FileSpec). g.number == n) files ≡ Some f → find (λ (g : FileSpec). g.number == n) (map in_first files) ≡ Some (in_first f)
find-first [] n f e = absurd cc
find-first (g ∷ files) n f e = by (find-first files n f) (g.number == n) e
  where
    by : (find (λ (h : FileSpec). h.number == n) files ≡ Some f → find (λ (h : FileSpec). h.number == n) (map in_first files) ≡ Some (in_first f)) → (t : Bool)
        → cond t (Some g) (find (λ (h : FileSpec). h.number == n) files) ≡ Some f → cond t (Some (in_first g)) (find (λ (h : FileSpec). h.number == n) (map in_first files)) ≡ Some (in_first f)
    by rest true there = let same : g ≡ f = cc in ap (λ (h : FileSpec). Some (in_first h)) same
    by rest false there = rest there

first-cell : (files : List FileSpec) (group : ℕ) (at : Place) → IsCellOf files group at → IsCellOf (map in_first files) 0 at
first-cell files group at is = record { file = in_first is.file; there = find-first files at.file is.file is.there; of_group = refl; from = is.from; below = is.below; slot = is.slot }

first-extents : (files : List FileSpec) → group_extents (map in_first files) 0 ≡ extents_in files
first-extents [] = refl
first-extents (f ∷ files) = omega (arith, first-extents files, sum_by-cons (λ (g : FileSpec). g.extents) f files)

module _ (files : List FileSpec) (rs : List Logged) (end : ℕ) (is : IsLog files rs end) (built : IsBuiltLog files rs) where
  in-cell : (id : RowId) → is_some (place_of rs id) ≡ true → InCell rs (map in_first files) 0 id
  in-cell id somewhere = by (place_of rs id) refl somewhere
    where
      by : (o : Option Place) → place_of rs id ≡ o → is_some o ≡ true → InCell rs (map in_first files) 0 id
      by None there none = absurd cc
      by (Some at) there some =
          let lies : LiesWell files (tables rs) id at = well files rs end is built id at there in
          record { at = at; there = there; is_cell = first-cell files lies.table.group at lies.cell }

  pub few-rows : (ids : List RowId) → AreOnce ids → AllByRecursion (λ id. is_some (place_of rs id) ≡ true) ids → length ids ≤ 504 * extents_in files
  few-rows ids once somewhere =
      let all : List FileSpec = map in_first files in
      let placed : AllByRecursion (InCell rs all 0) ids = all_mapped (λ id. is_some (place_of rs id) ≡ true) (InCell rs all 0) in-cell ids somewhere in
      let one = alone files rs end is built in
      let few : length (map (number_in rs all 0) ids) ≤ 504 * group_extents all 0 =
      at-most (504 * group_extents all 0) (map (number_in rs all 0) ids) (numbers-apart rs all 0 one ids once placed) (numbers-below rs all 0 one ids placed) in
      omega (arith, few, length-map ids (number_in rs all 0), first-extents files)
