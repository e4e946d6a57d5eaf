-- The cells of a group, numbered from 0 on.
use Rattle.std.proofs.Common.{◌≡◌, ◌≢◌, ◌<◌, ◌≤◌, ℕ, ◌+◌, ◌-◌, ◌*◌, Bool, true, false, cond, List, [], ◌∷◌, Some, None, refl, sym, ◌∙◌, ap, subst, arith, ltb}
use Rattle.std.specs.Prelude.{◌==◌, ◌/◌, ◌%◌, if◌then◌else◌}
use Rattle.std.specs.List.{find, AllByRecursion}
use Rattle.std.proofs.lemmas.Bool.Decides.{nat_tests}
use Rattle.std.proofs.lemmas.Nat.{div-add-mod'}
use Rattle.std.proofs.Math.Nat.{mod-lt}
use Rattle.bk_ids.specs.declared.record.Place.{Place}
use Rattle.bk_world.specs.declared.database.FileSpec.{FileSpec}
use Rattle.bk_world.specs.Places.{IsCellOf}
use Rattle.bk_world.specs.RowLaws.{place-is}
use Rattle.bk_machine.specs.Built.{AreFilesApart}
use Rattle.bk_machine.specs.Room.{group_extents}

-- how many cells a file has in the group
size : ℕ → FileSpec → ℕ
size group f = if f.group == group then 504 * f.extents else 0

-- the number of a cell: those of the files before it come first
pub number_of : List FileSpec → ℕ → Place → ℕ
number_of [] group at = 0
number_of (f ∷ files) group at = if f.number == at.file then (at.page - 8) * 63 + at.slot else size group f + number_of files group at

extents-size : (f : FileSpec) (files : List FileSpec) (group : ℕ) → 504 * group_extents (f ∷ files) group ≡ size group f + 504 * group_extents files group
unfolding size
extents-size f files group = by (f.group == group)
  where
    by : (t : Bool) → 504 * cond t (f.extents + group_extents files group) (group_extents files group) ≡ cond t (504 * f.extents) 0 + 504 * group_extents files group
    by true = omega arith
    by false = omega arith

-- a cell lies in the first file, or in one of the others
pub data LiesIn (f : FileSpec) (files : List FileSpec) (group : ℕ) (at : Place) : Type 0 where
  first : (f.number == at.file) ≡ true → f.group ≡ group → 8 ≤ at.page → at.page < 8 + 8 * f.extents → at.slot < 63 → LiesIn f files group at
  others : (f.number == at.file) ≡ false → IsCellOf files group at → LiesIn f files group at

lies-in : (f : FileSpec) (files : List FileSpec) (group : ℕ) (at : Place) → IsCellOf (f ∷ files) group at → LiesIn f files group at
lies-in f files group at is = by (f.number == at.file) refl is.there
  where
    by : (t : Bool) → (f.number == at.file) ≡ t → cond t (Some f) (find (λ (g : FileSpec). g.number == at.file) files) ≡ Some is.file → LiesIn f files group at
    by true e there =
        let same : f ≡ is.file = cc in
        first e (ap (λ (g : FileSpec). g.group) same ∙ is.of_group) is.from (subst (λ (g : FileSpec). at.page < 8 + 8 * g.extents) (sym same) is.below) is.slot
    by false e there = others e (record { file = is.file; there = there; of_group = is.of_group; from = is.from; below = is.below; slot = is.slot })

size-own : (f : FileSpec) (group : ℕ) → f.group ≡ group → size group f ≡ 504 * f.extents
unfolding size
size-own f group is = let own : (f.group == group) ≡ true = grind (arith, nat_tests, is) in rw own refl

size-other : (f : FileSpec) (group : ℕ) → (f.group == group) ≡ false → size group f ≡ 0
unfolding size
size-other f group other = rw other refl

number-first : (f : FileSpec) (files : List FileSpec) (group : ℕ) (at : Place) → (f.number == at.file) ≡ true → number_of (f ∷ files) group at ≡ (at.page - 8) * 63 + at.slot
unfolding number_of
number-first f files group at is = rw is refl

number-others : (f : FileSpec) (files : List FileSpec) (group : ℕ) (at : Place) → (f.number == at.file) ≡ false → number_of (f ∷ files) group at ≡ size group f + number_of files group at
unfolding number_of
number-others f files group at isnt = rw isnt refl

-- each lies below the count of the cells
pub number-below : (files : List FileSpec) (group : ℕ) (at : Place) → IsCellOf files group at → number_of files group at < 504 * group_extents files group
number-below [] group at is = let e : None ≡ Some is.file = is.there in absurd (cc)
number-below (f ∷ files) group at is = by (lies-in f files group at is) (number-below files group at)
  where
    by : LiesIn f files group at → (IsCellOf files group at → number_of files group at < 504 * group_extents files group) → number_of (f ∷ files) group at < 504 * group_extents (f ∷ files) group
    by (first e own from below slot) rest = omega (arith, number-first f files group at e, extents-size f files group, size-own f group own, from, below, slot)
    by (others e inside) rest = omega (arith, number-others f files group at e, extents-size f files group, rest inside)

-- and no two cells have one number
pub number-once : (files : List FileSpec) (group : ℕ) (a b : Place) → IsCellOf files group a → IsCellOf files group b → number_of files group a ≡ number_of files group b → a ≡ b
number-once [] group a b ia ib same = let e : None ≡ Some ia.file = ia.there in absurd (cc)
number-once (f ∷ files) group a b ia ib same = by (lies-in f files group a ia) (lies-in f files group b ib) (number-once files group a b)
  where
    by : LiesIn f files group a → LiesIn f files group b → (IsCellOf files group a → IsCellOf files group b → number_of files group a ≡ number_of files group b → a ≡ b) → a ≡ b
    by (first e own from below slot) (first e2 own2 from2 below2 slot2) rest =
        let numbers : (a.page - 8) * 63 + a.slot ≡ (b.page - 8) * 63 + b.slot = sym (number-first f files group a e) ∙ same ∙ number-first f files group b e2 in
        place-is a b (grind (arith, nat_tests, e, e2)) (omega (arith, numbers, from, from2, slot, slot2)) (omega (arith, numbers, from, from2, slot, slot2))
    by (first e own from below slot) (others e2 inside2) rest =
        absurd (omega (arith, same, number-first f files group a e, number-others f files group b e2, size-own f group own, from, below, slot))
    by (others e inside) (first e2 own2 from2 below2 slot2) rest =
        absurd (omega (arith, same, number-first f files group b e2, number-others f files group a e, size-own f group own2, from2, below2, slot2))
    by (others e inside) (others e2 inside2) rest =
        rest inside inside2 (omega (arith, same, number-others f files group a e, number-others f files group b e2))

-- and each number below the count is that of a cell
pub record CellAt (files : List FileSpec) (group i : ℕ) : Type 0 where
  pub at : Place
  pub is_cell : IsCellOf files group at
  pub number : number_of files group at ≡ i

-- a file of none of these numbers isn't the one that is found among them
other-file : (files : List FileSpec) (m n : ℕ) (g : FileSpec) → find (λ (f : FileSpec). f.number == n) files ≡ Some g → AllByRecursion (λ (f : FileSpec). f.number ≢ m) files → (m == n) ≡ false
other-file [] m n g e all = absurd (cc)
other-file (f ∷ files) m n g e all = by (f.number == n) refl e (other-file files m n g)
  where
    by : (t : Bool) → (f.number == n) ≡ t → cond t (Some f) (find (λ (x : FileSpec). x.number == n) files) ≡ Some g → (find (λ (x : FileSpec). x.number == n) files ≡ Some g → AllByRecursion (λ (x : FileSpec). x.number ≢ m) files → (m == n) ≡ false) → (m == n) ≡ false
    by true is there rest = here (m == n) refl
      where
        here : (b : Bool) → (m == n) ≡ b → b ≡ false
        here true same = absurd (all.0 (grind (arith, nat_tests, is, same)))
        here false other = refl
    by false isnt there rest = rest there all.1

pub cell-at : (files : List FileSpec) (group i : ℕ) → AreFilesApart files → i < 504 * group_extents files group → CellAt files group i
cell-at [] group i apart lt = absurd (omega (arith, lt))
cell-at (f ∷ files) group i apart lt = by (f.group == group) refl (ltb i (504 * f.extents)) refl (λ j. cell-at files group j apart.1)
  where
    in-first : f.group ≡ group → i < 504 * f.extents → CellAt (f ∷ files) group i
    in-first own less =
        let parts : i / 63 * 63 + i % 63 ≡ i = div-add-mod' i 63 in
        let low : i % 63 < 63 = mod-lt i (omega arith) in
        let is : (f.number == f.number) ≡ true = grind (arith, nat_tests) in
        record {
          at = record { file = f.number; page = 8 + i / 63; slot = i % 63 };
          is_cell = record { file = f; there = rw is refl; of_group = own; from = omega arith; below = omega (arith, parts, low, less); slot = low };
          number = number-first f files group (record { file = f.number; page = 8 + i / 63; slot = i % 63 }) is ∙ omega (arith, parts);
        }

    behind : size group f ≤ i → CellAt files group (i - size group f) → CellAt (f ∷ files) group i
    behind le c =
        let other : (f.number == c.at.file) ≡ false = other-file files f.number c.at.file c.is_cell.file c.is_cell.there apart.0 in
        record {
          at = c.at;
          is_cell = record { file = c.is_cell.file; there = rw other c.is_cell.there; of_group = c.is_cell.of_group; from = c.is_cell.from; below = c.is_cell.below; slot = c.is_cell.slot };
          number = number-others f files group c.at other ∙ omega (arith, le, c.number);
        }

    le-of : ltb i (504 * f.extents) ≡ false → 504 * f.extents ≤ i
    le-of e = grind (arith, nat_tests, e)

    by : (t : Bool) → (f.group == group) ≡ t → (s : Bool) → ltb i (504 * f.extents) ≡ s → ((j : ℕ) → j < 504 * group_extents files group → CellAt files group j) → CellAt (f ∷ files) group i
    by true own true less rest = in-first (grind (arith, nat_tests, own)) (grind (arith, nat_tests, less))
    by true own false less rest =
        let is : f.group ≡ group = grind (arith, nat_tests, own) in
        let le : size group f ≤ i = omega (arith, size-own f group is, le-of less) in
        behind le (rest (i - size group f) (omega (arith, le, lt, extents-size f files group)))
    by false own s less rest =
        let none : size group f ≡ 0 = size-other f group own in
        let le : size group f ≤ i = omega (arith, none) in
        behind le (rest (i - size group f) (omega (arith, le, lt, extents-size f files group)))
