-- A cell of a group's file is a cell of the files' room.
use Rattle.std.proofs.Common.{◌≡◌, ◌<◌, ℕ, zero, suc, ◌+◌, ◌-◌, Bool, true, false, cond, List, [], ◌∷◌, length, map, Some, refl, sym, ◌∙◌, ap, arith}
use Rattle.std.specs.Prelude.{◌==◌, slice_index_or}
use Rattle.std.specs.List.{find}
use Rattle.std.proofs.lemmas.Bool.{eqb-true}
use Rattle.std.proofs.lemmas.Bool.Decides.{nat_tests}
use Rattle.std.proofs.lemmas.List.{get_or-map, length-map, length-replicate}
use Rattle.bk_groups.specs.Groups.{AreFiles, IsCell, LiesIn, Room, new_space, no_room, room_at, untouched_room}
use Rattle.bk_ids.specs.declared.record.Place.{Place}
use Rattle.bk_world.specs.Places.{IsCellOf}
use Rattle.bk_world.specs.declared.database.FileSpec.{FileSpec}

-- where a file stands in the list
pub record StandsAt (files : List FileSpec) (number : ℕ) (f : FileSpec) : Type 0 where
  pub index : ℕ
  pub inside : index < length files
  pub there : (d : FileSpec) → slice_index_or files index d ≡ f
  pub its : f.number ≡ number

found-at : (files : List FileSpec) (number : ℕ) (f : FileSpec) → find (λ (g : FileSpec). g.number == number) files ≡ Some f → StandsAt files number f
found-at [] number f e = absurd (cc)
found-at (g ∷ files) number f e = by (g.number == number) refl e (λ rest. found-at files number f rest)
  where
    by : (t : Bool) → (g.number == number) ≡ t → cond t (Some g) (find (λ (h : FileSpec). h.number == number) files) ≡ Some f
        → (find (λ (h : FileSpec). h.number == number) files ≡ Some f → StandsAt files number f) → StandsAt (g ∷ files) number f
    by true is e rest =
        let same : g ≡ f = cc in
        record { index = 0; inside = omega arith; there = λ d. same; its = ap (λ (h : FileSpec). h.number) (sym same) ∙ eqb-true _ _ is }
    by false isnt e rest = let at = rest e in let more : suc at.index < suc (length files) = omega (arith, at.inside) in record { index = suc at.index; inside = more; there = at.there; its = at.its }

pub cell-of : (files : List FileSpec) → AreFiles files → (group : ℕ) (at : Place) → IsCellOf files group at → IsCell ((new_space files).rooms) at
cell-of files are group at cell =
    let stands = found-at files at.file cell.file cell.there in
    let i : ℕ = stands.index in
    let number : at.file ≡ i + 1 = sym stands.its ∙ ap (λ (f : FileSpec). f.number) (sym (stands.there cell.file)) ∙ are.numbers i cell.file stands.inside in
    let index : at.file - 1 ≡ i = omega (arith, number) in
    let rooms : List Room = map untouched_room files in
    let len : length rooms ≡ length files = length-map files untouched_room in
    let room : room_at rooms at.file ≡ untouched_room cell.file =
    ap (λ (k : ℕ). slice_index_or rooms k no_room) index ∙ get_or-map untouched_room files i cell.file no_room stands.inside ∙ ap untouched_room (stands.there cell.file) in
    let extents : length ((room_at rooms at.file).touched) ≡ cell.file.extents = ap (λ (r : Room). length r.touched) room ∙ length-replicate {A = Bool} cell.file.extents false in
    record {
      has_file = record { first_file = omega (arith, number); last_file = omega (arith, number, len, stands.inside) };
      first_page = cell.from;
      last_page = omega (arith, cell.below, extents);
      low_slot = cell.slot;
    }

-- its room is of the group
pub group-in : (files : List FileSpec) → AreFiles files → (group : ℕ) (at : Place) → IsCellOf files group at → (room_at ((new_space files).rooms) at.file).group ≡ group
group-in files are group at cell =
    let stands = found-at files at.file cell.file cell.there in
    let i : ℕ = stands.index in
    let number : at.file ≡ i + 1 = sym stands.its ∙ ap (λ (f : FileSpec). f.number) (sym (stands.there cell.file)) ∙ are.numbers i cell.file stands.inside in
    let index : at.file - 1 ≡ i = omega (arith, number) in
    ap (λ (k : ℕ). (slice_index_or (map untouched_room files) k no_room).group) index
    ∙ ap (λ (r : Room). r.group) (get_or-map untouched_room files i cell.file no_room stands.inside)
    ∙ ap (λ (f : FileSpec). f.group) (stands.there cell.file) ∙ cell.of_group

-- ---- and back

-- the file of an index
pub record IsAt (files : List FileSpec) (i : ℕ) : Type 0 where
  pub file : FileSpec
  pub there : (d : FileSpec) → slice_index_or files i d ≡ file

file-at : (files : List FileSpec) (i : ℕ) → i < length files → IsAt files i
file-at [] i lt = absurd (omega (arith, lt))
file-at (f ∷ files) zero lt = record { file = f; there = λ d. refl }
file-at (f ∷ files) (suc i) lt = let less : i < length files = omega (arith, lt) in let at = file-at files i less in record { file = at.file; there = at.there }

-- files that are numbered from k on are found by their numbers
find-at : (k : ℕ) (files : List FileSpec) (i : ℕ) (f : FileSpec) → i < length files → ((d : FileSpec) → slice_index_or files i d ≡ f)
    → ((j : ℕ) (d : FileSpec) → j < length files → (slice_index_or files j d).number ≡ j + k) → (n : ℕ) → n ≡ i + k → find (λ (g : FileSpec). g.number == n) files ≡ Some f
find-at k [] i f lt there numbers n e = absurd (omega (arith, lt))
find-at k (g ∷ files) zero f lt there numbers n e =
    let first : g.number ≡ 0 + k = numbers 0 g lt in
    let is : (g.number == n) ≡ true = grind (arith, nat_tests, first, e) in
    ap (λ t. cond t (Some g) (find (λ (h : FileSpec). h.number == n) files)) is ∙ ap (λ (h : FileSpec). Some h) (there g)
find-at k (g ∷ files) (suc i) f lt there numbers n e =
    let less : i < length files = omega (arith, lt) in
    let zero_in : 0 < length (g ∷ files) = omega (arith, lt) in
    let first : g.number ≡ 0 + k = numbers 0 g zero_in in
    let isnt : (g.number == n) ≡ false = grind (arith, nat_tests, first, e) in
    let on : n ≡ i + (k + 1) = omega (arith, e) in
    ap (λ t. cond t (Some g) (find (λ (h : FileSpec). h.number == n) files)) isnt
    ∙ find-at (k + 1) files i f less there (λ j d lt2. next j d lt2 (numbers (suc j) d)) n on
  where
    next : (j : ℕ) (d : FileSpec) → j < length files → (suc j < length (g ∷ files) → (slice_index_or files j d).number ≡ suc j + k) → (slice_index_or files j d).number ≡ j + (k + 1)
    next j d lt2 given = let inside : suc j < length (g ∷ files) = omega (arith, lt2) in let its : (slice_index_or files j d).number ≡ suc j + k = given inside in omega (arith, its)

-- a cell of a room of the group is one of a file of the group
pub cell-back : (files : List FileSpec) → AreFiles files → (group : ℕ) (at : Place) → LiesIn ((new_space files).rooms) group at → IsCellOf files group at
cell-back files are group at lies =
    let cell = lies.0 in
    let len : length (map untouched_room files) ≡ length files = length-map files untouched_room in
    let i : ℕ = at.file - 1 in
    let inside : i < length files = omega (arith, cell.has_file.first_file, cell.has_file.last_file, len) in
    let stands = file-at files i inside in
    let room : room_at (map untouched_room files) at.file ≡ untouched_room stands.file = get_or-map untouched_room files i stands.file no_room inside ∙ ap untouched_room (stands.there stands.file) in
    let extents : length ((room_at (map untouched_room files) at.file).touched) ≡ stands.file.extents = ap (λ (r : Room). length r.touched) room ∙ length-replicate {A = Bool} stands.file.extents false in
    let number : at.file ≡ i + 1 = omega (arith, cell.has_file.first_file) in
    record {
      file = stands.file;
      there = find-at 1 files i stands.file inside stands.there are.numbers at.file number;
      of_group = sym (ap (λ (r : Room). r.group) room) ∙ lies.1;
      from = cell.first_page;
      below = omega (arith, cell.last_page, extents);
      slot = cell.low_slot;
    }
