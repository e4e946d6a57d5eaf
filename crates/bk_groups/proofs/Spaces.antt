-- The files as rooms, and one file of them that changes.
use Rattle.std.proofs.Common.{◌≡◌, ℕ, ◌-◌, ◌<◌, true, List, length, sym, ap, ◌∙◌, arith, ⊎_elim, length-set, get_or-set_same, get_or-set_other}
use Rattle.std.specs.Prelude.{slice_set, slice_index_or}
use Rattle.std.proofs.Math.ListN.{get_or-map}
use Rattle.std.proofs.Math.Seq.{map-set_same}
use Rattle.std.proofs.lemmas.Bool.{cases_eq}
use Rattle.std.proofs.lemmas.List.{length-map, map-set}
use Rattle.bk_ids.specs.declared.record.Place.{Place}
use Rattle.bk_groups.specs.FileSpace.{FileSpace, HoldsCell, WritesBit, free_bit, with_touched as touched_space}
use Rattle.bk_groups.specs.Groups.{Room, IsCell, HasFile, room_at, with_touched}
use Rattle.bk_groups.specs.Sound.{room_of, rooms_of, no_space, bit_at_place, WritesPlace}

-- a file; files count from 1
abbrev pub space_at : List FileSpace → ℕ → FileSpace
space_at files file = slice_index_or files (file - 1) no_space

pub room_at-rooms_of : (files : List FileSpace) (file : ℕ) → room_at (rooms_of files) file ≡ room_of (space_at files file)
room_at-rooms_of files file = get_or-map room_of files (file - 1) no_space

pub has_file : (files : List FileSpace) (file : ℕ) → HasFile (rooms_of files) file → file - 1 < length files
has_file files file h = omega (arith, h.first_file, h.last_file, length-map files room_of)

-- the cells of a file are those of its room
pub HoldsCell-from : (files : List FileSpace) (at : Place) → IsCell (rooms_of files) at → HoldsCell (space_at files at.file) at.page at.slot
HoldsCell-from files at cell =
    let same : length ((room_at (rooms_of files) at.file).touched) ≡ length ((space_at files at.file).touched) =
    ap (λ (r : Room). length r.touched) (room_at-rooms_of files at.file) in
    record { first_page = cell.first_page; last_page = omega (arith, cell.last_page, same); low_slot = cell.low_slot }

pub WritesPlace-set : (files : List FileSpace) (at : Place) (new : FileSpace) (value : ℕ) → IsCell (rooms_of files) at
    → WritesBit (space_at files at.file) new at.page at.slot value → WritesPlace files (slice_set files (at.file - 1) new) at value
WritesPlace-set files at new value cell writes =
    let k = at.file - 1 in
    let inside : k < length files = has_file files at.file cell.has_file in
    let here : slice_index_or (slice_set files k new) k no_space ≡ new = get_or-set_same files k new no_space inside in
    let same_room : room_of new ≡ room_of (space_at files at.file) = λ i. record { group = writes.same_group i; touched = writes.same_touched i } in
    record {
      rooms = map-set_same room_of files k new no_space same_room;
      len = length-set files k new;
      bit = ap (λ s. free_bit s at.page at.slot) here ∙ writes.bit;
      others = λ other is_cell differ. ⊎_elim
          (λ same.
          let one_file : other.file ≡ at.file = omega (arith, is_cell.has_file.first_file, cell.has_file.first_file) in
          let apart : other.page ≡ at.page → other.slot ≡ at.slot → ⊥ =
          λ page slot. differ (λ i. record { file = one_file i; page = page i; slot = slot i }) in
          ap (λ j. free_bit (slice_index_or (slice_set files k new) j no_space) other.page other.slot) same
          ∙ ap (λ s. free_bit s other.page other.slot) here
          ∙ writes.others other.page other.slot is_cell.first_page is_cell.low_slot apart
          ∙ ap (λ j. free_bit (slice_index_or files j no_space) other.page other.slot) (sym same))
          (λ apart. ap (λ s. free_bit s other.page other.slot) (get_or-set_other files k (other.file - 1) new no_space apart))
          (cases_eq (other.file - 1) k);
    }

-- the rooms and the bits after an extent of a file was touched
pub rooms_of-touched : (files : List FileSpace) (file extent : ℕ)
    → rooms_of (slice_set files (file - 1) (touched_space (space_at files file) extent)) ≡ with_touched (rooms_of files) file extent
rooms_of-touched files file extent =
    map-set room_of files (file - 1) (touched_space (space_at files file) extent)
    ∙ ap (λ (r : Room). slice_set (rooms_of files) (file - 1) (record r { touched = slice_set r.touched (extent - 1) true })) (sym (room_at-rooms_of files file))

pub bits-touched : (files : List FileSpace) (file extent : ℕ) → file - 1 < length files → (at : Place)
    → bit_at_place (slice_set files (file - 1) (touched_space (space_at files file) extent)) at ≡ bit_at_place files at
bits-touched files file extent inside at =
    let k = file - 1 in
    let new = touched_space (space_at files file) extent in
    ⊎_elim
    (λ same. ap (λ j. free_bit (slice_index_or (slice_set files k new) j no_space) at.page at.slot) same
    ∙ ap (λ s. free_bit s at.page at.slot) (get_or-set_same files k new no_space inside)
    ∙ ap (λ j. free_bit (slice_index_or files j no_space) at.page at.slot) (sym same))
    (λ apart. ap (λ s. free_bit s at.page at.slot) (get_or-set_other files k (at.file - 1) new no_space apart))
    (cases_eq (at.file - 1) k)
