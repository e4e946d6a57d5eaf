-- How the headers of the sets of a medium are listed.
use Rattle.std.proofs.Common.{◌≡◌, ◌<◌, ◌+◌, ℕ, suc, List, [], ◌∷◌, ◌++◌, length, map, Option, None, Some, Ok, Err, sym, ◌∙◌, ap, subst, arith}
use Rattle.std.specs.Prelude.{Result, slice_get}
use Rattle.std.proofs.lemmas.List.{length-map}
use Rattle.bk_device.specs.Calls.{ChangesNothing}
use Rattle.bk_device.specs.Disk.{Disk}
use Rattle.bk_machine.specs.statements.Query.{headers_from, headers_of}
use Rattle.bk_machine.specs.statements.Restore.{read_slot, set_at}
use Rattle.bk_machine.specs.statements.Restore as restore
use Rattle.bk_volume.specs.Laws.{sets_read}
use Rattle.bk_volume.specs.Media.{HasSets, read_medium, sets_of, slot_in}
use Rattle.bk_volume.specs.Stored.{Stored}
use Rattle.bk_world.specs.declared.header.Header.{Header}
use Rattle.bk_world.specs.declared.rule.Rule.{Rule}
use Rattle.bk_world.specs.Medium.{Reading, Slot}
use Rattle.bk_archive.specs.Listed.{AreSpelled, Lists, header_of}
use Rattle.bk_archive.specs.ListedLaws.{AreListed, listed-all, listed-more, listed-refused}
use Rattle.bk_archive.specs.Opened.{IsFound}
use Rattle.bk_archive.specs.OpenedLaws.{at-slot, found-header, some-at}

-- the slots of a file
abbrev pub slots_in : Option (List ℕ) → List Slot
slots_in file = map slot_in (sets_of file)

-- the headers of the first so many sets of a file were listed
abbrev pub ListsFirst : Option (List ℕ) → ℕ → List (ℕ × Header) → Type 0
ListsFirst file n sets = AreSpelled file → AreListed (slots_in file) n sets

-- what was found next is what its slot is read as
record IsRead (file : Option (List ℕ)) (n : ℕ) (answer : Result Stored Rule) : Type 0 where
  slot : Slot
  there : slice_get (slots_in file) n ≡ Some slot
  is : read_slot slot ≡ header_of answer

found-read : (file : Option (List ℕ)) (n : ℕ) (answer : Result Stored Rule) → HasSets (sets_of file) file → n < length (sets_of file) → AreSpelled file → IsFound (n + 1) file answer → IsRead file n answer
found-read file n answer has inside whole found =
    let slot = some-at (slots_in file) n (λ past. omega (arith, inside, past, length-map (sets_of file) slot_in)) in
    record {
      slot = slot.0;
      there = slot.1;
      is =
          sym (at-slot (n + 1) (slots_in file) slot.0 (ap (λ (p : ℕ). restore.slot_at (slots_in file) p) next ∙ slot.1)) ∙ ap (set_at (n + 1)) (sym (sets_read (sets_of file) file has)) ∙ found-header (n + 1) file answer whole found;
    }
  where
    next : n + 1 ≡ suc n
    next = omega arith

-- what is listed of a medium
listed-of : (file : Option (List ℕ)) → HasSets (sets_of file) file → headers_of (read_medium file) None ≡ headers_from 1 (slots_in file)
listed-of file has = ap (λ (r : Option Reading). headers_of r None) (sets_read (sets_of file) file has)

pub first-more : (file : Option (List ℕ)) (n : ℕ) (sets : List (ℕ × Header)) (set : Stored) → HasSets (sets_of file) file → n < length (sets_of file) → ListsFirst file n sets → IsFound (n + 1) file (Ok set) → ListsFirst file (n + 1) (sets ++ (n + 1, set.header) ∷ [])
first-more file n sets set has inside listed found = λ whole.
    let read = found-read file n (Ok set) has inside whole found in
    listed-more (slots_in file) n sets read.slot set.header read.there read.is (listed whole)

pub first-refused : (file : Option (List ℕ)) (n : ℕ) (sets : List (ℕ × Header)) (rule : Rule) → HasSets (sets_of file) file → n < length (sets_of file) → ListsFirst file n sets → IsFound (n + 1) file (Err rule) → Lists file (Err rule)
first-refused file n sets rule has inside listed found = λ whole.
    let read = found-read file n (Err rule) has inside whole found in
    listed-of file has ∙ listed-refused (slots_in file) n sets read.slot rule read.there read.is (listed whole)

pub first-all : (file : Option (List ℕ)) (n : ℕ) (sets : List (ℕ × Header)) → HasSets (sets_of file) file → n ≡ length (sets_of file) → ListsFirst file n sets → Lists file (Ok sets)
first-all file n sets has all listed = λ whole. listed-of file has ∙ listed-all (slots_in file) n sets (all ∙ sym (length-map (sets_of file) slot_in)) (listed whole)

-- what was found behind a call that changes nothing stands there
pub found-same : (position : ℕ) (a b : Disk) (name : List ℕ) (answer other : Result Stored Rule) → ChangesNothing a b → answer ≡ other → IsFound position (b.files name) answer → IsFound position (a.files name) other
found-same position a b name answer other call same found =
    subst (λ (r : Result Stored Rule). IsFound position (a.files name) r) same (subst (λ (f : Option (List ℕ)). IsFound position f answer) (call.files name) found)
