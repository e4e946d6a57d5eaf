-- What is answered for the set at a position of a medium is what the machine answers.
use Rattle.std.proofs.Common.{◌≡◌, ◌<◌, ◌≤◌, ◌⊎◌, inl, inr, ℕ, zero, suc, List, [], ◌∷◌, length, map, Option, None, Some, Ok, Err, refl, sym, ◌∙◌, ap, arith}
use Rattle.std.specs.Prelude.{Result, option_map, slice_get}
use Rattle.std.proofs.lemmas.List.{length-map}
use Rattle.std.proofs.lemmas.Option.{slice_get-map, slice_get_past}
use Rattle.bk_body.specs.Body.{Body}
use Rattle.bk_body.specs.Slots.{Slot, holds, shown_of, slot_of}
use Rattle.bk_device.specs.Disk.{Disk}
use Rattle.bk_gate.specs.Gate.{Kept}
use Rattle.bk_machine.specs.Checks.{◌>>=◌, or_refuse}
use Rattle.bk_machine.specs.World.{World}
use Rattle.bk_machine.specs.statements.Restore.{read_slot, set_at, slots_of}
use Rattle.bk_machine.specs.statements.Restore as restore
use Rattle.bk_volume.specs.Laws.{sets_read, shown_count}
use Rattle.bk_volume.specs.Media.{HasNoSet, ShowsMedium, count_of, read_medium, sets_of, slot_in}
use Rattle.bk_volume.specs.Stored.{IsSetAt, Stored}
use Rattle.bk_world.specs.declared.header.Header.{Header}
use Rattle.bk_world.specs.declared.rule.Rule.{Rule}
use Rattle.bk_world.specs.declared.rule.Rule.TheVariants.{NoSuchSet}
use Rattle.bk_world.specs.Medium.{Reading, Slot as Shown, medium, medium_at}
use Rattle.bk_archive.specs.Listed.{AreSpelled, header_of}
use Rattle.bk_archive.specs.MediumLaws.{AreKept}
use Rattle.bk_archive.specs.Opened.{AnswersSet, IsFound, IsOpened, OpensAt}
use Rattle.bk_archive.specs.SlotLaws.{blob-slot, none-slot, set-medium, spelled-slot}

-- ---- among slots

-- the set at a position is what its slot is read as
pub at-slot : (position : ℕ) (slots : List Shown) (slot : Shown) → restore.slot_at slots position ≡ Some slot → set_at position (Some (medium slots)) ≡ read_slot slot
unfolding set_at
at-slot position slots slot there = ap (λ (o : Option Shown). or_refuse o (NoSuchSet position (length slots)) >>= (λ (s : Shown). read_slot s)) there

-- there is none where there is no slot
at-none : (position n : ℕ) (slots : List Shown) → restore.slot_at slots position ≡ None → length slots ≡ n → set_at position (Some (medium slots)) ≡ Err (NoSuchSet position n)
unfolding set_at
at-none position n slots none same =
    ap (λ (o : Option Shown). or_refuse o (NoSuchSet position (length slots)) >>= (λ (s : Shown). read_slot s)) none ∙ ap (λ (m : ℕ). Err (NoSuchSet position m)) same

slot-past : (position n : ℕ) (slots : List Shown) → (position ≡ 0) ⊎ (n < position) → length slots ≡ n → restore.slot_at slots position ≡ None
slot-past zero n slots out same = refl
slot-past (suc i) n slots (inl none) same = absurd (omega (arith, none))
slot-past (suc i) n slots (inr less) same = slice_get_past slots i (omega (arith, less, same))

pub some-at : {A : Type 0} (xs : List A) (i : ℕ) → (length xs ≤ i → ⊥) → (x : A) × (slice_get xs i ≡ Some x)
some-at [] i inside = absurd (inside (omega arith))
some-at (x ∷ xs) zero inside = (x, refl)
some-at (x ∷ xs) (suc i) inside = some-at xs i (λ past. inside (omega (arith, past)))

-- ---- in a file

-- the slot of the bytes at a position
shown-at : (file : Option (List ℕ)) (position : ℕ) (blob : List ℕ) → IsSetAt file position blob → restore.slot_at (map slot_in (sets_of file)) position ≡ Some (slot_in blob)
shown-at file zero blob there = absurd there
shown-at file (suc i) blob there = slice_get-map slot_in (sets_of file) i ∙ ap (λ (o : Option (List ℕ)). option_map slot_in o) there

-- the set at a position is what its bytes are read as
pub set-is : (file : Option (List ℕ)) (position : ℕ) (blob : List ℕ) → IsSetAt file position blob → set_at position (read_medium file) ≡ read_slot (shown_of (slot_of blob))
set-is file position blob there = ap (set_at position) (set-medium file position blob there).reads ∙ at-slot position (map slot_in (sets_of file)) (slot_in blob) (shown-at file position blob there)

-- there is none
pub set-none : (position : ℕ) (disk : Disk) (kept : Kept) → ShowsMedium disk kept → HasNoSet kept position → set_at position (read_medium (disk.files kept.name)) ≡ Err (NoSuchSet position (count_of kept))
set-none position disk kept is none =
    let sets : List (List ℕ) = sets_of (disk.files kept.name) in
    let same : length (map slot_in sets) ≡ count_of kept = length-map sets slot_in ∙ sym (shown_count is) in
    ap (set_at position) (sets_read sets (disk.files kept.name) is.sets)
    ∙ at-none position (count_of kept) (map slot_in sets) (slot-past position (count_of kept) (map slot_in sets) none same) same

-- there is one
pub set-some : (position : ℕ) (disk : Disk) (kept : Kept) → ShowsMedium disk kept → (HasNoSet kept position → ⊥) → (blob : List ℕ) × IsSetAt (disk.files kept.name) position blob
set-some zero disk kept is some = absurd (some (inl refl))
set-some (suc i) disk kept is some = some-at (sets_of (disk.files kept.name)) i (λ past. some (inr (omega (arith, past, shown_count is))))

-- where there are no slots there is no set
pub set-refused : (position : ℕ) (reading : Option Reading) (rule : Rule) → slots_of reading ≡ Err rule → set_at position reading ≡ Err rule
unfolding set_at
set-refused position reading rule refused = ap (λ (slots : Result (List Shown) Rule). slots >>= (λ (s : List Shown). or_refuse (restore.slot_at s position) (NoSuchSet position (length s)) >>= (λ (slot : Shown). read_slot slot))) refused

-- ---- what is answered

-- the header of what was opened is what the machine reads
pub found-header : (position : ℕ) (file : Option (List ℕ)) (answer : Result Stored Rule) → AreSpelled file → IsFound position file answer → set_at position (read_medium file) ≡ header_of answer
found-header position file (Ok set) whole opens =
    let spelled = whole position opens.blob opens.there opens.whole in
    let slot : slot_of opens.blob ≡ holds spelled.0 = spelled-slot opens.blob spelled.0 spelled.1 in
    set-is file position opens.blob opens.there ∙ ap (λ (s : Slot). read_slot (shown_of s)) slot ∙ ap (λ (h : Header). Ok h) (sym (opens.opens spelled.0 spelled.1).header)
found-header position file (Err rule) whole (inl is) = is
found-header position file (Err rule) whole (inr none) =
    set-is file position none.1.0 none.1.1 ∙ ap (λ (s : Slot). read_slot (shown_of s)) (none-slot none.1.0 (whole position none.1.0 none.1.1) none.1.2) ∙ ap (λ (r : Rule). Err r) (sym none.0)

opened-answers : (w : World) (path : List ℕ) (position : ℕ) (file : Option (List ℕ)) (set : Stored) → medium_at w.media path ≡ read_medium file → AreKept w.history file → OpensAt position file set → IsOpened w path position file set
opened-answers w path position file set same kept opens =
    let spelled = kept.whole position opens.blob opens.there opens.whole in
    let body : Body = spelled.0 in
    let slot : slot_of opens.blob ≡ holds body = spelled-slot opens.blob body spelled.1 in
    let there = blob-slot file position opens.blob opens.there ∙ ap (λ (s : Slot). Some s) slot in
    record {
      body = body;
      is = ap (set_at position) same ∙ set-is file position opens.blob opens.there ∙ ap (λ (s : Slot). read_slot (shown_of s)) slot;
      there = there;
      opened = opens.opens body spelled.1;
      carries = kept.carried position body there;
    }

pub set-answers : (w : World) (path : List ℕ) (position : ℕ) (file : Option (List ℕ)) (answer : Result Stored Rule) → medium_at w.media path ≡ read_medium file → AreKept w.history file → IsFound position file answer → AnswersSet w path position file answer
set-answers w path position file (Ok set) same kept found = opened-answers w path position file set same kept found
set-answers w path position file (Err rule) same kept found = ap (set_at position) same ∙ found-header position file (Err rule) kept.whole found
