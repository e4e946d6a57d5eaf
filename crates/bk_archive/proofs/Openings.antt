-- How the set at a position of a medium is opened.
use Rattle.std.proofs.Common.{◌≡◌, inl, inr, ℕ, List, Option, None, Ok, Err, refl, ◌∙◌, ap, sym, subst}
use Rattle.std.specs.Prelude.{IfOk, Result}
use Rattle.bk_body.specs.Slots.{Slot, shown_of}
use Rattle.bk_bytes.specs.Field.{AreBytes}
use Rattle.bk_device.specs.Calls.{ChangesNothing, contents}
use Rattle.bk_device.specs.Disk.{Disk}
use Rattle.bk_device.specs.declared.trouble.Trouble.{Trouble}
use Rattle.bk_gate.specs.Gate.{Kept}
use Rattle.bk_machine.specs.World.{World}
use Rattle.bk_machine.specs.statements.Restore.{read_slot, slots_of}
use Rattle.bk_volume.specs.Media.{HasNoSet, ShowsMedium, count_of, read_medium}
use Rattle.bk_volume.specs.Names.{medium_file}
use Rattle.bk_volume.specs.Stored.{IsSetAt, Opens, Stored}
use Rattle.bk_volume.specs.declared.error.SetError.{SetError}
use Rattle.bk_volume.specs.declared.error.SetError.TheVariants as set
use Rattle.bk_world.specs.declared.rule.Rule.{Rule}
use Rattle.bk_world.specs.declared.rule.Rule.TheVariants.{NoSuchSet, NotMedia, SetDamaged}
use Rattle.bk_archive.specs.declared.opening.OpenedSet.{OpenedSet}
use Rattle.bk_archive.specs.Media.{KeepsMedia}
use Rattle.bk_archive.specs.MediumLaws.{are-kept}
use Rattle.bk_archive.specs.Opened.{AnswersSet, IsFound, set_of}
use Rattle.bk_archive.specs.OpenedLaws.{set-answers, set-is, set-none, set-refused, set-some}
use Rattle.bk_archive.specs.SlotLaws.{damaged-slot}

-- what opening it answers
abbrev pub Answers : ℕ → Disk → Kept → Result Stored SetError → Type 0
Answers position disk kept result = (blob : List ℕ) → IsSetAt (disk.files kept.name) position blob → Opens (contents (disk.files kept.name)) blob result

pub found-opened : (position : ℕ) (disk : Disk) (kept : Kept) (opened : Stored) → ShowsMedium disk kept → (HasNoSet kept position → ⊥) → Answers position disk kept (Ok opened) → IsFound position (disk.files kept.name) (Ok opened)
found-opened position disk kept opened shows some answers =
    let found = set-some position disk kept shows some in
    let opens = answers found.0 found.1 in
    record { blob = found.0; there = found.1; whole = opens.0; opens = opens.1 }

pub found-damaged : (position : ℕ) (disk : Disk) (kept : Kept) (stored found : List ℕ) → ShowsMedium disk kept → (HasNoSet kept position → ⊥) → Answers position disk kept (Err (set.Damaged stored found))
    → IsFound position (disk.files kept.name) (Err (SetDamaged (record { bytes = stored }) (record { bytes = found })))
found-damaged position disk kept stored found shows some answers =
    let there = set-some position disk kept shows some in
    inl (set-is (disk.files kept.name) position there.0 there.1 ∙ ap (λ (s : Slot). read_slot (shown_of s)) (damaged-slot there.0 stored found (answers there.0 there.1)))

pub found-no-set : (position : ℕ) (disk : Disk) (kept : Kept) → ShowsMedium disk kept → (HasNoSet kept position → ⊥) → Answers position disk kept (Err set.NotMedia) → IsFound position (disk.files kept.name) (Err NotMedia)
found-no-set position disk kept shows some answers =
    let there = set-some position disk kept shows some in
    inr (refl, (there.0, there.1, answers there.0 there.1))

pub found-none : (position count : ℕ) (disk : Disk) (kept : Kept) → count ≡ count_of kept → ShowsMedium disk kept → HasNoSet kept position → IsFound position (disk.files kept.name) (Err (NoSuchSet position count))
found-none position count disk kept same shows none = inl (set-none position disk kept shows none ∙ ap (λ (n : ℕ). Err (NoSuchSet position n)) (sym same))

pub found-refused : (position : ℕ) (file : Option (List ℕ)) (rule : Rule) → slots_of (read_medium file) ≡ Err rule → IsFound position file (Err rule)
found-refused position file rule refused = inl (set-refused position (read_medium file) rule refused)

-- ---- in a world

if-ok : {A E : Type 0} {P Q : A → Type 0} (result : Result A E) → ((a : A) → P a → Q a) → IfOk result P → IfOk result Q
if-ok (Ok a) leads holds = leads a holds
if-ok (Err e) leads holds = tt

-- what is answered of the file under a name is of the medium at its path
pub found-at : (position : ℕ) (a b : Disk) (path name : List ℕ) (result : Result (Result OpenedSet Rule) Trouble) → name ≡ medium_file path → ChangesNothing a b
    → IfOk result (λ opened. IsFound position (b.files name) (set_of opened)) → IfOk result (λ opened. IsFound position (a.files (medium_file path)) (set_of opened))
found-at position a b path name result is_name call answer =
    let Named : List ℕ → Type 0 = λ n. IfOk result (λ opened. IsFound position (a.files n) (set_of opened)) in
    let Read : Option (List ℕ) → Type 0 = λ f. IfOk result (λ opened. IsFound position f (set_of opened)) in
    subst Named is_name (subst Read (call.files name) answer)

pub found-world : (position : ℕ) (w : World) (a : Disk) (path : List ℕ) (result : Result (Result OpenedSet Rule) Trouble) → AreBytes path → KeepsMedia w None a.files
    → IfOk result (λ opened. IsFound position (a.files (medium_file path)) (set_of opened)) → IfOk result (λ opened. AnswersSet w path position (a.files (medium_file path)) (set_of opened))
found-world position w a path result bytes media answer =
    if-ok result (λ opened. set-answers w path position (a.files (medium_file path)) (set_of opened) (media.read path bytes) (are-kept w None a.files path media bytes)) answer
