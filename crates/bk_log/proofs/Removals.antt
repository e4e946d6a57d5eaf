-- What removing a log did to the device.
use Rattle.std.proofs.Common.{◌≡◌, ◌⊎◌, ◌≤◌, ◌<◌, ℕ, ◌+◌, List, Option, Some, None, refl, inl, inr, sym, ap, subst, ◌∙◌, arith}
use Rattle.bk_bytes.specs.Codec.{◌>>=◌}
use Rattle.bk_control.specs.Slots.{control_of, counting, slot_in}
use Rattle.bk_device.specs.Calls.{ChangesNothing}
use Rattle.bk_device.specs.Compose.{effect_then, effect_widen, effect_of_nothing, keeps_by_effect, keeps_by_nothing, durable_kept}
use Rattle.bk_device.specs.Disk.{Files, Disk, IsDurable}
use Rattle.bk_device.specs.Effects.{Effect, IsName}
use Rattle.bk_segments.specs.declared.head.Head.{Head}
use Rattle.bk_segments.specs.Control.{read_control}
use Rattle.bk_segments.specs.FileLaws.{control_not_segment, foreign_control}
use Rattle.bk_segments.specs.Files.{control_file, segment_file, IsOwn, IsBetween, IsForeign, IsUnheld, Holds, AreGone}

-- an absent file holds no control
none_control : control_of None ≡ None
unfolding counting slot_in
none_control = refl

-- nothing was done
pub remove_nothing : (db : ℕ) (a b : Disk) → IsDurable a (control_file db) → ChangesNothing a b → Effect (IsOwn db) (λ image. (image (control_file db) ≡ a.files (control_file db)) ⊎ (image (control_file db) ≡ None)) a b
remove_nothing db a b durable call = effect_of_nothing (λ image mine. inl (durable (image (control_file db)) (mine (control_file db) (inl refl)))) call

-- the segments were removed
pub remove_between : (db from to : ℕ) (a b c : Disk) → IsDurable a (control_file db) → ChangesNothing a b → Effect (IsBetween db from to) (λ _. Unit {0}) b c
    → Effect (IsOwn db) (λ image. (image (control_file db) ≡ a.files (control_file db)) ⊎ (image (control_file db) ≡ None)) a c
remove_between db from to a b c durable call effect =
    effect_then (remove_nothing db a b durable call)
    (effect_widen (λ name at. inr (at.0, at.3)) (λ image here left. inl (durable (image (control_file db)) (call.nothing_more (control_file db) (image (control_file db)) (left (control_file db) (λ at. control_not_segment db at.0 at.3) (inl refl))))) effect)

between_control : (db from to : ℕ) (a b c : Disk) → ChangesNothing a b → Effect (IsBetween db from to) (λ _. Unit {0}) b c → c.files (control_file db) ≡ a.files (control_file db)
between_control db from to a b c call effect = effect.others (control_file db) (λ at. control_not_segment db at.0 at.3) ∙ call.files (control_file db)

-- and then the control
pub remove_all : (db from to : ℕ) (name : List ℕ) (a b c d : Disk) → name ≡ control_file db → IsDurable a (control_file db) → ChangesNothing a b → Effect (IsBetween db from to) (λ _. Unit {0}) b c
    → Effect (IsName name) (λ image. c.may name (image name) ⊎ (image name ≡ None)) c d
    → Effect (IsOwn db) (λ image. (image (control_file db) ≡ a.files (control_file db)) ⊎ (image (control_file db) ≡ None)) a d
remove_all db from to name a b c d named durable call effect last =
    let At : List ℕ → Type 0 = λ n. Effect (IsName n) (λ image. c.may n (image n) ⊎ (image n ≡ None)) c d in
    let settled : IsDurable c (control_file db) = durable_kept {names = IsName (control_file db)} (control_file db) refl (keeps_by_effect (λ n at there. control_not_segment db there.0 (sym at ∙ there.3)) effect)
    (durable_kept {names = IsName (control_file db)} (control_file db) refl (keeps_by_nothing call) durable) in
    effect_then (remove_between db from to a b c durable call effect)
    (effect_widen (λ n at. inl at) (λ image here left. elim here [
      | inl old ↦ inl (settled (image (control_file db)) old ∙ between_control db from to a b c call effect)
      | inr none ↦ inr none
    ]) (subst At named last))

-- where no record is held there is no log
pub unheld_foreign : (files : Files) (db : ℕ) → IsUnheld files db → IsForeign files db
unheld_foreign files db none log is = none is.head (log.note, is.reads, is.sound)

-- there is no log any more
pub removed_foreign : (files : Files) (db : ℕ) (name : List ℕ) → name ≡ control_file db → files name ≡ None → IsForeign files db
removed_foreign files db name named none = foreign_control files db (ap control_of (subst (λ (n : List ℕ). files n ≡ None) named none) ∙ none_control)

-- what didn't change holds none still
pub unheld_moved : (a b : Disk) (db : ℕ) → ChangesNothing a b → IsUnheld a.files db → IsUnheld b.files db
unheld_moved a b db call none head holds = none head (holds.0, ap (λ (file : Option (List ℕ)). control_of file >>= read_control) (sym (call.files (control_file db))) ∙ holds.1, holds.2)

-- and one that was begun behind them
pub removed_begun : {P : Files → Type 0} (db : ℕ) (head : Head) (name : List ℕ) (a c d : Disk) → name ≡ control_file db → Holds a.files db head → ((n : ℕ) → head.gone ≤ n → n < head.back + 2 → c.files (segment_file db n) ≡ None) → Effect (IsName name) P c d
    → (other : Head) → Holds a.files db other → d.files (segment_file db (other.back + 1)) ≡ None
removed_begun db head name a c d named holds gone effect other held =
    let both : Some (head, holds.0) ≡ Some (other, held.0) = sym holds.1 ∙ held.1 in
    let pair : (head, holds.0) ≡ (other, held.0) = cc in
    let Last : Head → Type 0 = λ h. d.files (segment_file db (h.back + 1)) ≡ None in
    let last : c.files (segment_file db (head.back + 1)) ≡ None = gone (head.back + 1) (omega (arith, holds.2.gone, holds.2.front)) (omega arith) in
    subst Last (ap (λ (p : Head × List ℕ). p.0) pair) (effect.others (segment_file db (head.back + 1)) (λ at. control_not_segment db (head.back + 1) (sym (at ∙ named))) ∙ last)

-- nor is there one where nothing is held
pub none_held : (files : Files) (new : Files) (db : ℕ) → IsUnheld files db → AreGone files new db
none_held files new db none head holds n low high = absurd (none head holds)
