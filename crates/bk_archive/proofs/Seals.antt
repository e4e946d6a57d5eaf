-- A set is sealed behind those on a medium.
use Rattle.std.proofs.Common.{◌≡◌, ◌⊎◌, inl, inr, ℕ, List, length, None, Some, Ok, Err, refl, sym, ◌∙◌, ap, subst}
use Rattle.std.specs.Prelude.{IsErrAnd, IsErrOf, Result}
use Rattle.bk_body.specs.Body.{Body}
use Rattle.bk_bytes.specs.Field.{AreBytes}
use Rattle.bk_device.specs.Calls.{CallsOn, ChangesNothing, LeavesSame, contents}
use Rattle.bk_device.specs.Compose.{effect_of_nothing, effect_of_sync, effect_then, effect_widen}
use Rattle.bk_device.specs.Disk.{Disk, IsDurable, IsLawful}
use Rattle.bk_device.specs.Effects.{Effect, IsName}
use Rattle.bk_device.specs.Laws.{nothing_by_sync, nothing_then}
use Rattle.bk_volume.specs.declared.error.LoadError.{LoadError}
use Rattle.bk_volume.specs.declared.error.LoadError.TheVariants as load
use Rattle.bk_volume.specs.Media.{HasAdded, HasSets, LeavesAdded, read_medium, sets_of}
use Rattle.bk_volume.specs.Names.{medium_file}
use Rattle.bk_volume.specs.Staging.{IsSetOf, IsStaged, Staging}
use Rattle.bk_world.specs.declared.database.TableSpec.{TableSpec}
use Rattle.bk_world.specs.declared.header.Header.{Header}
use Rattle.bk_world.specs.Medium.{not_media}
use Rattle.bk_archive.specs.ActLaws.{media-sealed, media-stay}
use Rattle.bk_archive.specs.Calls.{HasSealed, LeavesSealing}
use Rattle.bk_archive.specs.declared.error.SealError.{SealError}
use Rattle.bk_archive.specs.declared.error.SealError.TheVariants.{NoMedium}
use Rattle.bk_archive.specs.DiskLaws.{calm-nothing, media-left, one-durable, others-after, others-left}
use Rattle.bk_archive.specs.Errors.{loaded_error}
use Rattle.bk_archive.specs.Media.{IfDurable, IsMediumFile, MediaAreDurable}
use Rattle.bk_archive.specs.MediaLaws.{media-in}

-- ---- nothing is changed

-- so the staged parts are the same
pub staged-on : {a c : Disk} (set : Staging) → ChangesNothing a c → IsStaged a set → IsStaged c set
staged-on set call is = ap (λ f. length (contents f)) (call.files set.name) ∙ is

pub set-on : {a c : Disk} (set : Staging) (h : Header) (ts : List TableSpec) (body : Body) → ChangesNothing a c → IsSetOf a set h ts body → IsSetOf c set h ts body
set-on set h ts body call is = record {
  header = is.header;
  tables = is.tables;
  parts = record { count = is.parts.count; size = is.parts.size; bytes = ap contents (call.files set.name) ∙ is.parts.bytes };
  keeps = is.keeps;
}

-- and a crash leaves the media
pub seal-nothing : (a b : Disk) (path : List ℕ) (body : Body) → ChangesNothing a b → Effect IsMediumFile (IfDurable a (LeavesSealing path body a.files)) a b
seal-nothing a b path body call = effect_of_nothing (λ image left durable w media carries. inl (media-in w None a.files image (media-left a image durable left) media)) call

pub seal-synced : (a b : Disk) (path name : List ℕ) (body : Body) → AreBytes path → name ≡ medium_file path → CallsOn name LeavesSame a b → Effect IsMediumFile (IfDurable a (LeavesSealing path body a.files)) a b
seal-synced a b path name body bytes is_name call = effect_of_sync (path, bytes, is_name) (λ image left durable w media carries. inl (media-in w None a.files image (media-left a image durable left) media)) call

-- ---- the set is added

-- the medium that it is added to, where only reads were done
pub record SealsOn (a c : Disk) (path name : List ℕ) : Type 0 where
  pub call : ChangesNothing a c
  pub bytes : AreBytes path
  pub is_name : name ≡ medium_file path
  pub has : HasSets (sets_of (c.files name)) (c.files name)

-- it was synced and loaded
pub seals-on : {synced : List ℕ} (a b c : Disk) (path name : List ℕ) → IsLawful a → CallsOn synced LeavesSame a b → b.files synced ≡ a.files synced → ChangesNothing b c → AreBytes path → name ≡ medium_file path → HasSets (sets_of (c.files name)) (c.files name) → SealsOn a c path name
seals-on a b c path name lawful call same loading bytes is_name has = record { call = nothing_then lawful (nothing_by_sync call same) loading; bytes = bytes; is_name = is_name; has = has }

-- a crash in it leaves the sets that there were, or this one too
abbrev pub Adds : List ℕ → Body → Disk → Disk → Type 0
Adds name body c d = Effect (IsName name) (λ image. LeavesAdded (sets_of (c.files name)) body (image name)) c d

added-at : (a c d : Disk) (path : List ℕ) (body : Body) → SealsOn a c path (medium_file path) → Adds (medium_file path) body c d → Effect IsMediumFile (IfDurable a (LeavesSealing path body a.files)) a d
added-at a c d path body on effect =
    effect_then (seal-nothing a c path body on.call)
    (effect_widen (λ name is. (path, on.bytes, is))
    (λ image here rest durable w media carries.
    let was = media-in w None a.files c.files (λ other are. on.call.files (medium_file other)) media in
    let others = others-left c image path on.bytes (calm-nothing on.call durable) rest in
    elim here [
      | inl same ↦ inl (media-stay w c.files image path (sets_of (c.files (medium_file path))) on.bytes was others on.has same)
      | inr added ↦ inr (media-sealed w c.files image path (sets_of (c.files (medium_file path))) body on.bytes was others on.has added carries)
    ]) effect)

pub seal-added : (a c d : Disk) (path name : List ℕ) (body : Body) → SealsOn a c path name → Adds name body c d → Effect IsMediumFile (IfDurable a (LeavesSealing path body a.files)) a d
seal-added a c d path name body on effect =
    let At : List ℕ → Type 0 = λ n. SealsOn a c path n × Adds n body c d in
    let both : At (medium_file path) = subst At on.is_name (on, effect) in
    added-at a c d path body both.0 both.1

-- afterwards it is there
has-at : (a c d : Disk) (path : List ℕ) (body : Body) → SealsOn a c path (medium_file path) → Adds (medium_file path) body c d → HasAdded (sets_of (c.files (medium_file path))) body (d.files (medium_file path)) → HasSealed path body a.files d.files
has-at a c d path body on effect added w media carries =
    media-sealed w c.files d.files path (sets_of (c.files (medium_file path))) body on.bytes (media-in w None a.files c.files (λ other are. on.call.files (medium_file other)) media)
    (others-after c d path on.bytes effect) on.has added carries

pub seal-has : (a c d : Disk) (path name : List ℕ) (body : Body) → SealsOn a c path name → Adds name body c d → HasAdded (sets_of (c.files name)) body (d.files name) → HasSealed path body a.files d.files
seal-has a c d path name body on effect added =
    let At : List ℕ → Type 0 = λ n. SealsOn a c path n × Adds n body c d × HasAdded (sets_of (c.files n)) body (d.files n) in
    let all : At (medium_file path) = subst At on.is_name (on, effect, added) in
    has-at a c d path body all.0 all.1 all.2

-- and nothing is pending in media
pub seal-calm : (a c d : Disk) (path name : List ℕ) (body : Body) → SealsOn a c path name → Adds name body c d → IsDurable d name → MediaAreDurable a → MediaAreDurable d
seal-calm a c d path name body on effect durable calm =
    let At : List ℕ → Type 0 = λ n. Adds n body c d × IsDurable d n in
    let both : At (medium_file path) = subst At on.is_name (effect, durable) in
    one-durable c d path both.0 both.1 (calm-nothing on.call calm)

-- ---- only the medium's file is touched

pub spares-nothing : (a b : Disk) (path : List ℕ) → ChangesNothing a b → Effect (IsName (medium_file path)) (λ image. Unit {0}) a b
spares-nothing a b path call = effect_of_nothing (λ image left. tt) call

pub spares-synced : (a b : Disk) (path name : List ℕ) → name ≡ medium_file path → CallsOn name LeavesSame a b → Effect (IsName (medium_file path)) (λ image. Unit {0}) a b
spares-synced a b path name is_name call = effect_of_sync is_name (λ image left. tt) call

pub spares-added : (a c d : Disk) (path name : List ℕ) → ChangesNothing a c → name ≡ medium_file path → Effect (IsName name) (λ image. Unit {0}) c d → Effect (IsName (medium_file path)) (λ image. Unit {0}) a d
spares-added a c d path name call is_name effect =
    let At : List ℕ → Type 0 = λ n. Effect (IsName n) (λ image. Unit {0}) c d in
    effect_then (spares-nothing a c path call) (subst At is_name effect)

-- ---- there is no medium

pub unloaded : {T A : Type 0} (a b : Disk) (path name : List ℕ) (error : LoadError) (result : Result A SealError) → ChangesNothing a b → name ≡ medium_file path
    → (IsErrOf {T = T} (Err error) load.Missing → b.files name ≡ None) → (IsErrOf {T = T} (Err error) load.NotMedia → read_medium (b.files name) ≡ Some not_media)
    → IsErrAnd result (λ e. e ≡ loaded_error error) → IsErrOf result NoMedium → (a.files (medium_file path) ≡ None) ⊎ (read_medium (a.files (medium_file path)) ≡ Some not_media)
unloaded a b path name load.Missing result call is_name missing foreign gives is =
    inl (sym (call.files (medium_file path)) ∙ subst (λ n. b.files n ≡ None) is_name (missing refl))
unloaded a b path name load.NotMedia result call is_name missing foreign gives is =
    inr (ap read_medium (sym (call.files (medium_file path))) ∙ subst (λ n. read_medium (b.files n) ≡ Some not_media) is_name (foreign refl))
unloaded a b path name load.Fault (Err error) call is_name missing foreign gives is = absurd (cc)
unloaded a b path name load.Fault (Ok value) call is_name missing foreign gives is = absurd gives
unloaded a b path name load.NoMemory (Err error) call is_name missing foreign gives is = absurd (cc)
unloaded a b path name load.NoMemory (Ok value) call is_name missing foreign gives is = absurd gives
