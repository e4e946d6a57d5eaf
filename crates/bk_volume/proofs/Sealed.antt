-- The set whose parts were sealed.
use Rattle.std.proofs.Common.{◌≡◌, ℕ, ◌*◌, List, [], ◌∷◌, ◌++◌, length, take, drop, Option, refl, inl, inr, sym, ap, subst, ◌∙◌, arith, length-append}
use Rattle.std.specs.List.{flat_map, AllByRecursion}
use Rattle.std.proofs.Math.Seq.{take-append_seam, drop-append_seam}
use Rattle.std.proofs.lemmas.List.{take_all}
use Rattle.bk_body.specs.Body.{Extent, Body}
use Rattle.bk_body.specs.Conditions.{IsTable, KeepsExtent, IsBody}
use Rattle.bk_body.specs.Laws.{body_is}
use Rattle.bk_body.specs.Spelling.{front_bytes, extent_bytes, body_bytes, set_bytes}
use Rattle.bk_bytes.specs.Field.{bytes_of}
use Rattle.bk_bytes.specs.FieldLaws.{length-bytes_of}
use Rattle.bk_device.specs.Calls.{read_at}
use Rattle.bk_device.specs.Compose.{effect_weaken}
use Rattle.bk_device.specs.Disk.{Disk}
use Rattle.bk_device.specs.Effects.{Effect, IsName}
use Rattle.bk_gate.specs.Gate.{Kept, IsGate}
use Rattle.bk_header.specs.Conditions.{IsHeader}
use Rattle.bk_world.specs.declared.database.TableSpec.{TableSpec}
use Rattle.bk_world.specs.declared.header.Header.{Header}
use Rattle.bk_world.specs.declared.header.HeaderFile.{HeaderFile}
use Rattle.bk_volume.specs.Media.{HasSets, HasAdded, LeavesAdded, sets_of, IsMedium}
use Rattle.bk_volume.specs.Laws.{sets_are}
use Rattle.bk_volume.specs.Staging.{Staging, staged, IsSetOf}
use Rattle.bk_volume.specs.Writing.{parts_of, with_digest, HasSealed, LeavesGrown}
use Rattle.bk_volume.proofs.Steps.{has_added}

-- the bytes of so many extents
pub length-extents : (files : List HeaderFile) (extents : List Extent) → AllByRecursion (KeepsExtent files) extents → length (flat_map extent_bytes extents) ≡ 65542 * length extents
length-extents files [] keep = refl
length-extents files (extent ∷ extents) keep =
    let one : length (extent_bytes extent) ≡ 65542 = simp (length-append, length-bytes_of) (omega (arith, keep.0.size)) in
    omega (arith, length-append (extent_bytes extent) (flat_map extent_bytes extents), one, length-extents files extents keep.1)

-- the parts are the body
parts_body : (body : Body) (front size file : List ℕ) (n m : ℕ) → front ≡ front_bytes body.header body.tables (length body.extents) → size ≡ bytes_of 8 (length body.log) → file ≡ flat_map extent_bytes body.extents ++ body.log → n ≡ length (flat_map extent_bytes body.extents) → m ≡ length body.log
    → parts_of front file n size m ≡ body_bytes body
unfolding body_bytes
parts_body body front size file n m is_front is_size is_file is_n is_m =
    let extents : List ℕ = flat_map extent_bytes body.extents in
    let first : read_at file 0 n ≡ extents = ap (λ (f : List ℕ). take n f) is_file ∙ ap (λ (k : ℕ). take k (extents ++ body.log)) is_n ∙ take-append_seam extents body.log in
    let behind : drop n file ≡ body.log = ap (drop n) is_file ∙ ap (λ (k : ℕ). drop k (extents ++ body.log)) is_n ∙ drop-append_seam extents body.log in
    let second : read_at file n m ≡ body.log = ap (take m) behind ∙ ap (λ (k : ℕ). take k body.log) is_m ∙ take_all (length body.log) body.log (omega arith) in
    ap (λ (x : List ℕ). x ++ (read_at file 0 n ++ (size ++ read_at file n m))) is_front
    ∙ ap (λ (x : List ℕ). front_bytes body.header body.tables (length body.extents) ++ (x ++ (size ++ read_at file n m))) first
    ∙ ap (λ (x : List ℕ). front_bytes body.header body.tables (length body.extents) ++ (extents ++ (x ++ read_at file n m))) is_size
    ∙ ap (λ (x : List ℕ). front_bytes body.header body.tables (length body.extents) ++ (extents ++ (bytes_of 8 (length body.log) ++ x))) second

-- the blob of a staged set is its spelling
pub set_spelled : (disk : Disk) (set : Staging) (h : Header) (tables : List TableSpec) (body : Body) (front size : List ℕ) → IsSetOf disk set h tables body → front ≡ front_bytes h tables set.extents → size ≡ bytes_of 8 set.log
    → with_digest (parts_of front (staged disk set) (65542 * set.extents) size set.log) ≡ set_bytes body
set_spelled disk set h tables body front size is is_front is_size =
    let n : 65542 * set.extents ≡ length (flat_map extent_bytes body.extents) = omega (arith, length-extents body.header.files body.extents is.keeps.extents, is.parts.count) in
    let fronts : front ≡ front_bytes body.header body.tables (length body.extents) =
    is_front ∙ ap (λ (x : Header). front_bytes x tables set.extents) (sym is.header) ∙ ap (λ (x : List TableSpec). front_bytes body.header x set.extents) (sym is.tables) ∙ ap (front_bytes body.header body.tables) (sym is.parts.count) in
    ap with_digest (parts_body body front size (staged disk set) (65542 * set.extents) set.log fronts (is_size ∙ ap (bytes_of 8) (sym is.parts.size)) is.parts.bytes n (sym is.parts.size))

set_is : (disk : Disk) (set : Staging) (h : Header) (tables : List TableSpec) (body : Body) → IsSetOf disk set h tables body → IsHeader h → AllByRecursion IsTable tables → IsBody body
set_is disk set h tables body is header are = body_is body (subst IsHeader (sym is.header) header) (subst (AllByRecursion IsTable) (sym is.tables) are) is.keeps

-- the set was added
pub set_added : (name : List ℕ) (set : Staging) (h : Header) (tables : List TableSpec) (body : Body) (front size : List ℕ) (file : Option (List ℕ)) {a : Disk} → IsSetOf a set h tables body → IsHeader h → AllByRecursion IsTable tables → front ≡ front_bytes h tables set.extents → size ≡ bytes_of 8 set.log
    → HasSets (sets_of (a.files name)) (a.files name) → HasSealed name (with_digest (parts_of front (staged a set) (65542 * set.extents) size set.log)) a file → HasAdded (sets_of (a.files name)) body file
set_added name set h tables body front size file {a} is header are is_front is_size has sealed_is =
    has_added body (with_digest (parts_of front (staged a set) (65542 * set.extents) size set.log)) (a.files name) file (set_is a set h tables body is header are) (set_spelled a set h tables body front size is is_front is_size) has sealed_is

-- and a crash leaves the sets that there were, or it too
pub set_crash : (name : List ℕ) (set : Staging) (h : Header) (tables : List TableSpec) (body : Body) (front size : List ℕ) {a b : Disk} → IsSetOf a set h tables body → IsHeader h → AllByRecursion IsTable tables → front ≡ front_bytes h tables set.extents → size ≡ bytes_of 8 set.log
    → HasSets (sets_of (a.files name)) (a.files name) → Effect (IsName name) (LeavesGrown name (with_digest (parts_of front (staged a set) (65542 * set.extents) size set.log)) a) a b → Effect (IsName name) (λ image. LeavesAdded (sets_of (a.files name)) body (image name)) a b
set_crash name set h tables body front size {a} {b} is header are is_front is_size has effect =
    effect_weaken (λ image either. elim either [
      | inl same ↦ inl (same ∙ has)
      | inr grown ↦ inr (set_added name set h tables body front size (image name) is header are is_front is_size has grown)
    ]) effect

-- the medium with one more blob
pub medium_grown : (name blob : List ℕ) (a b : Disk) (old new : Kept) → old.name ≡ name → new.name ≡ old.name → HasSets (sets_of (a.files name)) (a.files name) → HasSealed old.name blob a (b.files old.name) → IsGate b new → IsMedium b new
medium_grown name blob a b old new was is has grown gate =
    let Grown : List ℕ → Type 0 = λ n. HasSealed n blob a (b.files n) in
    let all : HasSets (sets_of (a.files name) ++ blob ∷ []) (b.files name) = subst Grown was grown ∙ ap (λ (blobs : List (List ℕ)). blobs ++ blob ∷ []) has in
    let are : sets_of (b.files name) ≡ sets_of (a.files name) ++ blob ∷ [] = sets_are (sets_of (a.files name) ++ blob ∷ []) (b.files name) all in
    let Has : List (List ℕ) → Type 0 = λ sets. HasSets sets (b.files name) in
    let At : List ℕ → Type 0 = λ n. HasSets (sets_of (b.files n)) (b.files n) in
    record { gate = gate; sets = subst At (sym (is ∙ was)) (subst Has (sym are) all) }

-- the same, where the gate tells its name
pub set_added_at : (name kept : List ℕ) (set : Staging) (h : Header) (tables : List TableSpec) (body : Body) (front size : List ℕ) {a : Disk} (b : Disk) → kept ≡ name → IsSetOf a set h tables body → IsHeader h → AllByRecursion IsTable tables → front ≡ front_bytes h tables set.extents → size ≡ bytes_of 8 set.log
    → HasSets (sets_of (a.files name)) (a.files name) → HasSealed kept (with_digest (parts_of front (staged a set) (65542 * set.extents) size set.log)) a (b.files kept) → HasAdded (sets_of (a.files name)) body (b.files name)
set_added_at name kept set h tables body front size {a} b named is header are is_front is_size has sealed_is =
    let At : List ℕ → Type 0 = λ n. HasSealed n (with_digest (parts_of front (staged a set) (65542 * set.extents) size set.log)) a (b.files n) in
    set_added name set h tables body front size (b.files name) is header are is_front is_size has (subst At named sealed_is)

pub set_crash_at : (name kept : List ℕ) (set : Staging) (h : Header) (tables : List TableSpec) (body : Body) (front size : List ℕ) {a b : Disk} → kept ≡ name → IsSetOf a set h tables body → IsHeader h → AllByRecursion IsTable tables → front ≡ front_bytes h tables set.extents → size ≡ bytes_of 8 set.log
    → HasSets (sets_of (a.files name)) (a.files name) → Effect (IsName kept) (LeavesGrown kept (with_digest (parts_of front (staged a set) (65542 * set.extents) size set.log)) a) a b
    → Effect (IsName name) (λ image. LeavesAdded (sets_of (a.files name)) body (image name)) a b
set_crash_at name kept set h tables body front size {a} {b} named is header are is_front is_size has effect =
    let At : List ℕ → Type 0 = λ n. Effect (IsName n) (LeavesGrown n (with_digest (parts_of front (staged a set) (65542 * set.extents) size set.log)) a) a b in
    set_crash name set h tables body front size is header are is_front is_size has (subst At named effect)
