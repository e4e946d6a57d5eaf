-- Extents that are copied one behind the other.
use Rattle.std.proofs.Common.{◌≡◌, ◌≤◌, ◌+◌, ℕ, zero, suc, false, List, [], ◌∷◌, ◌++◌, length, take, Some, refl, inl, sym, ap, subst, ◌∙◌, append_assoc, add-one, arith}
use Rattle.std.proofs.lemmas.List.{append-nil, take_all}
use Rattle.std.specs.Prelude.{slice_get}
use Rattle.bk_body.specs.Body.{Extent}
use Rattle.bk_device.specs.Compose.{effect_none, effect_then, effect_weaken}
use Rattle.bk_device.specs.Disk.{Disk, Files}
use Rattle.bk_device.specs.Effects.{Effect}
use Rattle.bk_facts.specs.declared.facts.DataFile.{DataFile}
use Rattle.bk_facts.specs.declared.facts.Facts.{Facts}
use Rattle.bk_ids.specs.declared.record.ExtentId.{ExtentId}
use Rattle.bk_paged.specs.Paged.{Standing}
use Rattle.bk_store.specs.Copying.{IsExtentOf}
use Rattle.bk_store.specs.Store.{IsStore, Kept, sealed_in}
use Rattle.bk_store.specs.Told.{LeavesRecords, Told, data_files}
use Rattle.bk_volume.specs.Staging.{HoldsParts, IsStaged, Staging}
use Rattle.bk_copying.specs.Copying.{AreCopies, CopyCrashes, IsAsBefore, IsCopy, IsOfBoth, TouchesBoth}
use Rattle.bk_copying.proofs.Kept.{store-left}

-- ---- lists

pub take-more : (ids : List ExtentId) (i : ℕ) (id : ExtentId) → slice_get ids i ≡ Some id → take (i + 1) ids ≡ take i ids ++ id ∷ []
take-more ids i id there = ap (λ (k : ℕ). take k ids) (add-one i) ∙ by ids i there
  where
    by : (xs : List ExtentId) (k : ℕ) → slice_get xs k ≡ Some id → take (suc k) xs ≡ take k xs ++ id ∷ []
    by [] k is = absurd cc
    by (x ∷ xs) zero is = let same : x ≡ id = cc in ap (λ (y : ExtentId). y ∷ []) same
    by (x ∷ xs) (suc k) is = ap (λ (ys : List ExtentId). x ∷ ys) (by xs k is)

copies-more : (told : Told) (ids : List ExtentId) (copies : List Extent) (id : ExtentId) (copy : Extent) → AreCopies told ids copies → IsCopy told id copy → AreCopies told (ids ++ id ∷ []) (copies ++ copy ∷ [])
copies-more told [] [] id copy all one = (one, tt)
copies-more told [] (c ∷ copies) id copy all one = absurd all
copies-more told (i ∷ ids) [] id copy all one = absurd all
copies-more told (i ∷ ids) (c ∷ copies) id copy all one = (all.0, copies-more told ids copies id copy all.1 one)

-- ---- steps

-- So many of these extents have been copied.
pub record Copying (tells : Type 0) (ids : List ExtentId) (n : ℕ) (a b : Disk) (s then : Kept) (set now : Staging) : Type 0 where
  pub same : IsAsBefore s then
  pub counted : now ≡ record set { extents = set.extents + n }
  pub stands : tells → (told : Told) → IsStore a s told → IsStore b then told
  pub standing : tells → Standing b then.paged
  pub later : tells → (told : Told) → IsStore a s told → s.paged.log.stored ≤ then.paged.log.stored
  pub staged : tells → IsStaged b now
  pub added : tells → (told : Told) → IsStore a s told → (before : List Extent) → HoldsParts a set before [] → (more : List Extent) × AreCopies told (take n ids) more × HoldsParts b now (before ++ more) []
  pub crash : tells → (told : Told) → IsStore a s told → CopyCrashes s set told a b
  pub touches : tells → TouchesBoth s set a b

pub copying-begins : (tells : Type 0) (ids : List ExtentId) (a : Disk) (s : Kept) (set : Staging) → s.paged.failed ≡ false → (tells → Standing a s.paged) → (tells → IsStaged a set) → Copying tells ids 0 a a s s set set
copying-begins tells ids a s set fit standing staged = record {
  same = record { fit = fit; db = refl; ends = refl; kept = refl; facts = refl; shown = refl; known = refl; note = refl };
  counted = ap (λ (n : ℕ). record set { extents = n }) (omega arith);
  stands = λ t told is. is;
  standing = standing;
  later = λ t told is. omega arith;
  staged = staged;
  added = λ t told is before parts. ([], tt, subst (λ (es : List Extent). HoldsParts a set es []) (sym (append-nil before)) parts);
  crash = λ t told is. effect_none a (λ image mine. store-left s told a image is (λ name own. mine name (inl own)));
  touches = λ t. effect_none a (λ image mine. tt);
}

-- what a crash leaves in the next step
pub copying-crash : {tells : Type 0} {ids : List ExtentId} {n : ℕ} {a b : Disk} {s then : Kept} {set now : Staging} (c : Disk) → Copying tells ids n a b s then set now → (tells → (told : Told) → IsStore b then told → CopyCrashes then now told b c)
    → tells → (told : Told) → IsStore a s told → CopyCrashes s set told a c
copying-crash {tells} {ids} {n} {a} {b} {s} {then} {set} {now} c copying next t told is =
    let Of : ℕ → Staging → Type 0 = λ db x. Effect (IsOfBoth db (data_files told) x) (LeavesRecords db (sealed_in then) told) b c in
    let here : Of s.paged.log.db (record set { extents = set.extents + n }) =
    subst (Of s.paged.log.db) copying.counted (subst (λ (db : ℕ). Of db now) copying.same.db (next t told (copying.stands t told is))) in
    let least : (image : Files) → LeavesRecords s.paged.log.db (sealed_in then) told image → LeavesRecords s.paged.log.db (sealed_in s) told image = λ image left. (left.0, omega (arith, left.1, copying.later t told is), left.2) in
    effect_then (copying.crash t told is) (effect_weaken least here)

-- and what it touches
pub copying-touches : {tells : Type 0} {ids : List ExtentId} {n : ℕ} {a b : Disk} {s then : Kept} {set now : Staging} (c : Disk) → Copying tells ids n a b s then set now → (tells → TouchesBoth then now b c) → tells → TouchesBoth s set a c
copying-touches {tells} {ids} {n} {a} {b} {s} {then} {set} {now} c copying next t =
    let Of : ℕ → List DataFile → Staging → Type 0 = λ db files x. Effect (IsOfBoth db files x) (λ _. Unit {0}) b c in
    let of-db : Of s.paged.log.db then.paged.facts.files now = subst (λ (db : ℕ). Of db then.paged.facts.files now) copying.same.db (next t) in
    let of-files : Of s.paged.log.db s.paged.facts.files now = subst (λ (f : Facts). Of s.paged.log.db f.files now) copying.same.facts of-db in
    let here : Of s.paged.log.db s.paged.facts.files (record set { extents = set.extents + n }) = subst (Of s.paged.log.db s.paged.facts.files) copying.counted of-files in
    effect_then (copying.touches t) here

pub copying-name : {tells : Type 0} {ids : List ExtentId} {n : ℕ} {a b : Disk} {s then : Kept} {set now : Staging} → Copying tells ids n a b s then set now → now.name ≡ set.name
copying-name copying = ap (λ (x : Staging). x.name) copying.counted

then-before : (s then last : Kept) → IsAsBefore s then → IsAsBefore then last → IsAsBefore s last
then-before s then last first second = record {
  fit = second.fit;
  db = second.db ∙ first.db;
  ends = second.ends ∙ first.ends;
  kept = second.kept ∙ first.kept;
  facts = second.facts ∙ first.facts;
  shown = second.shown ∙ first.shown;
  known = second.known ∙ first.known;
  note = second.note ∙ first.note;
}

-- one extent more
pub copying-more : {tells : Type 0} {ids : List ExtentId} {n : ℕ} {a b : Disk} {s then : Kept} {set now : Staging} (c : Disk) (last : Kept) (more : Staging) (id : ExtentId) (bytes : List ℕ) → Copying tells ids n a b s then set now
    → slice_get ids n ≡ Some id
    → IsAsBefore then last
    → more ≡ record now { extents = now.extents + 1 }
    → (tells → (told : Told) → IsStore b then told → IsStore c last told)
    → (tells → Standing c last.paged)
    → (tells → (told : Told) → IsStore b then told → then.paged.log.stored ≤ last.paged.log.stored)
    → (tells → IsStaged c more)
    → (tells → (told : Told) → IsStore b then told → IsExtentOf told id.file id.extent bytes)
    → (tells → (es : List Extent) → HoldsParts b now es [] → HoldsParts c more (es ++ (record { file = id.file; extent = id.extent; bytes = bytes }) ∷ []) [])
    → (tells → (told : Told) → IsStore b then told → CopyCrashes then now told b c)
    → (tells → TouchesBoth then now b c)
    → Copying tells ids (n + 1) a c s last set more
copying-more {tells} {ids} {n} {a} {b} {s} {then} {set} {now} c last more id bytes copying there same counted stands standing later staged copied added crash touches =
    let copy : Extent = record { file = id.file; extent = id.extent; bytes = bytes } in
    record {
      same = then-before s then last copying.same same;
      counted = counted ∙ ap (λ (x : Staging). record x { extents = x.extents + 1 }) copying.counted ∙ ap (λ (k : ℕ). record set { extents = k }) (omega arith);
      stands = λ t told is. stands t told (copying.stands t told is);
      standing = standing;
      later = λ t told is. omega (arith, copying.later t told is, later t told (copying.stands t told is));
      staged = staged;
      added = λ t told is before parts.
          let front = copying.added t told is before parts in
          let one : IsCopy told id copy = record { file = refl; number = refl; is_extent = copied t told (copying.stands t told is) } in (
            front.0 ++ copy ∷ [],
            subst (λ (xs : List ExtentId). AreCopies told xs (front.0 ++ copy ∷ [])) (sym (take-more ids n id there)) (copies-more told (take n ids) front.0 id copy front.1 one),
            subst (λ (es : List Extent). HoldsParts c more es []) (append_assoc before front.0 (copy ∷ [])) (added t (before ++ front.0) front.2),
          );
      crash = copying-crash c copying crash;
      touches = copying-touches c copying touches;
    }

-- all are copied
pub copying-all : {tells : Type 0} {ids : List ExtentId} {n : ℕ} {a b : Disk} {s then : Kept} {set now : Staging} → Copying tells ids n a b s then set now → n ≡ length ids → tells → (told : Told) → IsStore a s told → (before : List Extent) → HoldsParts a set before []
    → (more : List Extent) × AreCopies told ids more × HoldsParts b now (before ++ more) []
copying-all {tells} {ids} {n} {a} {b} {s} {then} {set} {now} copying all t told is before parts =
    let front = copying.added t told is before parts in
    (front.0, subst (λ (xs : List ExtentId). AreCopies told xs front.0) (take_all n ids (omega (arith, all))) front.1, front.2)
