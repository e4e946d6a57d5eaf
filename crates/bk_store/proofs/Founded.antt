-- A database as it is made.
use Rattle.std.proofs.Common.{◌≡◌, ◌<◌, ◌^◌, ℕ, ◌⊎◌, List, [], ◌++◌, Option, Some, None, Result, Ok, Err, map, refl, sym, ◌∙◌, ap, subst, arith, lit<, inl, inr}
use Rattle.std.specs.Prelude.{IfOk, IsErrOf, MatchResult, OnOk}
use Rattle.bk_bytes.specs.Codec.{◌>>=◌}
use Rattle.bk_control.specs.Slots.{control_of}
use Rattle.bk_device.specs.Compose.{effect_none, effect_weaken}
use Rattle.bk_device.specs.Disk.{Disk, Files, IsDurable}
use Rattle.bk_device.specs.Effects.{Effect}
use Rattle.bk_facts.specs.declared.facts.DataFile.{DataFile}
use Rattle.bk_ids.specs.declared.guid.Guid.{Guid}
use Rattle.bk_known.specs.declared.known.DatabaseSpec.{DatabaseSpec}
use Rattle.bk_known.specs.Known.{IsKnown, KeepsKnown, known_bytes}
use Rattle.bk_lemmas.specs.Tests.{same_error}
use Rattle.bk_paged.specs.Holds.{Holds, Stood, unwritten}
use Rattle.bk_paged.specs.Making.{HoldsNone}
use Rattle.bk_paged.specs.Names.{IsOwn}
use Rattle.bk_paged.specs.Paged.{IsPaged, Kept as KeptPaged}
use Rattle.bk_paged.specs.SegmentsFiles.{control_file}
use Rattle.bk_paged.specs.SegmentsControl.{read_control}
use Rattle.bk_shown.specs.Shown.{IsNext, Shows}
use Rattle.bk_shown.specs.declared.shown.Shown.{Shown}
use Rattle.bk_world.specs.Records.{Logged, database_made}
use Rattle.bk_world.specs.Telling as telling
use Rattle.bk_world.specs.Telling.{entries}
use Rattle.bk_store.specs.declared.error.StoreError.{StoreError}
use Rattle.bk_store.specs.declared.error.StoreError.TheVariants.{Fault}
use Rattle.bk_store.specs.Making.{Makes, MayDescribe, first_known, founding}
use Rattle.bk_store.specs.Store.{Crashes, IsStore, Kept, at_end}
use Rattle.bk_store.specs.Told.{IsAsOf, IsLogIn, IsNoted, Told, data_file, said, stood_of, unsaid}
use Rattle.bk_store.specs.LiftLaws.{more-leaves}

as_of-first : (spec : DatabaseSpec) → IsAsOf (first_known spec).as_of []
unfolding telling.tables telling.model telling.time entries
as_of-first spec = record {
  some = omega arith;
  inside = omega arith;
  tables = refl;
  model = refl;
  time = refl;
}

keeps-first : (spec : DatabaseSpec) → MayDescribe spec → KeepsKnown (first_known spec)
keeps-first spec may = record { path = may.path; storage = may.storage; tables = omega arith }

noted-first : (spec : DatabaseSpec) → MayDescribe spec → IsKnown (first_known spec) → IsNoted (first_known spec) (unsaid spec [])
noted-first spec may is = record {
  spec = refl;
  spelled = is;
  keeps = keeps-first spec may;
  short = omega arith;
  as_of = as_of-first spec;
}

log-first : (spec : DatabaseSpec) → MayDescribe spec → IsLogIn spec.storage.files []
log-first spec may = record { files_are = may.files; counts = refl; sound = tt; placed = tt }

-- the database is what the layer below made
same-stood : (spec : DatabaseSpec) (files : List DataFile) (bytes : List ℕ) → files ≡ map data_file spec.storage.files → bytes ≡ known_bytes (first_known spec) ++ [] → unwritten files bytes ≡ stood_of (first_known spec) (unsaid spec [])
same-stood spec files bytes files_are bytes_are =
    ap (λ (fs : List DataFile). unwritten fs bytes) files_are ∙ ap (λ (bs : List ℕ). unwritten (map data_file spec.storage.files) bs) bytes_are

-- no log is there
none-image : (db : ℕ) (a : Disk) (image : Files) → IsDurable a (control_file db) → control_of (a.files (control_file db)) ≡ None → a.may (control_file db) (image (control_file db)) → HoldsNone db image
none-image db a image durable none may stood holds =
    let same : control_of (image (control_file db)) ≡ None = ap control_of (durable (image (control_file db)) may) ∙ none in
    let read : (None >>= read_control) ≡ Some (holds.log_is.head, holds.log.note) = subst (λ (o : Option _). (o >>= read_control) ≡ Some (holds.log_is.head, holds.log.note)) same holds.log_is.reads in
    absurd cc

pub none-crash : (db : ℕ) (spec : DatabaseSpec) (a : Disk) → IsDurable a (control_file db) → control_of (a.files (control_file db)) ≡ None → Makes db (unsaid spec []) a a
none-crash db spec a durable none = effect_none a (λ image mine. inl (none-image db a image durable none (mine (control_file db) (inl (inl refl)))))

pub made-crash : (db : ℕ) (spec : DatabaseSpec) (files : List DataFile) (bytes : List ℕ) (a b : Disk) → MayDescribe spec → IsKnown (first_known spec) → files ≡ map data_file spec.storage.files → bytes ≡ known_bytes (first_known spec) ++ []
    → Effect (IsOwn db files) (λ image. HoldsNone db image ⊎ Holds db (unwritten files bytes) image) a b → Makes db (unsaid spec []) a b
made-crash db spec files bytes a b may is files_are bytes_are effect =
    let Own : List DataFile → Type 0 = λ fs. Effect (IsOwn db fs) (λ image. HoldsNone db image ⊎ Holds db (unwritten files bytes) image) a b in
    effect_weaken (λ image here. elim here [
      | inl none ↦ inl none
      | inr holds ↦ inr (
        0,
        omega arith,
        record {
          known = first_known spec;
          noted = noted-first spec may is;
          log = log-first spec may;
          holds = subst (λ (stood : Stood). Holds db stood image) (same-stood spec files bytes files_are bytes_are) holds;
        },
      )
    ]) (subst Own files_are effect)

pub made-stands : (spec : DatabaseSpec) (files : List DataFile) (bytes : List ℕ) (paged : KeptPaged) (shown : Shown) (b : Disk) → MayDescribe spec → IsKnown (first_known spec) → files ≡ map data_file spec.storage.files → bytes ≡ known_bytes (first_known spec) ++ []
    → IsPaged b paged (unwritten files bytes) → paged.log.stored ≡ 1 → Shows spec.storage.files [] shown → IsStore b (record { paged = paged; shown = shown; known = first_known spec; note = [] }) (unsaid spec [])
made-stands spec files bytes paged shown b may is files_are bytes_are stands stored shows = record {
  paged = subst (λ (stood : Stood). IsPaged b paged stood) (same-stood spec files bytes files_are bytes_are) stands;
  shows = shows;
  noted = noted-first spec may is;
  note = refl;
  early = omega (arith, stored);
}

-- ---- its first record

pub founding-next : (s : Kept) (spec : DatabaseSpec) (time : ℕ) (family branch : Guid) → s.paged.log.end ≡ 1 → IsNext spec.storage.files [] (at_end s 0 (database_made time family branch))
founding-next s spec time family branch ends = record {
  number = omega (arith, ends);
  low = subst (λ (n : ℕ). n < 2 ^ 62) (sym ends) (lit< tt);
  may = tt;
  placed = tt;
}

pub founding-is : (s : Kept) (time : ℕ) (family branch : Guid) → s.paged.log.end ≡ 1 → at_end s 0 (database_made time family branch) ≡ founding time family branch
founding-is s time family branch ends = ap (λ (n : ℕ). record { lsn = n; begin = 0; deed = database_made time family branch }) ends

pub making-more : (db : ℕ) (told : Told) (r : Logged) (a b : Disk) → Makes db told a b → Makes db (said told r) a b
making-more db told r a b effect = effect_weaken (λ image here. elim here [ inl none ↦ inl none | inr holds ↦ inr (more-leaves db 0 told r image (omega arith) holds) ]) effect

pub making-then : (s : Kept) (db : ℕ) (told : Told) (b c : Disk) → s.paged.log.db ≡ db → Crashes s told b c → Makes db told b c
making-then s db told b c same effect =
    let Db : ℕ → Type 0 = λ n. Makes n told b c in
    subst Db same (effect_weaken (λ image here. inr (here.0, omega arith, here.2)) effect)

-- a value that is given unless what was done to it has failed
pub unless-ok : {X T E : Type 0} (done : Result X E) (r : Result T E) (v : T) (P : T → Type 0) → MatchResult done (λ _. r ≡ Ok v) (λ e. r ≡ Err e) → OnOk done (P v) → IfOk r P
unless-ok (Ok _) r v P is holds = subst (λ (q : Result _ _). IfOk q P) (sym is) holds
unless-ok (Err e) r v P is holds = subst (λ (q : Result _ _). IfOk q P) (sym is) tt

pub unless-fault : {X T : Type 0} (done : Result X StoreError) (r : Result T StoreError) (v : T) → MatchResult done (λ _. r ≡ Ok v) (λ e. r ≡ Err e) → IsErrOf r Fault → IsErrOf done Fault
unless-fault {T = T} (Ok _) r v is fault = let no : ◌≡◌ {A = Result T StoreError} (Ok v) (Err Fault) = sym is ∙ fault in absurd cc
unless-fault {X} {T} (Err e) r v is fault = let same : IsErrOf {T = T} (Err e) Fault = sym is ∙ fault in same_error {T = T} {U = X} e Fault same
