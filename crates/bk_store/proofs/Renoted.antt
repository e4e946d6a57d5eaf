-- What is known of a database is put into its note anew.
use Rattle.std.proofs.Common.{◌≡◌, ◌≤◌, ℕ, ◌-◌, List, ◌++◌, ◌⊎◌, length, sym, ◌∙◌, ap, subst, arith, inl, inr}
use Rattle.std.proofs.lemmas.List.{length-map, take_all}
use Rattle.bk_device.specs.Compose.{effect_weaken}
use Rattle.bk_device.specs.Disk.{Disk, Files}
use Rattle.bk_device.specs.Effects.{Effect}
use Rattle.bk_ids.specs.declared.record.RecoveryModel.{RecoveryModel}
use Rattle.bk_known.specs.declared.known.AsOf.{AsOf}
use Rattle.bk_known.specs.declared.known.Known.{Known}
use Rattle.bk_known.specs.Known.{IsKnown, KeepsKnown, known_bytes}
use Rattle.bk_paged.specs.Holds.{Leaves, Stood, needed_from}
use Rattle.bk_paged.specs.Names.{IsOwn}
use Rattle.bk_paged.specs.Paged.{IsPaged, sealed_count, Kept as KeptPaged}
use Rattle.bk_shown.specs.Shown.{Shows}
use Rattle.bk_shown.specs.declared.shown.Shown.{Shown}
use Rattle.bk_undo.specs.Spelled.{spelled as spelled_as}
use Rattle.bk_world.specs.Cut.{end_behind}
use Rattle.bk_world.specs.declared.database.FileSpec.{FileSpec}
use Rattle.bk_world.specs.declared.database.TableSpec.{TableSpec}
use Rattle.bk_world.specs.Records.{Logged}
use Rattle.bk_world.specs.Telling as telling
use Rattle.bk_store.specs.Store.{Crashes, IsStore, Kept, NotesOr}
use Rattle.bk_store.specs.Told.{IsAsOf, IsNoted, Told, below, data_files, files_of, stood_of}
use Rattle.bk_store.specs.FrontLaws.{shown-end, shown-log}
use Rattle.bk_store.specs.LiftLaws.{leaves-lift}

-- ---- a log that is needed from a later number on

raise-paged : (disk : Disk) (p : KeptPaged) (stood : Stood) (n : ℕ) → stood.needed ≤ n → IsPaged disk p stood → IsPaged disk p (needed_from n stood)
raise-paged disk p stood n later is = record {
  standing = is.standing;
  files = is.files;
  same_note = is.same_note;
  ends = is.ends;
  held = is.held;
  needs = omega (arith, is.needs, later);
  kept = is.kept;
  order = is.order;
  sealed = is.sealed;
  recovers = is.recovers;
  frames = is.frames;
  clean = is.clean;
}

raise-leaves : (db least : ℕ) (stood : Stood) (image : Files) (n : ℕ) → stood.needed ≤ n → Leaves db least stood image → Leaves db least (needed_from n stood) image
raise-leaves db least stood image n later here =
    let is = here.2 in (
      here.0,
      here.1,
      record {
        log = is.log;
        checkpoint = is.checkpoint;
        log_is = is.log_is;
        noted = is.noted;
        room = is.room;
        different = is.different;
        held = is.held;
        needs = omega (arith, is.needs, later);
        recovers = is.recovers;
      },
    )

-- ---- another note

-- another note of the layer above, or what is known as of a later number, takes the place of the old one
pub record Renotes (s : Kept) (told : Told) (known : Known) (note bytes : List ℕ) : Type 0 where
  pub noted : IsNoted known (record told { note = note })
  pub later : s.known.as_of.from ≤ known.as_of.from
  pub early : known.as_of.from ≤ s.paged.log.stored
  pub bytes_are : bytes ≡ known_bytes known ++ note

pub noted-crash : (s : Kept) (told : Told) (known : Known) (note bytes : List ℕ) (a b : Disk) → IsStore a s told → Renotes s told known note bytes
    → Effect (IsOwn s.paged.log.db (data_files told)) (λ image. Leaves s.paged.log.db (sealed_count s.paged) (stood_of s.known told) image ⊎ Leaves s.paged.log.db (sealed_count s.paged) (record (stood_of s.known told) { note = bytes }) image) a b
    → NotesOr s told note a b
noted-crash s told known note bytes a b is new effect =
    let log = shown-log (files_of told) told.records s.shown is.shows in
    let db : ℕ = s.paged.log.db in
    let least : ℕ = sealed_count s.paged in
    let stood : Stood = stood_of s.known told in
    effect_weaken (λ image here. elim here [
      | inl old ↦ inl (leaves-lift db least s.known told image is.noted log (omega (arith, is.early)) old)
      | inr put ↦ inr (leaves-lift db least known (record told { note = note }) image new.noted log (omega (arith, new.early))
          (raise-leaves db least (record stood { note = known_bytes known ++ note }) image known.as_of.from new.later (subst (λ (bs : List ℕ). Leaves db least (record stood { note = bs }) image) new.bytes_are put)))
    ]) effect

pub noted-stands : (s : Kept) (told : Told) (known : Known) (note copy bytes : List ℕ) (paged : KeptPaged) (a b : Disk) → IsStore a s told → Renotes s told known note bytes → IsPaged b paged (record (stood_of s.known told) { note = bytes })
    → paged.log.stored ≡ s.paged.log.stored → copy ≡ note → IsStore b (record { paged = paged; shown = s.shown; known = known; note = copy }) (record told { note = note })
noted-stands s told known note copy bytes paged a b is new stands stored same =
    let stood : Stood = stood_of s.known told in
    record {
      paged = raise-paged b paged (record stood { note = known_bytes known ++ note }) known.as_of.from new.later (subst (λ (bs : List ℕ). IsPaged b paged (record stood { note = bs })) new.bytes_are stands);
      shows = is.shows;
      noted = new.noted;
      note = same;
      early = omega (arith, new.early, stored);
    }

-- another note of the layer above
pub renotes : (s : Kept) (told : Told) (note bytes : List ℕ) (a : Disk) → IsStore a s told → length note ≤ 12288 → bytes ≡ known_bytes s.known ++ note → Renotes s told s.known note bytes
renotes s told note bytes a is short are = record {
  noted = record {
    spec = is.noted.spec;
    spelled = is.noted.spelled;
    keeps = is.noted.keeps;
    short = short;
    as_of = is.noted.as_of;
  };
  later = omega arith;
  early = is.early;
  bytes_are = are;
}

-- ---- what is known as of the end

pub as_of-end : (files : List FileSpec) (rs : List Logged) (shown : Shown) (tables : List TableSpec) (model : RecoveryModel) (time : ℕ) → Shows files rs shown → tables ≡ telling.tables rs → model ≡ telling.model rs → time ≡ telling.time rs
    → IsAsOf (record { from = shown.end; tables = tables; model = model; time = time }) rs
as_of-end files rs shown tables model time shows tables_are model_is time_is =
    let ends : shown.end ≡ end_behind rs = shown-end files rs shown shows in
    let all : below shown.end rs ≡ rs = take_all (shown.end - 1) rs (omega (arith, ends)) in
    record {
      some = omega (arith, ends);
      inside = omega (arith, ends);
      tables = tables_are ∙ ap telling.tables (sym all);
      model = model_is ∙ ap telling.model (sym all);
      time = time_is ∙ ap telling.time (sym all);
    }

pub renotes-end : (s : Kept) (told : Told) (as_of : AsOf) (bytes : List ℕ) (a : Disk) → IsStore a s told → s.paged.log.stored ≡ s.paged.log.end → as_of.from ≡ s.shown.end → IsAsOf as_of told.records → IsKnown (record s.known { as_of = as_of })
    → KeepsKnown (record s.known { as_of = as_of }) → bytes ≡ known_bytes (record s.known { as_of = as_of }) ++ s.note → Renotes s told (record s.known { as_of = as_of }) told.note bytes
renotes-end s told as_of bytes a is sealed from says spelled keeps are =
    let ends : s.shown.end ≡ end_behind told.records = shown-end (files_of told) told.records s.shown is.shows in
    record {
      noted = record { spec = is.noted.spec; spelled = spelled; keeps = keeps; short = is.noted.short; as_of = says };
      later = omega (arith, from, ends, is.noted.as_of.inside);
      early = omega (arith, from, ends, sealed, is.paged.ends, length-map told.records spelled_as);
      bytes_are = are ∙ ap (λ (n : List ℕ). known_bytes (record s.known { as_of = as_of }) ++ n) is.note;
    }

-- where the layer above keeps its note
pub one-note : (s : Kept) (told : Told) (a b : Disk) → NotesOr s told told.note a b → Crashes s told a b
one-note s told a b effect = effect_weaken (λ image here. elim here [ inl old ↦ old | inr new ↦ new ]) effect
