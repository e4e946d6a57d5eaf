-- What is done to other files leaves a store, and what its files hold.
use Rattle.std.proofs.Common.{◌≡◌, ℕ, List, ◌++◌, take, refl, inl, inr, sym, ap, subst, ◌∙◌}
use Rattle.bk_control.specs.Slots.{control_of}
use Rattle.bk_device.specs.Disk.{Disk, Files}
use Rattle.bk_device.specs.Effects.{KeepsFiles}
use Rattle.bk_device.specs.Compose.{keeps_by_effect}
use Rattle.bk_device.specs.Effects.{Effect}
use Rattle.bk_gate.specs.Blobs.{sealed}
use Rattle.bk_facts.specs.declared.facts.DataFile.{DataFile}
use Rattle.bk_ids.specs.declared.record.Rec.{Rec}
use Rattle.bk_reopening.specs.LogLaws.{log_kept, value_kept}
use Rattle.bk_redo.specs.PageStates.{page_of}
use Rattle.bk_paged.specs.Holds.{Holds, IsStored, Recovers, Stood, point_of}
use Rattle.bk_paged.specs.Names.{IsOwn, names_of, shown_at}
use Rattle.bk_paged.specs.Paged.{IsPaged, Standing, Kept as KeptPaged}
use Rattle.bk_redo.specs.declared.place.PageAt.{PageAt}
use Rattle.bk_segments.specs.FileLaws.{log_same}
use Rattle.bk_segments.specs.Files.{control_file, segment_file, Logged as LogValue, IsOwn as IsOfLog}
use Rattle.bk_side.specs.Laws.{added_kept, shown_kept, shown_same, side_kept}
use Rattle.bk_side.specs.Names.{side_file, IsOwn as IsOfSide}
use Rattle.bk_side.specs.Side.{IsOwnOf}
use Rattle.bk_store.specs.Store.{IsStore, Kept}
use Rattle.bk_store.specs.Told.{HoldsRecords, Told, data_files, stood_of}
use Rattle.bk_stores.specs.Beside.{AreApart}
use Rattle.bk_stores.specs.NameLaws.{own-apart}

narrow : {own part : List ℕ → Type 0} {a b : Disk} → ((name : List ℕ) → part name → own name) → KeepsFiles own a b → KeepsFiles part a b
narrow within keeps = record { same = λ name at. keeps.same name (within name at); nothing_more = λ name at. keeps.nothing_more name (within name at) }

-- ---- log and pages

recovers-on : (kept since : ℕ) (files : List DataFile) (one two : PageAt → List ℕ) (records : List Rec) → ((at : PageAt) → two at ≡ one at) → Recovers kept since files one records → Recovers kept since files two records
recovers-on kept since files one two records same is = record {
  path = is.path;
  some = is.some;
  order = is.order;
  early = is.early;
  opened = is.opened;
  room = is.room;
  pages = λ at there. subst (λ (page : List ℕ). IsStored records (point_of since at) at page) (sym (same at)) (is.pages at there);
}

-- what is done to other files leaves log and pages standing
pub physical-kept : {a b : Disk} (p : KeptPaged) → KeepsFiles (IsOwn p.log.db p.facts.files) a b → Standing a p → Standing b p
physical-kept {a} {b} p keeps is =
    let of_log : KeepsFiles (IsOfLog p.log.db) a b = narrow (λ name at. inl at) keeps in
    let of_side : KeepsFiles (IsOfSide (side_file p.log.db) (names_of p.facts.files)) a b = narrow (λ name at. inr at) keeps in
    let own : KeepsFiles (IsOwnOf p.side) a b =
    subst (λ (s : List ℕ). KeepsFiles (IsOfSide s p.side.names) a b) (sym is.side_name) (subst (λ (ns : List (List ℕ)). KeepsFiles (IsOfSide (side_file p.log.db) ns) a b) (sym is.side_names) of_side) in
    record {
      logs = log_kept of_log is.logs;
      side_name = is.side_name;
      side_names = is.side_names;
      sides = side_kept own is.sides;
      fresh = added_kept p.side own ∙ is.fresh;
      noted = is.noted;
      room = is.room;
      different = is.different;
    }

pub paged-kept : {a b : Disk} (p : KeptPaged) (stood : Stood) → KeepsFiles (IsOwn p.log.db stood.files) a b → IsPaged a p stood → IsPaged b p stood
paged-kept {a} {b} p stood keeps is =
    let of_log : KeepsFiles (IsOfLog p.log.db) a b = narrow (λ name at. inl at) keeps in
    let of_side : KeepsFiles (IsOfSide (side_file p.log.db) (names_of stood.files)) a b = narrow (λ name at. inr at) keeps in
    let own : KeepsFiles (IsOwn p.log.db p.facts.files) a b = subst (λ (fs : List DataFile). KeepsFiles (IsOwn p.log.db fs) a b) (sym is.files) keeps in
    let pages : (at : PageAt) → shown_at p.log.db stood.files b.files at ≡ shown_at p.log.db stood.files a.files at = λ at. shown_kept (side_file p.log.db) (names_of stood.files) of_side (at.file, at.page) in
    record {
      standing = physical-kept p own is.standing;
      files = is.files;
      same_note = is.same_note;
      ends = is.ends;
      held = ap (λ (v : LogValue). v.records ++ p.log.waiting) (value_kept of_log is.standing.logs) ∙ is.held;
      needs = is.needs;
      kept = is.kept;
      order = is.order;
      sealed = is.sealed;
      recovers = λ k enough. recovers-on p.log.head.kept p.since stood.files (shown_at p.log.db stood.files a.files) (shown_at p.log.db stood.files b.files) (take k stood.records) pages (is.recovers k enough);
      frames = is.frames;
      clean = λ at there none. ap page_of (pages at) ∙ is.clean at there none;
    }

-- files that agree under a database's names hold the same of it
pub holds-same : (db : ℕ) (stood : Stood) (f g : Files) → ((name : List ℕ) → IsOwn db stood.files name → g name ≡ f name) → Holds db stood f → Holds db stood g
holds-same db stood f g same is = record {
  log = is.log;
  checkpoint = is.checkpoint;
  log_is = log_same db is.log (ap control_of (same (control_file db) (inl (inl refl)))) (λ n. ap sealed (same (segment_file db n) (inl (inr (n, refl))))) is.log_is;
  noted = is.noted;
  room = is.room;
  different = is.different;
  held = is.held;
  needs = is.needs;
  recovers = recovers-on is.log.kept is.checkpoint stood.files (shown_at db stood.files f) (shown_at db stood.files g) stood.records
      (λ at. shown_same (side_file db) (names_of stood.files) f g (ap sealed (same (side_file db) (inr (inl refl)))) (λ name data'. same name (inr (inr data'))) (at.file, at.page)) is.recovers;
}

-- ---- stores

-- what is done to other files leaves a store
pub store-kept : {a b : Disk} (s : Kept) (told : Told) → KeepsFiles (IsOwn s.paged.log.db (data_files told)) a b → IsStore a s told → IsStore b s told
store-kept s told keeps is = record {
  paged = paged-kept s.paged (stood_of s.known told) keeps is.paged;
  shows = is.shows;
  noted = is.noted;
  note = is.note;
  early = is.early;
}

-- and what files hold
pub records-same : (db : ℕ) (told : Told) (f g : Files) → ((name : List ℕ) → IsOwn db (data_files told) name → g name ≡ f name) → HoldsRecords db told f → HoldsRecords db told g
records-same db told f g same is = record {
  known = is.known;
  noted = is.noted;
  log = is.log;
  holds = holds-same db (stood_of is.known told) f g same is.holds;
}

-- A call on one store leaves another.
pub beside-kept : {P : Files → Type 0} {a b : Disk} (db : ℕ) (files : List DataFile) (s : Kept) (told : Told) → AreApart db files s.paged.log.db (data_files told) → Effect (IsOwn db files) P a b → IsStore a s told → IsStore b s told
beside-kept db files s told are effect is = store-kept s told (keeps_by_effect (λ name its own. own-apart db files s.paged.log.db (data_files told) are name own its) effect) is
