-- What is done to other files leaves a store.
use Rattle.std.proofs.Common.{◌≡◌, ℕ, List, ◌++◌, take, inl, inr, sym, ap, subst, ◌∙◌, arith}
use Rattle.bk_device.specs.Disk.{Disk, Files}
use Rattle.bk_device.specs.Effects.{KeepsFiles, MayLeaveOwn}
use Rattle.bk_facts.specs.declared.facts.DataFile.{DataFile}
use Rattle.bk_ids.specs.declared.record.Rec.{Rec}
use Rattle.bk_paged.specs.LogLaws.{log_kept, value_kept}
use Rattle.bk_paged.specs.Holds.{IsStored, Recovers, Stood, point_of}
use Rattle.bk_paged.specs.Leaving.{still_holds}
use Rattle.bk_paged.specs.Names.{IsOwn, names_of, shown_at}
use Rattle.bk_paged.specs.Paged.{IsPaged, Standing, sealed_count, Kept as KeptPaged}
use Rattle.bk_redo.specs.PageStates.{page_of}
use Rattle.bk_redo.specs.declared.place.PageAt.{PageAt}
use Rattle.bk_segments.specs.Files.{Logged as LogValue, IsOwn as IsOfLog}
use Rattle.bk_side.specs.Laws.{added_kept, shown_kept, side_kept}
use Rattle.bk_side.specs.Names.{side_file, IsOwn as IsOfSide}
use Rattle.bk_side.specs.Side.{IsOwnOf}
use Rattle.bk_store.specs.FrontLaws.{shown-log}
use Rattle.bk_store.specs.LiftLaws.{leaves-lift}
use Rattle.bk_store.specs.Store.{IsStore, Kept, sealed_in}
use Rattle.bk_store.specs.Told.{LeavesRecords, Told, data_files, files_of, stood_of}

narrow : {own part : List ℕ → Type 0} {a b : Disk} → ((name : List ℕ) → part name → own name) → KeepsFiles own a b → KeepsFiles part a b
narrow within keeps = record { same = λ name at. keeps.same name (within name at); nothing_more = λ name at. keeps.nothing_more name (within name at) }

recovers-on : (kept since : ℕ) (files : List DataFile) (one two : PageAt → List ℕ) (records : List Rec) → ((at : PageAt) → two at ≡ one at) → Recovers kept since files one records → Recovers kept since files two records
recovers-on kept since files one two records same is = record {
  path = is.path;
  some = is.some;
  order = is.order;
  early = is.early;
  opened = is.opened;
  room = is.room;
  pages = λ at there. subst (λ (page : List ℕ). IsStored records (point_of since at) at page) (sym (same at)) (is.pages at there);
}

-- log and pages stand as before
pub standing-kept : {a b : Disk} (p : KeptPaged) → KeepsFiles (IsOwn p.log.db p.facts.files) a b → Standing a p → Standing b p
standing-kept {a} {b} p keeps is =
    let of_log : KeepsFiles (IsOfLog p.log.db) a b = narrow (λ name at. inl at) keeps in
    let of_side : KeepsFiles (IsOfSide (side_file p.log.db) (names_of p.facts.files)) a b = narrow (λ name at. inr at) keeps in
    let own : KeepsFiles (IsOwnOf p.side) a b =
    subst (λ (s : List ℕ). KeepsFiles (IsOfSide s p.side.names) a b) (sym is.side_name) (subst (λ (ns : List (List ℕ)). KeepsFiles (IsOfSide (side_file p.log.db) ns) a b) (sym is.side_names) of_side) in
    record {
      logs = log_kept of_log is.logs;
      side_name = is.side_name;
      side_names = is.side_names;
      sides = side_kept own is.sides;
      fresh = added_kept p.side own ∙ is.fresh;
      noted = is.noted;
      room = is.room;
      different = is.different;
    }

paged-kept : {a b : Disk} (p : KeptPaged) (stood : Stood) → KeepsFiles (IsOwn p.log.db stood.files) a b → IsPaged a p stood → IsPaged b p stood
paged-kept {a} {b} p stood keeps is =
    let of_log : KeepsFiles (IsOfLog p.log.db) a b = narrow (λ name at. inl at) keeps in
    let of_side : KeepsFiles (IsOfSide (side_file p.log.db) (names_of stood.files)) a b = narrow (λ name at. inr at) keeps in
    let own : KeepsFiles (IsOwn p.log.db p.facts.files) a b = subst (λ (fs : List DataFile). KeepsFiles (IsOwn p.log.db fs) a b) (sym is.files) keeps in
    let pages : (at : PageAt) → shown_at p.log.db stood.files b.files at ≡ shown_at p.log.db stood.files a.files at = λ at. shown_kept (side_file p.log.db) (names_of stood.files) of_side (at.file, at.page) in
    record {
      standing = standing-kept p own is.standing;
      files = is.files;
      same_note = is.same_note;
      ends = is.ends;
      held = ap (λ (v : LogValue). v.records ++ p.log.waiting) (value_kept of_log is.standing.logs) ∙ is.held;
      needs = is.needs;
      kept = is.kept;
      order = is.order;
      sealed = is.sealed;
      recovers = λ k enough. recovers-on p.log.head.kept p.since stood.files (shown_at p.log.db stood.files a.files) (shown_at p.log.db stood.files b.files) (take k stood.records) pages (is.recovers k enough);
      frames = is.frames;
      clean = λ at there none. ap page_of (pages at) ∙ is.clean at there none;
    }

-- the store stands for what it stood for
pub store-kept : {a b : Disk} (s : Kept) (told : Told) → KeepsFiles (IsOwn s.paged.log.db (data_files told)) a b → IsStore a s told → IsStore b s told
store-kept s told keeps is = record {
  paged = paged-kept s.paged (stood_of s.known told) keeps is.paged;
  shows = is.shows;
  noted = is.noted;
  note = is.note;
  early = is.early;
}

-- a crash between two calls leaves what is durable
pub store-left : (s : Kept) (told : Told) (a : Disk) (image : Files) → IsStore a s told → MayLeaveOwn (IsOwn s.paged.log.db (data_files told)) a image → LeavesRecords s.paged.log.db (sealed_in s) told image
store-left s told a image is mine =
    leaves-lift s.paged.log.db (sealed_count s.paged) s.known told image is.noted (shown-log (files_of told) told.records s.shown is.shows) (omega (arith, is.early))
    (sealed_count s.paged, omega arith, still_holds s.paged (stood_of s.known told) a image is.paged mine)
