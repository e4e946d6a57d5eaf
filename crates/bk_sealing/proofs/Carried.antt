-- What was copied of a database may be sealed: it carries what its path shows.
use Rattle.std.proofs.Common.{◌≡◌, ◌≤◌, ◌<◌, ℕ, ◌^◌, true, List, [], ◌∷◌, length, map, None, refl, sym, ◌∙◌, ap, subst, arith}
use Rattle.std.specs.List.{AllByRecursion}
use Rattle.std.proofs.lemmas.List.{length-map}
use Rattle.bk_body.specs.Body.{Body, Extent}
use Rattle.bk_body.specs.Conditions.{ExtentsRise, IsLogOf, KeepsExtent, KeepsRecords, has_extent, holds_extent}
use Rattle.bk_carried.specs.Carried.{Carries, data_extents, id_of, is_there}
use Rattle.bk_carried.specs.Copied.{IsCopy, IsHeaderOf, WasRead}
use Rattle.bk_device.specs.Disk.{Disk}
use Rattle.bk_engine.specs.Sealing.{MaySeal}
use Rattle.bk_engine.specs.Stands.{Kept, StandsFor}
use Rattle.bk_header.specs.Conditions.{AreNumbered, KeepsConditions, total_extents}
use Rattle.bk_ids.specs.declared.record.Rec.{Rec}
use Rattle.bk_machine.specs.Fits.{FitsLog}
use Rattle.bk_machine.specs.Sound.{AreNumbered as AreTablesNumbered, storage_of}
use Rattle.bk_machine.specs.World.{Database, World, log_of}
use Rattle.bk_paths.specs.Paths.{kept_from}
use Rattle.bk_record.specs.Log.{IsLog}
use Rattle.bk_store.specs.Told.{Told}
use Rattle.bk_undo.specs.Spelled.{spelled}
use Rattle.bk_volume.specs.Staging.{HoldsParts, Staging}
use Rattle.bk_world.specs.declared.database.FileSpec.{FileSpec}
use Rattle.bk_world.specs.declared.database.TableSpec.{TableSpec}
use Rattle.bk_world.specs.declared.header.Header.{Header}
use Rattle.bk_world.specs.declared.header.HeaderFile.{HeaderFile}
use Rattle.bk_world.specs.Lines.{RecordLines, log_below}
use Rattle.bk_world.specs.Records.{Counts, Logged}
use Rattle.bk_world.specs.SoundLogs.{IsSound as IsSoundLog}
use Rattle.bk_world.specs.Telling as telling
use Rattle.bk_sealing.specs.Copied.{HoldsCopy}
use Rattle.bk_sealing.specs.Sealing.{IsSetNow, in_set}
use Rattle.bk_sealing.proofs.Kept.{keeps-records}
use Rattle.bk_sealing.proofs.Listed.{IsLow, extents-are, extents-low}
use Rattle.bk_sealing.proofs.Named.{IsKeptLog, found-log}

-- what is said elsewhere: of copies of a database, and of extents that are those of files
pub record Laws : Type 0 where
  pub carries : (lines : RecordLines) (told : Told) (body : Body) → log_below lines body.header.path body.header.last ≡ told.records → IsCopy told body → Carries lines body
  pub there : (files : List HeaderFile) (extents : List Extent) → map id_of extents ≡ data_extents files → (file extent : ℕ) → has_extent files file extent ≡ true → is_there extents file extent ≡ true
  pub rise : (files : List HeaderFile) (extents : List Extent) → AreNumbered 1 files → map id_of extents ≡ data_extents files → ExtentsRise extents
  pub held : (files : List HeaderFile) (extents : List Extent) → AllByRecursion (λ (f : HeaderFile). f.in_set ≡ true) files → map id_of extents ≡ data_extents files → AllByRecursion (λ (e : Extent). holds_extent files e.file e.extent ≡ true) extents

-- ---- extents

keeps-one : (rs : List Logged) (since : ℕ) (files : List HeaderFile) (e : Extent) → WasRead rs since e → holds_extent files e.file e.extent ≡ true → IsLow 17 (id_of e) → KeepsExtent files e
keeps-one rs since files e read held low = record {
  file = omega (arith, low.0);
  number = omega (arith, low.1);
  size = let whole = read.pages.whole in omega (arith, whole);
  there = held;
  pages = λ j small. let page = read.pages.pages j small in record { of_file = page.place.file; of_number = page.place.number; digest = page.sound.digest };
}

keeps-all : (rs : List Logged) (since : ℕ) (files : List HeaderFile) (extents : List Extent) → AllByRecursion (WasRead rs since) extents → AllByRecursion (λ (e : Extent). holds_extent files e.file e.extent ≡ true) extents → AllByRecursion (IsLow 17) (map id_of extents) → AllByRecursion (KeepsExtent files) extents
keeps-all rs since files [] read held low = tt
keeps-all rs since files (e ∷ extents) read held low = (keeps-one rs since files e read.0 held.0 low.0, keeps-all rs since files extents read.1 held.1 low.1)

all-in : (files : List FileSpec) → AllByRecursion (λ (f : HeaderFile). f.in_set ≡ true) (in_set files)
all-in [] = tt
all-in (f ∷ files) = (refl, all-in files)

-- ---- the set

-- what was copied, with a header and tables
abbrev pub body_of : Header → List TableSpec → List Extent → List ℕ → Body
body_of header tables extents log = record { header = header; tables = tables; extents = extents; log = log }

-- a database of a world, as its store tells it
abbrev told_of : World → Database → Told
told_of w db = record { spec = record { name = db.name; family = db.family; path = db.path; storage = storage_of db }; note = []; records = log_of w.history db }

module _ (disk : Disk) (e : Kept) (w : World) (header : Header) (tables : List TableSpec) (set : Staging) (stands : StandsFor disk e w) (is : IsSetNow w header) (keeps : KeepsConditions header) (same : tables ≡ telling.tables (log_of w.history is.db))
    (copy : HoldsCopy w is.db header.checkpoint header.first header.last disk set) (laws : Laws) where
  its-header : IsHeaderOf (told_of w is.db) header
  its-header = is.of_it (told_of w is.db) refl refl

  few-files : length is.db.files ≤ 16
  few-files = let all : length (in_set is.db.files) ≡ length is.db.files = length-map is.db.files (λ (f : FileSpec). record { spec = f; in_set = true }) in
      let low : length (in_set is.db.files) ≤ 16 = subst (λ (fs : List HeaderFile). length fs ≤ 16) is.files keeps.files.few in
      omega (arith, all, low)

  numbers : AreNumbered 1 (in_set is.db.files)
  numbers = subst (AreNumbered 1) is.files keeps.files.numbered

  small : total_extents (in_set is.db.files) ≤ 4096
  small = subst (λ (fs : List HeaderFile). total_extents fs ≤ 4096) is.files keeps.files.small

  listed : map id_of copy.extents ≡ data_extents header.files
  listed = copy.order ∙ extents-are is.db.files few-files numbers small ∙ ap data_extents (sym is.files)

  low : AllByRecursion (IsLow 17) (map id_of copy.extents)
  low = subst (AllByRecursion (IsLow 17)) (sym listed) (extents-low header.files keeps.files.few keeps.files.numbered keeps.files.small)

  all-held : AllByRecursion (λ (f : HeaderFile). f.in_set ≡ true) header.files
  all-held = subst (AllByRecursion (λ (f : HeaderFile). f.in_set ≡ true)) (sym is.files) (all-in is.db.files)

  its-log : IsKeptLog w is.db
  its-log = found-log disk e w header.database is.db stands is.found is.online

  reads : log_below w.history header.path header.last ≡ log_of w.history is.db
  unfolding log_of
  reads = ap (λ p. log_below w.history p header.last) is.path ∙ ap (λ (n : ℕ). log_below w.history is.db.path n) is.ends

  holds : Carries w.history (body_of header tables copy.extents copy.log)
  holds = laws.carries w.history (told_of w is.db) (body_of header tables copy.extents copy.log) reads (record {
    path = its-log.path;
    placed = its-log.placed;
    header = its-header;
    tables = same;
    log = copy.is_log;
    there = laws.there header.files copy.extents listed;
    read = copy.read;
  })

  -- the log fits the header and the tables
  kept : IsLogOf header tables copy.log
  kept =
      let log : List Logged = log_of w.history is.db in
      let rest : List Rec = kept_from header.first (map spelled log) in
      let its : KeepsRecords header (telling.tables log) rest =
      keeps-records header is.db.files log is.files (subst (λ (rs : List Logged). Counts 1 rs header.last) reads is.sound.log.counts) (subst IsSoundLog reads is.sound.log.sound) its-log.placed
      (subst (λ (rs : List Logged). AreTablesNumbered 1 (telling.tables rs)) reads is.sound.log.tables) (subst (FitsLog (length header.groups)) reads is.sound.fits.log) its-header.some
      (let a = its-header.order in let b = its-header.inside in omega (arith, a, b)) in
      (rest, subst (λ (rs : List Logged). IsLog copy.log (kept_from header.first (map spelled rs)) None) reads holds.log, subst (λ (ts : List TableSpec). KeepsRecords header ts rest) (sym same) its)

  pub may-seal : (then : Disk) → HoldsParts then set copy.extents copy.log → set.extents < 2 ^ 32 → set.log < 2 ^ 64 → MaySeal then w set header tables (body_of header tables copy.extents copy.log)
  may-seal then parts few short = record {
    sound = is.sound;
    is = record {
      header = refl;
      tables = refl;
      parts = parts;
      keeps = record {
        header = keeps;
        few = let count = parts.count in omega (arith, count, few);
        rise = laws.rise header.files copy.extents keeps.files.numbered listed;
        extents = keeps-all (log_of w.history is.db) header.checkpoint header.files copy.extents copy.read (laws.held header.files copy.extents all-held listed) low;
        log = kept;
        log_short = let size = parts.size in omega (arith, size, short);
      };
    };
    carries = holds;
  }
