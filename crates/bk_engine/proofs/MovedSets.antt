-- A set whose files are restored to other paths is a set still, and holds what it held.
use Rattle.std.proofs.Common.{◌≡◌, ℕ, ◌==◌, ◌/◌, Bool, true, false, cond, ◌||◌, List, [], ◌∷◌, ◌++◌, map, Some, find, refl, sym, ap, subst, ◌∙◌}
use Rattle.std.specs.Prelude.{◌&&◌}
use Rattle.std.specs.List.{AllByRecursion}
use Rattle.bk_body.specs.Body.{Body, Extent}
use Rattle.bk_body.specs.Conditions.{IsBody, IsLogOf, KeepsDeed, KeepsExtent, has_extent, holds_extent, is_in_file}
use Rattle.bk_carried.specs.Carried.{Carries}
use Rattle.bk_header.specs.Conditions.{IsHeader}
use Rattle.bk_ids.specs.declared.record.Body.{Body as Written}
use Rattle.bk_ids.specs.declared.record.Body.TheVariants as body
use Rattle.bk_ids.specs.declared.record.ExtentId.{ExtentId}
use Rattle.bk_ids.specs.declared.record.Place.{Place}
use Rattle.bk_ids.specs.declared.record.Rec.{Rec}
use Rattle.bk_machine.specs.Sound.{files_of_set}
use Rattle.bk_shown.specs.Shown.{ArePlaced, IsPlaced}
use Rattle.bk_world.specs.declared.database.FileSpec.{FileSpec}
use Rattle.bk_world.specs.declared.database.TableSpec.{TableSpec}
use Rattle.bk_world.specs.declared.header.Header.{Header}
use Rattle.bk_world.specs.declared.header.HeaderFile.{HeaderFile}
use Rattle.bk_world.specs.Lines.{RecordLines, log_below}
use Rattle.bk_world.specs.Places.{IsCellOf}
use Rattle.bk_world.specs.Records.{Deed, Logged, database_made, table_made, begun, written, committed, rolled_back, undone, checkpointed, stamped, model_set, loaded, recovered}
use Rattle.bk_world.specs.Telling.{tables}
use Rattle.bk_engine.specs.Bringing.{MovesOnly, put_at}

module _ (to : FileSpec → List ℕ) where
  -- ---- the files

  abbrev put : List HeaderFile → List HeaderFile
  put files = map (put_at to) files

  abbrev put_spec : FileSpec → FileSpec
  put_spec f = record f { path = to f }

  abbrev put_specs : List FileSpec → List FileSpec
  put_specs files = map put_spec files

  specs-put : (h : Header) (files : List HeaderFile) → files_of_set (record h { files = put files }) ≡ put_specs (files_of_set (record h { files = files }))
  specs-put h [] = refl
  specs-put h (f ∷ files) = ap (λ (rest : List FileSpec). put_spec f.spec ∷ rest) (specs-put h files)

  -- ---- extents

  has-put : (files : List HeaderFile) (file extent : ℕ) → has_extent (put files) file extent ≡ has_extent files file extent
  has-put [] file extent = refl
  has-put (f ∷ files) file extent = ap (λ t. is_in_file file extent f || t) (has-put files file extent)

  holds-put : (files : List HeaderFile) (file extent : ℕ) → holds_extent (put files) file extent ≡ holds_extent files file extent
  holds-put [] file extent = refl
  holds-put (f ∷ files) file extent = ap (λ t. (f.in_set && is_in_file file extent f) || t) (holds-put files file extent)

  extents-put : (files : List HeaderFile) (extents : List Extent) → AllByRecursion (KeepsExtent files) extents → AllByRecursion (KeepsExtent (put files)) extents
  extents-put files [] keep = tt
  extents-put files (e ∷ extents) keep =
      (record { file = keep.0.file; number = keep.0.number; size = keep.0.size; there = holds-put files e.file e.extent ∙ keep.0.there; pages = keep.0.pages }, extents-put files extents keep.1)

  listed-put : (files : List HeaderFile) (extents : List ExtentId) → AllByRecursion (λ (e : ExtentId). has_extent files e.file e.extent ≡ true) extents → AllByRecursion (λ (e : ExtentId). has_extent (put files) e.file e.extent ≡ true) extents
  listed-put files [] all = tt
  listed-put files (e ∷ extents) all = (has-put files e.file e.extent ∙ all.0, listed-put files extents all.1)

  -- ---- the log

  -- a header with its files put there, and its log at this path
  abbrev there : Header → List ℕ → Header
  there h log_path = record h { files = put h.files; log_path = log_path }

  module _ (h : Header) (log_path : List ℕ) where
    deed-put : (d : Written) → KeepsDeed h d → KeepsDeed (there h log_path) d
    deed-put (body.Database time family branch) keep = keep
    deed-put (body.Table time number name group) keep = keep
    deed-put body.Begin keep = tt
    deed-put (body.Write place before after) keep = has-put h.files place.file (place.page / 8) ∙ keep
    deed-put (body.Commit time mark) keep = keep
    deed-put body.RollbackEnd keep = tt
    deed-put (body.Compensation place cell number) keep = has-put h.files place.file (place.page / 8) ∙ keep
    deed-put (body.Checkpoint time) keep = keep
    deed-put (body.Stamp time set) keep = keep
    deed-put (body.Model time model) keep = keep
    deed-put (body.Bulk table first count value extents) keep = listed-put h.files extents keep
    deed-put (body.Recovery branch) keep = tt

    deeds-put : (records : List Rec) → AllByRecursion (λ (r : Rec). KeepsDeed h r.body) records → AllByRecursion (λ (r : Rec). KeepsDeed (there h log_path) r.body) records
    deeds-put [] keep = tt
    deeds-put (r ∷ records) keep = (deed-put r.body keep.0, deeds-put records keep.1)

    log-put : (made : List TableSpec) (log : List ℕ) → IsLogOf h made log → IsLogOf (there h log_path) made log
    log-put made log (records, is, keeps) = (records, is, record { numbers = keeps.numbers; each = deeds-put records keeps.each; all_tables = keeps.all_tables })

  -- ---- the set

  body-put : (b : Body) (log_path : List ℕ) → IsHeader (there b.header log_path) → IsBody b → IsBody (record b { header = there b.header log_path })
  body-put b log_path fits is = record {
    header = fits;
    each_table = is.each_table;
    few = is.few;
    rise = is.rise;
    extents = extents-put b.header.files b.extents is.extents;
    log = log-put b.header log_path b.tables b.log is.log;
    log_short = is.log_short;
  }

  -- ---- places

  find-put : (n : ℕ) (files : List FileSpec) (file : FileSpec) → find (λ (f : FileSpec). f.number == n) files ≡ Some file → find (λ (f : FileSpec). f.number == n) (put_specs files) ≡ Some (put_spec file)
  find-put n [] file e = absurd cc
  find-put n (f ∷ files) file e = by (f.number == n) e (find-put n files file)
    where
      by : (t : Bool) → cond t (Some f) (find (λ (g : FileSpec). g.number == n) files) ≡ Some file
          → (find (λ (g : FileSpec). g.number == n) files ≡ Some file → find (λ (g : FileSpec). g.number == n) (put_specs files) ≡ Some (put_spec file))
          → cond t (Some (put_spec f)) (find (λ (g : FileSpec). g.number == n) (put_specs files)) ≡ Some (put_spec file)
      by true is later = let same : f ≡ file = cc in ap (λ (g : FileSpec). Some (put_spec g)) same
      by false is later = later is

  cell-put : (files : List FileSpec) (group : ℕ) (at : Place) → IsCellOf files group at → IsCellOf (put_specs files) group at
  cell-put files group at is =
      record { file = put_spec is.file; there = find-put at.file files is.file is.there; of_group = is.of_group; from = is.from; below = is.below; slot = is.slot }

  placed-put : (files : List FileSpec) (made : List TableSpec) (d : Deed) → IsPlaced files made d → IsPlaced (put_specs files) made d
  placed-put files made (written at before c) is = (is.0, (is.1.0, (is.1.1.0, cell-put files is.1.0.group at is.1.1.1)))
  placed-put files made (database_made time family branch) is = tt
  placed-put files made (table_made time spec) is = is
  placed-put files made begun is = tt
  placed-put files made (committed time mark) is = tt
  placed-put files made rolled_back is = tt
  placed-put files made (undone at c n) is = tt
  placed-put files made (checkpointed time) is = tt
  placed-put files made (stamped time set) is = tt
  placed-put files made (model_set time model) is = tt
  placed-put files made (loaded load) is = absurd is
  placed-put files made (recovered branch) is = tt

  all-placed-put : (files : List FileSpec) (before rs : List Logged) → ArePlaced files before rs → ArePlaced (put_specs files) before rs
  all-placed-put files before [] is = tt
  all-placed-put files before (r ∷ rs) is = (placed-put files (tables before) r.deed is.0, all-placed-put files (before ++ r ∷ []) rs is.1)

  -- ---- what it holds

  carries-put : (lines : RecordLines) (b : Body) (log_path : List ℕ) → Carries lines b → Carries lines (record b { header = there b.header log_path })
  carries-put lines b log_path is =
      let h : Header = b.header in record {
        tables = is.tables;
        path = is.path;
        placed = subst (λ (files : List FileSpec). ArePlaced files [] (log_below lines h.path h.last)) (sym (specs-put h h.files)) (all-placed-put (files_of_set h) [] (log_below lines h.path h.last) is.placed);
        log = is.log;
        some = is.some;
        order = is.order;
        inside = is.inside;
        begun = is.begun;
        there = λ file extent has. is.there file extent (sym (has-put h.files file extent) ∙ has);
        pages = is.pages;
      }

-- ---- by the header that it is restored under

pub moved-body : (b : Body) (header : Header) → MovesOnly b.header header → IsHeader header → IsBody b → IsBody (record b { header = header })
moved-body b header moves fits is =
    subst (λ (h : Header). IsHeader h → IsBody (record b { header = h })) (sym moves.is) (λ fits. body-put moves.to b moves.log_path fits is) fits

pub moved-carries : (lines : RecordLines) (b : Body) (header : Header) → MovesOnly b.header header → Carries lines b → Carries lines (record b { header = header })
moved-carries lines b header moves is = subst (λ (h : Header). Carries lines (record b { header = h })) (sym moves.is) (carries-put moves.to lines b moves.log_path is)
