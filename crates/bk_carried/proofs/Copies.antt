-- What a backup copied, as of its end.
use Rattle.std.proofs.Common.{◌≡◌, ◌≤◌, ℕ, ◌-◌, false, List, [], ◌∷◌, ◌++◌, length, map, None, refl, sym, ◌∙◌, ap, subst, append_assoc, arith}
use Rattle.std.specs.List.{AllByRecursion, list_any}
use Rattle.std.proofs.lemmas.Bool.{or_from}
use Rattle.std.proofs.lemmas.List.{append-nil, length-drop, length-map, map-append, take_all}
use Rattle.bk_body.specs.Body.{Body, Extent}
use Rattle.bk_ids.specs.declared.record.Rec.{Rec}
use Rattle.bk_lemmas.specs.Lists.{all_mapped}
use Rattle.bk_restored.specs.PagedHolds.{IsStored}
use Rattle.bk_restored.specs.Paged.{from_to}
use Rattle.bk_paths.specs.Laws.{IsPlain}
use Rattle.bk_paths.specs.PageLaws.{page_more, page_since}
use Rattle.bk_paths.specs.Paths.{IsPath, end_of, kept_from}
use Rattle.bk_record.specs.Log.{IsLog}
use Rattle.bk_redo.specs.declared.place.PageAt.{PageAt}
use Rattle.bk_redo.specs.Effects.{fills}
use Rattle.bk_redo.specs.PageStates.{page_of}
use Rattle.bk_shown.specs.Shown.{ArePlaced, IsPlaced}
use Rattle.bk_restored.specs.StoreCopying.{ArePages, page_of_extent}
use Rattle.bk_restored.specs.StoreTold.{Told, files_of}
use Rattle.bk_undo.specs.Spelled.{spelled}
use Rattle.bk_world.specs.Lines.{RecordLines, log_below}
use Rattle.bk_world.specs.Records.{Deed, Logged, loaded}
use Rattle.bk_world.specs.Telling as telling
use Rattle.bk_world.specs.declared.database.FileSpec.{FileSpec}
use Rattle.bk_world.specs.declared.database.TableSpec.{TableSpec}
use Rattle.bk_carried.specs.Carried.{Carries, HoldsLog, IsCopied, page_part}
use Rattle.bk_carried.specs.Copied.{IsCopy, WasRead}

-- ---- records in their places are no minimal loads, and fill no extent

plain-one : (files : List FileSpec) (made : List TableSpec) (lsn begin : ℕ) (deed : Deed) → IsPlaced files made deed → IsPlain (record { lsn = lsn; begin = begin; deed = deed })
plain-one files made lsn begin (loaded load) is = is
plain-one files made lsn begin deed is = tt

pub plain : (files : List FileSpec) (before rs : List Logged) → ArePlaced files before rs → AllByRecursion IsPlain rs
plain files before [] are = tt
plain files before (r ∷ rs) are = (plain-one files (telling.tables before) r.lsn r.begin r.deed are.0, plain files (before ++ r ∷ []) rs are.1)

fills-one : (at : PageAt) (lsn begin : ℕ) (deed : Deed) → IsPlain (record { lsn = lsn; begin = begin; deed = deed }) → fills at (spelled (record { lsn = lsn; begin = begin; deed = deed })) ≡ false
fills-one at lsn begin (loaded load) is = absurd is
fills-one at lsn begin deed is = refl

fills-none : (at : PageAt) (rs : List Logged) → AllByRecursion IsPlain rs → list_any (fills at) (map spelled rs) ≡ false
fills-none at [] are = refl
fills-none at (r ∷ rs) are = or_from (fills at (spelled r)) (list_any (fills at) (map spelled rs)) (fills-one at r.lsn r.begin r.deed are.0) (fills-none at rs are.1)

all-back : {X : Type 0} (P : X → Type 0) (xs ys : List X) → AllByRecursion P (xs ++ ys) → AllByRecursion P ys
all-back P [] ys all = all
all-back P (x ∷ xs) ys all = all-back P xs ys all.1

-- ---- a page that was read stays one as of some number

stored-later : (rs front back : List Logged) (since : ℕ) (at : PageAt) (page : List ℕ) → IsPath (map spelled rs) → AllByRecursion IsPlain rs → rs ≡ front ++ back → since ≤ length front
    → IsStored (map spelled front) (end_of (map spelled front)) at page → IsStored (map spelled rs) since at page
stored-later rs front back since at page path all splits late is =
    let first : List Rec = map spelled front in
    let rest : List Rec = map spelled back in
    let both : map spelled rs ≡ first ++ rest = ap (map spelled) splits ∙ map-append spelled front back in
    let none : list_any (fills at) rest ≡ false = fills-none at back (all-back IsPlain front back (subst (AllByRecursion IsPlain) splits all)) in
    let early : since ≤ end_of first = omega (arith, late, length-map front spelled) in
    subst (λ (records : List Rec). IsStored records since at page) (sym both) (record {
      sound = is.sound;
      place = is.place;
      is_page = page_more first rest since at (page_of page) (subst IsPath both path) none (page_since first (end_of first) since at (page_of page) early is.is_page);
    })

pub copied : (rs : List Logged) (since : ℕ) (e : Extent) → IsPath (map spelled rs) → AllByRecursion IsPlain rs → WasRead rs since e → IsCopied (map spelled rs) since e
copied rs since e path all read = λ i low. stored-later rs read.front read.back since (page_of_extent e.file e.extent i) (page_part e.bytes i) path all read.splits read.late (read.pages.pages i low)

-- what was read of records was read of these with more behind them
pub read-later : (rs more : List Logged) (since : ℕ) (e : Extent) → WasRead rs since e → WasRead (rs ++ more) since e
read-later rs more since e read = record {
  front = read.front;
  back = read.back ++ more;
  splits = ap (λ (xs : List Logged). xs ++ more) read.splits ∙ append_assoc read.front read.back more;
  late = read.late;
  pages = read.pages;
}

-- what is as of the end of records is read now
pub read-now : (rs : List Logged) (since : ℕ) (e : Extent) → since ≤ length rs → ArePages (map spelled rs) e.file e.extent 8 e.bytes → WasRead rs since e
read-now rs since e late pages = record { front = rs; back = []; splits = sym (append-nil rs); late = late; pages = pages }

-- the bytes from the first number to the end are the rest of the path
whole-log : (records : List Rec) (first last : ℕ) (bytes : List ℕ) → 1 ≤ first → first ≤ last → last ≡ end_of records → IsLog bytes (from_to first last records) None → IsLog bytes (kept_from first records) None
whole-log records first last bytes some order ends log =
    let size : length (kept_from first records) ≤ last - first = omega (arith, length-drop (first - 1) records, some, order, ends) in
    subst (λ (rs : List Rec). IsLog bytes rs None) (take_all (last - first) (kept_from first records) size) log

-- ---- backups

holds-copied : (told : Told) (body : Body) → IsCopy told body → HoldsLog told.records body
holds-copied told body copy =
    let records : List Rec = map spelled told.records in
    let ends : body.header.last ≡ end_of records = omega (arith, copy.header.ends, length-map told.records spelled) in
    let all : AllByRecursion IsPlain told.records = plain (files_of told) [] told.records copy.placed in record {
      tables = copy.tables;
      path = copy.path;
      placed = subst (λ (files : List FileSpec). ArePlaced files [] told.records) (sym copy.header.files) copy.placed;
      log = whole-log records body.header.first body.header.last body.log copy.header.some (let a = copy.header.order in let b = copy.header.inside in omega (arith, a, b)) ends copy.log;
      some = copy.header.some;
      order = copy.header.order;
      inside = let below = copy.header.inside in omega (arith, below);
      begun = copy.header.begun;
      there = copy.there;
      pages = all_mapped (WasRead told.records body.header.checkpoint) (IsCopied records body.header.checkpoint) (λ e read. copied told.records body.header.checkpoint e copy.path all read) body.extents copy.read;
    }

pub backup-carries : (lines : RecordLines) (told : Told) (body : Body) → log_below lines body.header.path body.header.last ≡ told.records → IsCopy told body → Carries lines body
backup-carries lines told body reads copy = subst (λ (rs : List Logged). HoldsLog rs body) (sym reads) (holds-copied told body copy)
