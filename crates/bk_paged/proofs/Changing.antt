-- A record that may be said, and the page of the cell that it sets.
use Rattle.std.proofs.Common.{◌≡◌, ◌≢◌, ◌<◌, ◌≤◌, ◌^◌, ℕ, true, false, List, [], ◌∷◌, ◌++◌, length, Some, None, refl, inl, inr, sym, ap, ap₂, subst, ◌∙◌, arith}
use Rattle.std.specs.List.{AllByRecursion}
use Rattle.std.specs.Prelude.{slice_get, slice_set, slice_index_or}
use Rattle.std.proofs.lemmas.Bool.{cond-true}
use Rattle.std.proofs.lemmas.List.{get_or-set_other, get_or-set_same}
use Rattle.std.proofs.lemmas.Option.{slice_get_within, some_pair_parts}
use Rattle.bk_device.specs.Disk.{Disk}
use Rattle.bk_ids.specs.declared.record.Body.{Body}
use Rattle.bk_ids.specs.declared.record.Body.TheVariants.{Bulk, Compensation, Write}
use Rattle.bk_ids.specs.declared.record.Place.{Place}
use Rattle.bk_ids.specs.declared.record.Rec.{Rec}
use Rattle.bk_lemmas.specs.Tests.{equal_or_not}
use Rattle.bk_page.specs.Changes.{WritesCell, WritesLsn}
use Rattle.bk_page.specs.Laws.{with_cell-writes, with_lsn-writes}
use Rattle.bk_page.specs.Page.{with_cell, with_lsn}
use Rattle.bk_paths.specs.PageLaws.{last_more}
use Rattle.bk_paths.specs.Pages.{last_page}
use Rattle.bk_paths.specs.Paths.{IsPath}
use Rattle.bk_pool.specs.Laws.{slice_get-set_other, slice_get-set_same}
use Rattle.bk_pool.specs.Pool.{IsFound, IsIn, Pool}
use Rattle.bk_record.specs.LengthLaws.{length-image}
use Rattle.bk_record.specs.Spelling.{IsRecord, KeepsLimits}
use Rattle.bk_redo.specs.declared.place.PageAt.{PageAt}
use Rattle.bk_redo.specs.CellLaws.{becomes_written}
use Rattle.bk_redo.specs.Effects.{Effect, cells_after, effect_of, fills_extents, fills_page, is_effect_on, leaves_pages, sets_cell, touches}
use Rattle.bk_redo.specs.Frames.{cell_set}
use Rattle.bk_redo.specs.PageStates.{PageState}
use Rattle.bk_side.specs.BatchLaws.{page_tells}
use Rattle.bk_undo.specs.declared.pending.Pending.{Pending}
use Rattle.bk_undo.specs.Laws.{UndoingIsNoLonger}
use Rattle.bk_undo.specs.Losers.{body_writes}
use Rattle.bk_paged.specs.Appends.{MayAppend, MaySay, page_at, with_waiting}
use Rattle.bk_paged.specs.Holds.{Stood, with_one}
use Rattle.bk_paged.specs.Names.{IsThere}
use Rattle.bk_paged.specs.Paged.{IsDirty, IsLast, IsPaged, Kept}
use Rattle.bk_paged.specs.Pooled.{IsPool, with_set}
use Rattle.bk_paged.proofs.Fetching.{one_page, place_is}
use Rattle.bk_paged.proofs.Saying.{Next, next_path, said_stands, said_with, untouched_last}

-- ---- what may be said

-- rows aren't loaded minimally
may_plain : (p : Kept) (begin : ℕ) (body : Body) → MaySay p begin body → (at : PageAt) → fills_page at (effect_of body) ≡ false
may_plain p begin (Write place before after) may at = refl
may_plain p begin (Compensation place cell undone) may at = refl
may_plain p begin (Bulk table first count value extents) may at = absurd may
may_plain p begin _ may at = refl

-- a write begins at the kept point or behind it
may_opened : (p : Kept) (lsn begin : ℕ) (body : Body) → MaySay p begin body → AllByRecursion (λ (w : Pending). p.log.head.kept ≤ w.begin) (body_writes lsn begin body)
may_opened p lsn begin (Write place before after) may = (may.0, tt)
may_opened p lsn begin (Compensation place cell undone) may = tt
may_opened p lsn begin (Bulk table first count value extents) may = tt
may_opened p lsn begin _ may = tt

pub may_next : (p : Kept) (stood : Stood) (a : Disk) (r : Rec) → IsPaged a p stood → MayAppend p r → IsRecord r → Next p.log.head.kept stood.records r
may_next p stood a r is may fits = record {
  number = may.number ∙ is.ends;
  room = may.room;
  begun = may.begun;
  is_record = fits;
  plain = λ at. may_plain p r.begin r.body may.may at;
  opened = may_opened p r.lsn r.begin r.body may.may;
}

-- and the cell has 128 bytes
pub may_fit : (body : Body) (place : Place) (image : List ℕ) → KeepsLimits body → Some (place, image) ≡ cell_set (effect_of body) → length image ≡ 128
may_fit (Write other before after) place image limits sets = ap length (some_pair_parts place other image after.bytes sets).1 ∙ length-image after.bytes limits.1
may_fit (Compensation other cell undone) place image limits sets = ap length (some_pair_parts place other image cell.bytes sets).1 ∙ length-image cell.bytes limits
may_fit (Bulk table first count value extents) place image limits sets = absurd cc
may_fit _ place image limits sets = absurd cc

-- ---- which pages a record touches

-- one that sets no cell and fills no extent
pub untouched : (e : Effect) (at : PageAt) → None ≡ cell_set e → fills_page at e ≡ false → is_effect_on at e ≡ false
untouched (sets_cell place image) at none plain = absurd cc
untouched (fills_extents load) at none plain = plain
untouched leaves_pages at none plain = refl

-- one that sets a cell
pub set_is : (e : Effect) (place : Place) (image : List ℕ) → Some (place, image) ≡ cell_set e → e ≡ sets_cell place image
set_is (sets_cell other bytes) place image is = let parts = some_pair_parts place other image bytes is in ap₂ sets_cell (sym parts.0) (sym parts.1)
set_is (fills_extents load) place image is = absurd cc
set_is leaves_pages place image is = absurd cc

-- its page, and no other one
on_page : (r : Rec) (place : Place) (image : List ℕ) (at : PageAt) → effect_of r.body ≡ sets_cell place image → ◌≡◌ {A = ℕ × ℕ} (place.file, place.page) (at.file, at.page) → touches at r ≡ true
on_page r place image at sets here = elim (page_tells (place.file, place.page) (at.file, at.page)) [
  | inl same ↦ ap (is_effect_on at) sets ∙ same.0
  | inr other ↦ absurd (other.1 here)
]

off_page : (r : Rec) (place : Place) (image : List ℕ) (at : PageAt) → effect_of r.body ≡ sets_cell place image → ◌≢◌ {A = ℕ × ℕ} (place.file, place.page) (at.file, at.page) → touches at r ≡ false
off_page r place image at sets away = elim (page_tells (place.file, place.page) (at.file, at.page)) [
  | inl same ↦ absurd (away same.1)
  | inr other ↦ ap (is_effect_on at) sets ∙ other.0
]

-- ---- the page of the cell

-- its bytes become those of the page as of the new end
set_last : (records : List Rec) (r : Rec) (place : Place) (image bytes : List ℕ) → IsPath (records ++ r ∷ []) → effect_of r.body ≡ sets_cell place image → length image ≡ 128 → place.slot < 63 → r.lsn < 2 ^ 62 → IsLast records (page_at place) bytes
    → IsLast (records ++ r ∷ []) (page_at place) (with_lsn (with_cell bytes place.slot image) r.lsn)
set_last records r place image bytes path sets size low room old =
    let at : PageAt = page_at place in
    let fits : r.lsn < 2 ^ 64 = omega (arith, room) in
    let becomes = becomes_written bytes image place.slot r.lsn old.whole size low fits in
    let first : WritesCell bytes (with_cell bytes place.slot image) place.slot image = with_cell-writes bytes image place.slot old.whole size low in
    let second : WritesLsn (with_cell bytes place.slot image) (with_lsn (with_cell bytes place.slot image) r.lsn) r.lsn = with_lsn-writes (with_cell bytes place.slot image) r.lsn first.size fits in
    let After : PageState → Effect → PageState = λ page e. record { lsn = r.lsn; cells = cells_after at e page.cells } in
    let made : last_page at (records ++ r ∷ []) ≡ After (last_page at records) (effect_of r.body) =
    last_more records (r ∷ []) at path ∙ cond-true (touches at r) (After (last_page at records) (effect_of r.body)) (last_page at records) (on_page r place image at sets refl) in
    record {
      whole = second.size;
      place = record { file = becomes.place.file ∙ old.place.file; number = becomes.place.number ∙ old.place.number };
      is_last = becomes.held ∙ ap (λ (page : PageState). After page (sets_cell place image)) old.is_last ∙ ap (After (last_page at records)) (sym sets) ∙ sym made;
    }

-- frames of a pool in which it is set
set_frames : (pool : Pool) (stood : Stood) (r : Rec) (place : Place) (image : List ℕ) (i : ℕ) → ((j : ℕ) (at : PageAt) → IsIn pool.pages j at.file at.page → IsThere stood.files at × IsLast stood.records at (slice_index_or pool.frames j []))
    → IsPath (stood.records ++ r ∷ []) → i < length pool.frames → effect_of r.body ≡ sets_cell place image → length image ≡ 128 → place.slot < 63 → r.lsn < 2 ^ 62 → IsFound pool.pages place.file place.page i
    → (j : ℕ) (at : PageAt) → IsIn pool.pages j at.file at.page → IsThere stood.files at × IsLast (stood.records ++ r ∷ []) at (slice_index_or (with_set pool i place.slot image r.lsn).frames j [])
set_frames pool stood r place image i frames path within sets size low room found j at there =
    let here : PageAt = page_at place in
    let old : List ℕ = slice_index_or pool.frames i [] in
    let bytes : List ℕ = with_lsn (with_cell old place.slot image) r.lsn in
    let new : List (List ℕ) = slice_set pool.frames i bytes in
    let Good : PageAt → List ℕ → Type 0 = λ o page. IsThere stood.files o × IsLast (stood.records ++ r ∷ []) o page in
    elim (equal_or_not j i) [
      | inl same ↦
          let parts = one_page pool.pages i place.file place.page at.file at.page found.here (subst (λ (k : ℕ). IsIn pool.pages k at.file at.page) same there) in
          let is_here : at ≡ here = place_is at place.file place.page parts.0 parts.1 in
          let before = frames i here found.here in
          let read : slice_index_or new j [] ≡ bytes = ap (λ (k : ℕ). slice_index_or new k []) same ∙ get_or-set_same pool.frames i bytes [] within in
          let now : Good here bytes = (before.0, set_last stood.records r place image old path sets size low room before.1) in
          subst (λ (o : PageAt). Good o (slice_index_or new j [])) (sym is_here) (subst (Good here) (sym read) now)
      | inr other ↦
          let away : ◌≢◌ {A = ℕ × ℕ} (place.file, place.page) (at.file, at.page) = λ same. other (found.alone j (subst (λ (q : ℕ × ℕ). IsIn pool.pages j q.0 q.1) (sym same) there)) in
          let before = frames j at there in
          let as_before : IsLast (stood.records ++ r ∷ []) at (slice_index_or pool.frames j []) =
          record { whole = before.1.whole; place = before.1.place; is_last = before.1.is_last ∙ sym (untouched_last stood.records r at path (off_page r place image at sets away)) } in
          subst (Good at) (sym (get_or-set_other pool.frames i j bytes [] other)) (before.0, as_before)
    ]

-- what was dirty still is, and the page of the cell is
dirty_too : (pool : Pool) (i slot lsn : ℕ) (image : List ℕ) (at : PageAt) → i < length pool.dirty → IsDirty pool at → IsDirty (with_set pool i slot image lsn) at
dirty_too pool i slot lsn image at within dirty = elim (equal_or_not dirty.0 i) [
  | inl same ↦ (dirty.0, dirty.1, ap (slice_get (slice_set pool.dirty i true)) same ∙ slice_get-set_same pool.dirty i true within)
  | inr other ↦ (dirty.0, dirty.1, slice_get-set_other pool.dirty i dirty.0 true other ∙ dirty.2)
]

-- ---- a record that sets a cell

-- once it waits in the log, the value stands for one record more
pub cell_said : UndoingIsNoLonger → (p : Kept) (stood : Stood) (a : Disk) (r : Rec) (place : Place) (image : List ℕ) (i : ℕ) → IsPaged a p stood → Next p.log.head.kept stood.records r → IsPool p.pool → Some (place, image) ≡ cell_set (effect_of r.body)
    → length image ≡ 128 → place.slot < 63 → IsFound p.pool.pages place.file place.page i → IsPaged a (with_waiting (record p { pool = with_set p.pool i place.slot image r.lsn }) r) (with_one stood r)
cell_said few p stood a r place image i is next sized set' size low found =
    let path : IsPath (stood.records ++ r ∷ []) = next_path p stood a r is next in
    let sets : effect_of r.body ≡ sets_cell place image = set_is (effect_of r.body) place image set' in
    let page : i < length p.pool.pages = slice_get_within p.pool.pages i (Some (place.file, place.page)) found.here in
    let frame : i < length p.pool.frames = omega (arith, page, sized.frames) in
    let mark : i < length p.pool.dirty = omega (arith, page, sized.marks) in
    said_with few p stood a r (with_set p.pool i place.slot image r.lsn) is next (set_frames p.pool stood r place image i is.frames path frame sets size low next.room found) (λ at there not_dirty.
    elim (page_tells (place.file, place.page) (at.file, at.page)) [
      | inl same ↦ absurd (not_dirty (i, subst (λ (q : ℕ × ℕ). IsIn p.pool.pages i q.0 q.1) same.1 found.here, slice_get-set_same p.pool.dirty i true mark))
      | inr other ↦ is.clean at there (λ dirty. not_dirty (dirty_too p.pool i place.slot r.lsn image at mark dirty)) ∙ sym (untouched_last stood.records r at path (off_page r place image at sets other.1))
    ])

-- the same of a record that sets none
pub plain_said : UndoingIsNoLonger → (p : Kept) (stood : Stood) (a : Disk) (r : Rec) → IsPaged a p stood → Next p.log.head.kept stood.records r → None ≡ cell_set (effect_of r.body) → IsPaged a (with_waiting p r) (with_one stood r)
plain_said few p stood a r is next none = said_stands few p stood a r is next (λ at. untouched (effect_of r.body) at none (next.plain at))
