-- The cells of pages as of the end of a log.
use Rattle.std.proofs.Common.{◌≡◌, ◌<◌, ℕ, ◌+◌, List, [], ◌++◌, length, map, Option, Some, None, sym, ◌∙◌, ap, subst, arith}
use Rattle.std.specs.Prelude.{slice_get, slice_index_or}
use Rattle.std.specs.List.{AllByRecursion, range_with_len}
use Rattle.std.proofs.lemmas.List.{take_all}
use Rattle.std.proofs.lemmas.List.FromFn.{get_or-map-range_with_len}
use Rattle.std.proofs.lemmas.Option.{get_or_from_slice_get, same_Some}
use Rattle.bk_bytes.specs.Cell.{IsCell, IsCellValue, Row, cell_bytes, cell_form}
use Rattle.bk_bytes.specs.CellLaws.{cell_form-Fits, cell_form-IsCodec, cell_form-spelling}
use Rattle.bk_cells.specs.Cells.{cell_of}
use Rattle.bk_cells.specs.Laws.{CellsAreOnPages}
use Rattle.bk_device.specs.Disk.{Disk}
use Rattle.bk_ids.specs.declared.record.Place.{Place}
use Rattle.bk_ids.specs.declared.record.Rec.{Rec}
use Rattle.bk_page.specs.Page.{cell_at}
use Rattle.bk_paged.specs.Holds.{Stood}
use Rattle.bk_paged.specs.Paged.{IsLast, IsPaged, sealed_count, Kept as KeptPaged}
use Rattle.bk_paths.specs.Laws.{IsPlain}
use Rattle.bk_paths.specs.Paths.{IsPath}
use Rattle.bk_opening.specs.PageAt.{PageAt}
use Rattle.bk_opening.specs.RedoPageStates.{PageState, cells_of}
use Rattle.bk_undo.specs.Spelled.{spelled}
use Rattle.bk_world.specs.Records.{Logged}
use Rattle.bk_reopening.specs.Cells.{AreInPool, HoldsCells, IsTextCell}

-- a cell that holds a text has a spelling
pub text-cell : (o : Option Row) → IsTextCell o → IsCellValue o
text-cell None is = tt
text-cell (Some row) is = is.0

-- two cells that are spelled alike are one
pub cell-same : (a b : Option Row) → IsCellValue a → IsCellValue b → cell_bytes a ≡ cell_bytes b → a ≡ b
cell-same a b fits_a fits_b same =
    let read_a = cell_form-IsCodec.gives a [] (cell_form-Fits a fits_a) in
    let read_b = cell_form-IsCodec.gives b [] (cell_form-Fits b fits_b) in
    let spelled_same : cell_form.spelling a ++ [] ≡ cell_form.spelling b ++ [] = ap (λ (bs : List ℕ). bs ++ []) (cell_form-spelling a ∙ same ∙ sym (cell_form-spelling b)) in
    let both : Some (a, []) ≡ Some (b, []) = sym read_a ∙ ap cell_form.reading spelled_same ∙ read_b in
    ap (λ (p : Option Row × List ℕ). p.0) (same_Some (a, []) (b, []) both)

-- the cell that is read in a slot is what the slot's cell holds
pub slot-same : (cells : Place → Option Row) (at : Place) (bytes : List ℕ) (n : ℕ) (found : Option Row) → HoldsCells cells at.file at.page bytes → n ≡ at.slot → n < 63 → IsCellValue found × (cell_at bytes n ≡ cell_bytes found) → cells at ≡ found
slot-same cells at bytes n found holds is low read =
    let here = holds at.slot (subst (λ (k : ℕ). k < 63) is low) in
    cell-same (cells at) found (text-cell (cells at) here.0) read.0 (sym here.1 ∙ ap (cell_at bytes) (sym is) ∙ read.1)

-- so it holds a text
pub slot-text : (cells : Place → Option Row) (at : Place) (bytes : List ℕ) (n : ℕ) (found : Option Row) → HoldsCells cells at.file at.page bytes → n ≡ at.slot → n < 63 → IsCellValue found × (cell_at bytes n ≡ cell_bytes found) → IsTextCell found
slot-text cells at bytes n found holds is low read = subst IsTextCell (slot-same cells at bytes n found holds is low read) (holds at.slot (subst (λ (k : ℕ). k < 63) is low)).0

-- a cell is spelled there
pub slot-spelled : (cells : Place → Option Row) (at : Place) (bytes : List ℕ) (n : ℕ) → HoldsCells cells at.file at.page bytes → n ≡ at.slot → n < 63 → (IsCell (cell_at bytes n) → ⊥) → ⊥
slot-spelled cells at bytes n holds is low unread =
    let here = holds at.slot (subst (λ (k : ℕ). k < 63) is low) in
    unread (cells at, (text-cell (cells at) here.0, ap (cell_at bytes) is ∙ here.1))

-- a page as of the end holds what the log leaves in its cells
pub page-holds : CellsAreOnPages → (rs : List Logged) (at : PageAt) (bytes : List ℕ) → AllByRecursion IsPlain rs → IsPath (map spelled rs) → ((place : Place) → IsTextCell (cell_of rs place)) → IsLast (map spelled rs) at bytes
    → HoldsCells (cell_of rs) at.file at.page bytes
unfolding cells_of
page-holds law rs at bytes plain path fits last slot low =
    let place : Place = record { file = at.file; page = at.page; slot = slot } in
    let on = ap (λ (p : PageState). slice_get p.cells slot) last.is_last ∙ law rs place plain path low in
    let read = get_or_from_slice_get (map (cell_at bytes) (range_with_len 0 63)) slot (cell_bytes (cell_of rs place)) [] on in
    (fits place, sym (get_or-map-range_with_len (cell_at bytes) 0 63 slot slot [] low (omega arith)) ∙ read)

-- the records that log and pages stand for are a path
pub stands-path : (d : Disk) (p : KeptPaged) (stood : Stood) → IsPaged d p stood → IsPath stood.records
stands-path d p stood is =
    let k : ℕ = sealed_count p + length stood.records in
    subst IsPath (take_all k stood.records (omega arith)) (is.recovers k (omega arith)).path

-- each page in a frame holds what the log leaves in its cells
pub pool-holds : CellsAreOnPages → (d : Disk) (p : KeptPaged) (stood : Stood) (rs : List Logged) → stood.records ≡ map spelled rs → AllByRecursion IsPlain rs → ((place : Place) → IsTextCell (cell_of rs place)) → IsPaged d p stood → AreInPool (cell_of rs) p.pool
pool-holds law d p stood rs same plain fits is i file page inside =
    let at : PageAt = record { file = file; page = page } in
    page-holds law rs at (slice_index_or p.pool.frames i []) plain (subst IsPath same (stands-path d p stood is)) fits
    (subst (λ (records : List Rec). IsLast records at (slice_index_or p.pool.frames i [])) same (is.frames i at inside).1)
