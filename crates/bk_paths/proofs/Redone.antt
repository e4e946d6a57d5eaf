-- What redo by the held part of a log makes of a page.
use Rattle.std.proofs.Common.{◌≡◌, ◌≤◌, ℕ, List, ◌∙◌, ap, arith}
use Rattle.std.specs.Prelude.{false}
use Rattle.std.specs.List.{list_any}
use Rattle.bk_ids.specs.declared.record.Rec.{Rec}
use Rattle.bk_redo.specs.declared.place.PageAt.{PageAt}
use Rattle.bk_redo.specs.PageStates.{PageState}
use Rattle.bk_redo.specs.Effects.{fills}
use Rattle.bk_redo.specs.Redo.{Leads, RiseFrom, as_of, records_between, redone_by}
use Rattle.bk_paths.specs.Pages.{IsPage, last_page}
use Rattle.bk_paths.specs.PageLaws.{kept_between}
use Rattle.bk_paths.specs.Paths.{IsPath, end_of, kept_from}
use Rattle.bk_paths.specs.PathLaws.{numbers_rise}

-- the page law, and that a page as of a number in the range of a log is led to the range's end
abbrev pub PageLaw : Type 0
PageLaw = (at : PageAt) (path log : List Rec) (c from b : ℕ) → RiseFrom 1 path → Leads at path c from b → records_between from b log ≡ records_between from b path → redone_by at (records_between from b log) (as_of at c path) ≡ as_of at b path

abbrev pub Copied : Type 0
Copied = (at : PageAt) (path : List Rec) (c from to : ℕ) → from ≤ c → c ≤ to → list_any (fills at) (records_between c to path) ≡ false → Leads at path c from to

pub redone : PageLaw → Copied → (records : List Rec) (kept since : ℕ) (at : PageAt) (page : PageState) → IsPath records → 1 ≤ kept → kept ≤ since → IsPage records since at page
    → redone_by at (records_between since (end_of records) (kept_from kept records)) page ≡ last_page at records
redone law copied records kept since at page path some order is =
    let end : ℕ = end_of records in
    let same : records_between since end (kept_from kept records) ≡ records_between since end records = kept_between records kept since end path some (omega (arith, order, is.later, is.not_past)) order in
    ap (redone_by at (records_between since end (kept_from kept records))) is.held
    ∙ law at records (kept_from kept records) is.number since end (numbers_rise 1 records path.numbered) (copied at records is.number since end is.later is.not_past is.unfilled) same
