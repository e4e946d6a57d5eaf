-- The cells of a page as of the end.
use Rattle.std.proofs.Common.{◌≡◌, ◌≢◌, ◌⊎◌, ◌<◌, ℕ, true, false, ◌&&◌, List, [], ◌∷◌, map, length, get_or, Option, Some, None, inl, inr, refl, sym, ◌∙◌, ap, subst, arith}
use Rattle.std.specs.Prelude.{◌==◌, if◌then◌else◌, slice_get, slice_set}
use Rattle.std.specs.List.{AllByRecursion, fold}
use Rattle.std.proofs.lemmas.Bool.{eqb-true, eq-eqb, and_parts, and_from, cases_Bool, cond-false, cond-true}
use Rattle.std.proofs.lemmas.List.{get_or-replicate, get_or-set_other, get_or-set_same, length-replicate, length-set}
use Rattle.std.proofs.lemmas.Option.{slice_get-get_or}
use Rattle.bk_bytes.specs.Cell.{Row, cell_bytes}
use Rattle.bk_ids.specs.declared.record.Place.{Place}
use Rattle.bk_lemmas.specs.Tests.{equal_or_not}
use Rattle.bk_paths.specs.Laws.{IsPlain}
use Rattle.bk_paths.specs.PageLaws.{last_more}
use Rattle.bk_redo.specs.declared.place.PageAt.{PageAt}
use Rattle.bk_redo.specs.Effects.{changed, is_on}
use Rattle.bk_redo.specs.PageStates.{PageState, free_cell, fresh}
use Rattle.bk_undo.specs.Cells.{is_place}
use Rattle.bk_undo.specs.Spelled.{cell, image, spelled}
use Rattle.bk_world.specs.Records.{Deed, Logged, database_made, table_made, begun, written, committed, rolled_back, undone, checkpointed, stamped, model_set, loaded, recovered}
use Rattle.bk_cells.specs.Cells.{cell_after, cell_from, cell_of}
use Rattle.bk_cells.specs.Laws.{CellsAreOnPages}

-- ---- one cell

abbrev page_of : Place → PageAt
page_of at = record { file = at.file; page = at.page }

-- a place on a page, in this slot or in another one
here : (p at : Place) → is_on p (page_of at) ≡ true → p.slot ≡ at.slot → is_place at p ≡ true
here p at on same =
    let both = and_parts (p.file == at.file) (p.page == at.page) on in
    and_from (at.file == p.file) ((at.page == p.page) && (at.slot == p.slot)) (eq-eqb at.file p.file (sym (eqb-true p.file at.file both.0)))
    (and_from (at.page == p.page) (at.slot == p.slot) (eq-eqb at.page p.page (sym (eqb-true p.page at.page both.1))) (eq-eqb at.slot p.slot (sym same)))

elsewhere : (p at : Place) → (is_on p (page_of at) ≡ false) ⊎ (p.slot ≢ at.slot) → is_place at p ≡ false
elsewhere p at differ = elim (cases_Bool (is_place at p)) [
  | inl is ↦
      let first = and_parts (at.file == p.file) ((at.page == p.page) && (at.slot == p.slot)) is in
      let second = and_parts (at.page == p.page) (at.slot == p.slot) first.1 in
      let file : p.file ≡ at.file = sym (eqb-true at.file p.file first.0) in
      let page : p.page ≡ at.page = sym (eqb-true at.page p.page second.0) in
      elim differ [
        | inl off ↦ let on : is_on p (page_of at) ≡ true = and_from (p.file == at.file) (p.page == at.page) (eq-eqb p.file at.file file) (eq-eqb p.page at.page page) in absurd cc
        | inr slot ↦ absurd (slot (sym (eqb-true at.slot p.slot second.1)))
      ]
  | inr isnt ↦ isnt
]

-- a page holds a row in a slot, or a free cell
record HoldsCell (page : PageState) (slot : ℕ) (row : Option Row) : Type 0 where
  size : length page.cells ≡ 63
  held : get_or page.cells slot [] ≡ cell_bytes row

cell_set : (p at : Place) (bytes : List ℕ) (row old : Option Row) (lsn : ℕ) (page : PageState) → bytes ≡ cell_bytes row → at.slot < 63 → HoldsCell page at.slot old
    → HoldsCell (if is_on p (page_of at) then record { lsn = lsn; cells = slice_set page.cells p.slot bytes } else page) at.slot (if is_place at p then row else old)
cell_set p at bytes row old lsn page is low holds =
    let set : PageState = record { lsn = lsn; cells = slice_set page.cells p.slot bytes } in
    let Page : PageState → Option Row → Type 0 = λ q r. HoldsCell q at.slot r in
    elim (cases_Bool (is_on p (page_of at))) [
      | inr off ↦ subst (λ (q : PageState). Page q (if is_place at p then row else old)) (sym (cond-false (is_on p (page_of at)) set page off))
          (subst (Page page) (sym (cond-false (is_place at p) row old (elsewhere p at (inl off)))) holds)
      | inl on ↦ subst (λ (q : PageState). Page q (if is_place at p then row else old)) (sym (cond-true (is_on p (page_of at)) set page on)) (elim (equal_or_not p.slot at.slot) [
        | inl same ↦ subst (Page set) (sym (cond-true (is_place at p) row old (here p at on same))) (record {
          size = length-set page.cells p.slot bytes ∙ holds.size;
          held = ap (λ (n : ℕ). get_or (slice_set page.cells p.slot bytes) n []) (sym same) ∙ get_or-set_same page.cells p.slot bytes [] (omega (arith, holds.size, low, same)) ∙ is;
        })
        | inr differ ↦ subst (Page set) (sym (cond-false (is_place at p) row old (elsewhere p at (inr differ)))) (record {
          size = length-set page.cells p.slot bytes ∙ holds.size;
          held = get_or-set_other page.cells p.slot at.slot bytes [] (λ same. differ (sym same)) ∙ holds.held;
        })
      ])
    ]

-- ---- records

record_step : (r : Logged) (at : Place) (page : PageState) (old : Option Row) → IsPlain r → at.slot < 63 → HoldsCell page at.slot old → HoldsCell (changed (page_of at) page (spelled r)) at.slot (cell_after r.deed at old)
record_step r at page old plain low holds = step r.deed plain
  where
    after : Deed → Type 0
    after d = HoldsCell (changed (page_of at) page (spelled (record r { deed = d }))) at.slot (cell_after d at old)

    step : (d : Deed) → IsPlain (record r { deed = d }) → after d
    step (written p before c) plain = cell_set p at (image c.table c.key c.value).bytes (cell c.table c.key c.value) old r.lsn page refl low holds
    step (undone p c n) plain = cell_set p at (image c.table c.key c.value).bytes (cell c.table c.key c.value) old r.lsn page refl low holds
    step (loaded load) plain = absurd plain
    step (database_made time family branch) plain = holds
    step (table_made time spec) plain = holds
    step begun plain = holds
    step (committed time mark) plain = holds
    step rolled_back plain = holds
    step (checkpointed time) plain = holds
    step (stamped time set) plain = holds
    step (model_set time model) plain = holds
    step (recovered branch) plain = holds

records_step : (rs : List Logged) (at : Place) (page : PageState) (old : Option Row) → AllByRecursion IsPlain rs → at.slot < 63 → HoldsCell page at.slot old → HoldsCell (fold (changed (page_of at)) page (map spelled rs)) at.slot (cell_from rs at old)
records_step [] at page old plain low holds = holds
records_step (r ∷ rs) at page old plain low holds = records_step rs at (changed (page_of at) page (spelled r)) (cell_after r.deed at old) plain.1 low (record_step r at page old plain.0 low holds)

fresh_holds : (slot : ℕ) → slot < 63 → HoldsCell fresh slot None
unfolding fresh free_cell
fresh_holds slot low = record { size = length-replicate 63 (cell_bytes None); held = get_or-replicate 63 slot (cell_bytes None) [] low }

-- a place is itself
pub place_itself : (at : Place) → is_place at at ≡ true
place_itself at =
    and_from (at.file == at.file) ((at.page == at.page) && (at.slot == at.slot)) (eq-eqb at.file at.file refl)
    (and_from (at.page == at.page) (at.slot == at.slot) (eq-eqb at.page at.page refl) (eq-eqb at.slot at.slot refl))

pub cells_are_on_pages : CellsAreOnPages
unfolding cell_of
cells_are_on_pages rs at plain path low =
    let row : Option Row = cell_from rs at None in
    let page : PageState = fold (changed (page_of at)) fresh (map spelled rs) in
    let holds : HoldsCell page at.slot row = records_step rs at fresh None plain low (fresh_holds at.slot low) in
    subst (λ (q : PageState). slice_get q.cells at.slot ≡ Some (cell_bytes row)) (sym (last_more [] (map spelled rs) (page_of at) path))
    (slice_get-get_or page.cells at.slot [] (omega (arith, holds.size, low)) ∙ ap (λ (b : List ℕ). Some b) holds.held)
