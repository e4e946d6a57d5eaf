use Rattle.std.proofs.Common.{◌≡◌, ◌∙◌, ◌++◌, [], List, sym, ap, subst}
use Rattle.std.proofs.lemmas.List.{append-nil}
use Rattle.bk_groups.specs.Groups.{Space}
use Rattle.bk_world.specs.PlacedRows.{RowsRise}
use Rattle.bk_world.specs.declared.row.PlacedRow.{PlacedRow}
use Rattle.bk_shown.specs.Rows.{ListsPlaced, RowEntries, committed_of, placed_in}
use Rattle.bk_shown.proofs.Entries.{committed-sorted}
use Rattle.bk_shown.proofs.WithPlaces.{lists-placed, placed-rise}
use Rattle.bk_shown.proofs.rows.Rows.with_places.Goals as goal

all-listed : (space : Space) (listed : List PlacedRow) (rest now es : RowEntries) → listed ++ placed_in space (committed_of rest) ≡ placed_in space (committed_of now) → [] ≡ rest → es ≡ now
    → listed ≡ placed_in space (committed_of es)
all-listed space listed rest now es is none same =
    sym (append-nil listed) ∙ ap (λ rest. listed ++ placed_in space (committed_of rest)) none ∙ is ∙ ap (λ es. placed_in space (committed_of es)) (sym same)

pub returns-clause-rise : goal.returns-clause-rise
returns-clause-rise c =
    let es = c.self.inside.values.entries in
    let space = c.args.groups.now in
    let same = all-listed space c.loop-row.listed.items c.loop-row.row-iterator c.args.self.now es c.loop-row.invariant (sym c.in-None.ensures.steps.0) c.self.view_is in
    subst RowsRise (sym same) (placed-rise space (committed_of es) (committed-sorted es c.iter-row-items.ensures.ordered))

pub returns-clause-rows : goal.returns-clause-rows
returns-clause-rows c =
    let es = c.self.inside.values.entries in
    let space = c.args.groups.now in
    let same = all-listed space c.loop-row.listed.items c.loop-row.row-iterator c.args.self.now es c.loop-row.invariant (sym c.in-None.ensures.steps.0) c.self.view_is in
    subst (λ vs. ListsPlaced space vs c.loop-row.listed.items) c.self.view_is (lists-placed space es c.loop-row.listed.items c.iter-row-items.ensures.ordered same)
