use Rattle.std.proofs.Common.{◌≡◌, ◌∙◌, ◌++◌, [], ℕ, List, sym, ap, subst}
use Rattle.std.proofs.lemmas.List.{append-nil}
use Rattle.bk_world.specs.RowLaws.{RowsRise}
use Rattle.bk_world.specs.Telling.{row_at}
use Rattle.bk_shown.specs.Rows.{RowEntries, committed_of, rows_in, value_among}
use Rattle.bk_shown.proofs.Entries.{committed-sorted, committed-values}
use Rattle.bk_shown.proofs.Listing.{listed-rise, listed-values}
use Rattle.bk_shown.proofs.rows.Rows.listed.Goals as goal

all-listed : (table : ℕ) (listed : List (ℕ × List ℕ)) (rest now es : RowEntries) → listed ++ rows_in table (committed_of rest) ≡ rows_in table (committed_of now) → [] ≡ rest → es ≡ now
    → listed ≡ rows_in table (committed_of es)
all-listed table listed rest now es is none same =
    sym (append-nil listed) ∙ ap (λ rest. listed ++ rows_in table (committed_of rest)) none ∙ is ∙ ap (λ es. rows_in table (committed_of es)) (sym same)

pub returns-clause-rise : goal.returns-clause-rise
returns-clause-rise c =
    let es = c.self.inside.values.entries in
    let same = all-listed c.args.table c.loop-row.listed.items c.loop-row.row-iterator c.args.self.now es c.loop-row.invariant (sym c.in-None.ensures.steps.0) c.self.view_is in
    subst RowsRise (sym same) (listed-rise c.args.table (committed_of es) (committed-sorted es c.iter-row-items.ensures.ordered))

pub returns-clause-rows : goal.returns-clause-rows
returns-clause-rows c = λ key.
    let es = c.self.inside.values.entries in
    let same = all-listed c.args.table c.loop-row.listed.items c.loop-row.row-iterator c.args.self.now es c.loop-row.invariant (sym c.in-None.ensures.steps.0) c.self.view_is in
    ap (λ rows. row_at rows key) same ∙ listed-values c.args.table (committed_of es) key
    ∙ committed-values es c.iter-row-items.ensures.ordered (c.args.table, key) ∙ ap (λ vs. value_among vs (c.args.table, key)) c.self.view_is
