use Rattle.std.proofs.Common.{◌∙◌, subst, sym}
use Rattle.bk_store.specs.Told.{IsAsOf}
use Rattle.bk_store.proofs.Renoted.{as_of-end}
use Rattle.bk_store.proofs.noting.as_of_end.Goals as goal

pub returns-clause-says : goal.returns-clause-says
returns-clause-says c files rs shows =
    let From : _ → Type 0 = λ n. IsAsOf (record { from = n; tables = c.in_ok-tables.tables; model = c.model.result; time = c.time.result }) rs in
    subst From (sym c.end.ensures.same) (as_of-end files rs c.args.shown.now c.in_ok-tables.tables c.model.result c.time.result shows (c.in_ok-tables.ensures ∙ c.tables.ensures files rs shows) (c.model.ensures files rs shows) (c.time.ensures files rs shows))
