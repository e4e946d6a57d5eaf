use Rattle.bk_shown.proofs.WithPlaces.{are-rows, rows-fit}
use Rattle.bk_shown.proofs.shown.Shown.placed_rows.Goals as goal

pub returns-clause-rows : goal.returns-clause-rows
returns-clause-rows c = λ files rs shows. are-rows files rs c.args.self.now shows c.in_ok-listed.listed.items c.in_ok-listed.ensures.rows

pub returns-clause-fit : goal.returns-clause-fit
returns-clause-fit c = λ files rs shows. rows-fit files rs c.args.self.now shows c.in_ok-listed.listed.items c.in_ok-listed.ensures.rise c.in_ok-listed.ensures.rows
