use Rattle.std.proofs.Common.{◌∙◌, ap}
use Rattle.bk_machine.specs.Checks.{least_session}
use Rattle.bk_kept.specs.declared.kept.Database.{Database as KeptDatabase}
use Rattle.bk_asked.proofs.Opened.{least-alone}
use Rattle.bk_asked.proofs.opens.least_session.Goals as goal

pub returns : goal.returns
returns c = c.least_of.ensures ∙ least-alone c.as_slice.result.now ∙ ap least_session (c.as_slice.ensures ∙ ap (λ (d : KeptDatabase). d.transactions) c.database.view_is)
