use Rattle.std.proofs.Common.{◌∙◌, ap}
use Rattle.bk_machine.specs.World.{transaction_of}
use Rattle.bk_kept.specs.declared.kept.Database.{Database as KeptDatabase}
use Rattle.bk_asked.proofs.Opened.{first-open}
use Rattle.bk_asked.proofs.opens.open_of.Goals as goal

pub returns : goal.returns
returns c = c.first_of.ensures ∙ first-open c.as_slice.result.now c.args.session ∙ ap (λ ts. transaction_of ts c.args.session) (c.as_slice.ensures ∙ ap (λ (d : KeptDatabase). d.transactions) c.database.view_is)
