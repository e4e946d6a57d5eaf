use Rattle.std.proofs.Common.{◌∙◌}
use Rattle.bk_hosting.proofs.hosting.Hosting.spec.Goals as goal

pub returns : goal.returns
returns c = λ hosted h is here. c.spec_of.ensures ∙ is.each c.args.at h _ c.state.result.now here c.store.ensures c.state.ensures
