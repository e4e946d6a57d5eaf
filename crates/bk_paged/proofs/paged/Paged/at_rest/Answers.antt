use Rattle.bk_paged.specs.Leaving.{paged_none}
use Rattle.bk_paged.proofs.paged.Paged.at_rest.Goals as goal

pub returns-clause-crash : goal.returns-clause-crash
returns-clause-crash g c t stood is = paged_none c.args.self.now stood (g.D.Device.disk c.args.dev.now) is
