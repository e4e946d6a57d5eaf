use Rattle.bk_hosting.proofs.Checked.{rest-hosted}
use Rattle.bk_hosting.proofs.hosting.Hosting.at_rest.Goals as goal

pub returns-clause-crash : goal.returns-clause-crash
returns-clause-crash g c = λ tells hosted is. rest-hosted (g.D.Device.disk c.args.dev.now) c.args.self.now hosted is
