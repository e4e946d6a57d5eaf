use Rattle.bk_settling.proofs.Knowing.{knows_sync, knows_less}
use Rattle.bk_settling.proofs.settling.SettlingDevice.sync.Goals as goal

pub invariant_of-self : goal.invariant_of-self
invariant_of-self g c = record {
  same_reference = c.args.self.now.same_reference;
  knows = λ tells calm. knows_sync c.args.self.now.noted (g.met.D.Device.lawful tells c.sync.new.self) (c.sync.ensures.effect tells) (c.args.self.now.knows tells calm);
}

pub invariant_of-self-2 : goal.invariant_of-self-2
invariant_of-self-2 g c = record {
  same_reference = c.args.self.now.same_reference;
  knows = λ tells calm.
      knows_less c.args.self.now.noted c.take_out.new.self c.args.name.now (g.D.Device.disk c.sync.new.self) (c.in_ok-sync.ensures.durable tells) c.take_out.ensures.kept c.take_out.ensures.lost
      (knows_sync c.args.self.now.noted (g.met.D.Device.lawful tells c.sync.new.self) (c.sync.ensures.effect tells) (c.args.self.now.knows tells calm));
}
