use Rattle.std.proofs.Common.{◌∙◌, sym, subst}
use Rattle.std.specs.Prelude.{string_bytes}
use Rattle.bk_device.specs.Compose.{effect_of_sync}
use Rattle.bk_device.specs.Disk.{IsDurable}
use Rattle.bk_device.specs.Laws.{nothing_by_sync}
use Rattle.bk_settling.proofs.Knowing.{knows_sync, knows_less}
use Rattle.bk_settling.specs.Settling.{narrows-sync}
use Rattle.bk_settling.proofs.settling.Settling.settle_last.Goals as goal

pub invariant_of-self : goal.invariant_of-self
invariant_of-self g c = record {
  same_reference = c.args.self.now.same_reference;
  knows = λ tells calm. knows_sync c.args.self.now.noted (g.met.D.Device.lawful tells c.sync.new.self) (c.sync.ensures.effect tells) (c.args.self.now.knows tells calm);
}

pub returns-in_err-sync-clause-crash : goal.returns-in_err-sync-clause-crash
returns-in_err-sync-clause-crash g c tells =
    effect_of_sync (subst g.N.Names.own (c.deref.ensures ∙ sym c.deref-2.ensures) (c.in_ok-is_own.ensures c.if-not-branch.false)) (λ image mine. mine) (c.sync.ensures.effect tells)

pub invariant_of-self-2 : goal.invariant_of-self-2
invariant_of-self-2 g c = record {
  same_reference = c.args.self.now.same_reference;
  knows = λ tells calm.
      knows_less c.args.self.now.noted c.drop_at.new.self (string_bytes c.in_ok-last.last) (g.D.Device.disk c.sync.new.self)
      (subst (IsDurable (g.D.Device.disk c.sync.new.self)) c.deref-2.ensures (c.in_ok-sync.ensures.durable tells))
      (λ other differ on. c.drop_at.ensures.kept (string_bytes c.in_ok-last.last) other c.in_ok-last.ensures differ on) c.drop_at.ensures.lost
      (knows_sync c.args.self.now.noted (g.met.D.Device.lawful tells c.sync.new.self) (c.sync.ensures.effect tells) (c.args.self.now.knows tells calm));
}

pub returns-clause-same : goal.returns-clause-same
returns-clause-same g c tells = nothing_by_sync (c.sync.ensures.effect tells) (c.in_ok-sync.ensures.same tells)

pub returns-clause-crash : goal.returns-clause-crash
returns-clause-crash g c tells =
    effect_of_sync (subst g.N.Names.own (c.deref.ensures ∙ sym c.deref-2.ensures) (c.in_ok-is_own.ensures c.if-not-branch.false)) (λ image mine. mine) (c.sync.ensures.effect tells)

pub returns-in_err-sync-clause-narrows : goal.returns-in_err-sync-clause-narrows
returns-in_err-sync-clause-narrows g c tells = narrows-sync _ (c.sync.ensures.effect tells)

pub returns-clause-narrows : goal.returns-clause-narrows
returns-clause-narrows g c tells = narrows-sync _ (c.sync.ensures.effect tells)
