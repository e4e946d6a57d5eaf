use Rattle.std.proofs.Common.{refl, arith}
use Rattle.bk_device.specs.Compose.{effect_none, effect_then}
use Rattle.bk_device.specs.Laws.{cause_then}
use Rattle.bk_engine.proofs.finishing.remove_sets.Goals as goal

pub loop-set-init : goal.loop-set-init
loop-set-init g c = record {
  crash = λ tells. effect_none (g.D.Device.disk c.args.dev.now) (λ image left. tt);
  touches = λ tells. effect_none (g.D.Device.disk c.args.dev.now) (λ image left. tt);
  cause = record { rose = λ none. absurd none; never_falls = omega arith; tell_faults = refl };
}

pub loop-set-preserved : goal.loop-set-preserved
loop-set-preserved g c = record {
  crash = λ tells. effect_then (c.loop-set.invariant.crash tells) (c.remove_at.ensures.crash tells);
  touches = λ tells. effect_then (c.loop-set.invariant.touches tells) (c.remove_at.ensures.touches tells);
  cause = cause_then c.loop-set.invariant.cause c.in_ok-remove_at.ensures.cause (λ none. absurd none);
}

pub returns-in_err-remove_at-clause-crash : goal.returns-in_err-remove_at-clause-crash
returns-in_err-remove_at-clause-crash g c = λ tells. effect_then (c.loop-set.invariant.crash tells) (c.remove_at.ensures.crash tells)

pub returns-in_err-remove_at-clause-touches : goal.returns-in_err-remove_at-clause-touches
returns-in_err-remove_at-clause-touches g c = λ tells. effect_then (c.loop-set.invariant.touches tells) (c.remove_at.ensures.touches tells)
