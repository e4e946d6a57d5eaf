use Rattle.std.proofs.lemmas.Result.{on_ok_weaker}
use Rattle.std.proofs.Common.{ap, arith}
use Rattle.bk_device.specs.Calls.{contents}
use Rattle.bk_device.specs.Laws.{cause_then}
use Rattle.bk_control.proofs.Growing.{grow_step, lengthens_more, lengthens_end}
use Rattle.bk_control.proofs.whole.lengthen.Goals as goal

pub returns-in_err-write_zeros-clause-crash : goal.returns-in_err-write_zeros-clause-crash
returns-in_err-write_zeros-clause-crash g c t =
    let disk = g.D.Device.disk in
    grow_step c.args.name.now c.args.to c.pieces.at c.min-n.result (disk c.args.dev.now) (disk c.pieces.dev) (disk c.write_zeros.new.dev) (omega (arith, c.pieces.invariant.order, c.requires.from t)) (omega (arith, c.min-n.ensures, c.pieces-test.true, c.pieces.invariant.bound, c.requires.from t)) (c.pieces.invariant.effect t) (c.write_zeros.ensures.effect t)

pub pieces-preserved : goal.pieces-preserved
pieces-preserved g c = record {
  order = omega (arith, c.pieces.invariant.order);
  bound = omega (arith, c.min-n.ensures, c.pieces-test.true);
  file = λ t. lengthens_more c.pieces.at c.min-n.result _ _ _ (omega (arith, c.pieces.invariant.order, c.requires.from t)) (c.pieces.invariant.file t) (ap contents (c.in_ok-write_zeros.ensures.written t));
  effect = λ t.
      grow_step c.args.name.now c.args.to c.pieces.at c.min-n.result (g.D.Device.disk c.args.dev.now) (g.D.Device.disk c.pieces.dev) (g.D.Device.disk c.write_zeros.new.dev) (omega (arith, c.pieces.invariant.order, c.requires.from t)) (omega (arith, c.min-n.ensures, c.pieces-test.true, c.pieces.invariant.bound, c.requires.from t)) (c.pieces.invariant.effect t) (c.write_zeros.ensures.effect t);
  cause = cause_then c.pieces.invariant.cause c.write_zeros.ensures.cause (λ none. absurd none);
}

pub returns-clause-lengthened : goal.returns-clause-lengthened
returns-clause-lengthened g c t =
    on_ok_weaker c.sync.result (λ same. lengthens_end c.pieces.at c.args.to _ _ _ (omega (arith, c.pieces.invariant.order, c.requires.from t)) (omega (arith, c.pieces-test.false)) (omega (arith, c.pieces.invariant.bound, c.requires.from t)) (c.pieces.invariant.file t) (ap contents same)) (c.sync.ensures.same t)
