use Rattle.std.proofs.Common.{arith}
use Rattle.bk_log.proofs.Parts.{place_next}
use Rattle.bk_log.proofs.places.place_of.Goals as goal

pub loop-i-preserved : goal.loop-i-preserved
loop-i-preserved c = record {
  inside = c.behind-at.ensures.inside;
  value = λ rs spelled all below.
      place_next c.args.bytes.now rs c.loop-i._i c.loop-i.at c.behind-at.result spelled all (omega (arith, below)) (c.loop-i.invariant.value rs spelled all (omega (arith, below))) c.behind-at.ensures.value;
}
