use Rattle.bk_hosting.specs.Hosting.{IsReady}
use Rattle.store_cases.proofs.session.play.Given as goal

abbrev pub invariant-loop-line : goal.invariant-loop-line
invariant-loop-line g l = record {
  can_next : (goal.iterator-loop-line g).can_next l.line-iterator;
  finite : (goal.iterator-loop-line g).is_finite l.line-iterator;
  ready : IsReady l.hosting;
}
