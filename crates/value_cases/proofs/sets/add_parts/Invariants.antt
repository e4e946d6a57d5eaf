use Rattle.std.proofs.Common.{◌≡◌, false}
use Rattle.value_cases.proofs.sets.add_parts.Given as goal

abbrev pub invariant-loop-extent : goal.invariant-loop-extent
invariant-loop-extent l = record {
  can_next : (goal.iterator-loop-extent).can_next l.extent-iterator;
  finite : (goal.iterator-loop-extent).is_finite l.extent-iterator;
  fit : l.staged.failed ≡ false;
  first : l.staged.log ≡ 0;
  name : l.staged.name ≡ l.fn.staged.name;
}
