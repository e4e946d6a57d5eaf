use Rattle.std.proofs.Common.{◌≡◌, drop}
use Rattle.bk_header.specs.Reading.{starts_rise}
use Rattle.bk_header.proofs.making.rise_from_one.Given as goal

abbrev pub invariant-loop-branch : goal.invariant-loop-branch
invariant-loop-branch l = starts_rise l.least (drop l.branch-index l.path) ≡ starts_rise 1 l.path
