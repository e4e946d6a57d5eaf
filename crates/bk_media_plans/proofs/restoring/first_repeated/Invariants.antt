use Rattle.std.proofs.Common.{◌≡◌, [], take, drop}
use Rattle.bk_media_plans.specs.SetPaths.{first_repeated}
use Rattle.bk_media_plans.proofs.restoring.first_repeated.Given as goal

abbrev pub invariant-loop-i : goal.invariant-loop-i
invariant-loop-i l = first_repeated (take l.i l.files) (drop l.i l.files) ≡ first_repeated [] l.files
