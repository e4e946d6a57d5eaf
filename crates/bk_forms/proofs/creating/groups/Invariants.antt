use Rattle.std.proofs.Common.{◌≡◌, [], length}
use Rattle.bk_forms.specs.Creating.{groups_from}
use Rattle.bk_forms.proofs.creating.groups.Given as goal

abbrev pub invariant-loop-left : goal.invariant-loop-left
invariant-loop-left l = groups_from l.src l.left l.found.items l.rest ≡ groups_from l.src l.fn.tokens [] l.fn.tokens

abbrev pub decreases-loop-left : goal.decreases-loop-left
decreases-loop-left l = length l.left
