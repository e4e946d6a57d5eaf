use Rattle.std.proofs.Common.{◌≡◌, [], length}
use Rattle.bk_forms.specs.Creating.{files_from}
use Rattle.bk_forms.proofs.creating.files.Given as goal

abbrev pub invariant-loop-left : goal.invariant-loop-left
invariant-loop-left l = files_from l.src l.left l.found.items l.rest ≡ files_from l.src l.fn.tokens [] l.fn.tokens

abbrev pub decreases-loop-left : goal.decreases-loop-left
decreases-loop-left l = length l.left
