use Rattle.std.proofs.Common.{◌≡◌, [], length}
use Rattle.bk_media_forms.specs.Media.{units_from}
use Rattle.bk_media_forms.proofs.media.some_units.Given as goal

abbrev pub invariant-loop-left : goal.invariant-loop-left
invariant-loop-left l = units_from l.src l.left l.found.items l.rest ≡ units_from l.src l.fn.tokens [] l.fn.tokens

abbrev pub decreases-loop-left : goal.decreases-loop-left
decreases-loop-left l = length l.left
