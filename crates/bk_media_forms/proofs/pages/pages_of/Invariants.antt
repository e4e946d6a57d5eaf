use Rattle.std.proofs.Common.{◌≡◌, [], length}
use Rattle.bk_media_forms.specs.Pages.{pages_from}
use Rattle.bk_media_forms.proofs.pages.pages_of.Given as goal

abbrev pub invariant-loop-left : goal.invariant-loop-left
invariant-loop-left l = pages_from l.left l.found.items l.rest ≡ pages_from l.fn.bytes [] l.fn.bytes

abbrev pub decreases-loop-left : goal.decreases-loop-left
decreases-loop-left l = length l.left
