use Rattle.std.proofs.Common.{◌≡◌, length}
use Rattle.bk_media_forms.specs.Restore.{options_from}
use Rattle.bk_media_forms.proofs.restore_options.options_from.Given as goal

abbrev pub invariant-loop-left : goal.invariant-loop-left
invariant-loop-left l = options_from l.src l.from l.left l.o l.rest ≡ options_from l.src l.from l.fn.tokens l.fn.o l.fn.tokens

abbrev pub decreases-loop-left : goal.decreases-loop-left
decreases-loop-left l = length l.left
