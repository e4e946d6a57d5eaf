use Rattle.std.proofs.Common.{◌≡◌, length}
use Rattle.bk_device.specs.Held.{current_of}
use Rattle.bk_device.proofs.Made.{AreMade, AreSame}
use Rattle.bk_device.proofs.cache.Cache.keep.Given as goal

abbrev pub invariant-loop-file : goal.invariant-loop-file
invariant-loop-file l = AreMade current_of l.initial.file-items l.file-items l.file-index × AreSame l.initial.file-items l.file-items l.file-index × (length l.file-items ≡ length l.initial.file-items)
