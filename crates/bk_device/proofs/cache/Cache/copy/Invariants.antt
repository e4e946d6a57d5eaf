use Rattle.std.proofs.Common.{◌≡◌, length}
use Rattle.bk_device.specs.Held.{current_of}
use Rattle.bk_device.proofs.Made.{AreMade}
use Rattle.bk_device.proofs.cache.Cache.copy.Given as goal

abbrev pub invariant-loop-file : goal.invariant-loop-file
invariant-loop-file l = AreMade current_of l.file-items l.held.items l.file-index × (length l.held.items ≡ l.file-index)
