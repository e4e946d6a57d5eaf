use Rattle.std.proofs.Common.{◌≡◌, ◌-◌, ◌≤◌, length, replicate}
use Rattle.bk_frames.specs.Pages.{zeroed_page}
use Rattle.bk_frames.proofs.block.Block.zeroed.Given as goal

abbrev pub invariant-loop-block : goal.invariant-loop-block
invariant-loop-block g l = record { alloc : l.block.alloc ≡ l.alloc; room : l.block.room ≡ l.room; zeros : l.block.pages ≡ replicate (length l.block.pages) zeroed_page; within : length l.block.pages ≤ l.room }

abbrev pub decreases-loop-block : goal.decreases-loop-block
decreases-loop-block g l = l.room - length l.block.pages
