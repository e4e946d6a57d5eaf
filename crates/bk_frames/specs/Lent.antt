-- What becomes of a block once the pages that it lent are given back.
use Rattle.std.specs.Prelude.{ℕ, List, length}
use Rattle.std.specs.List.{length_refill}
use Rattle.std.specs.Borrow.{Lends, MutBor, Fml, RattleType, Array, u8}
use mathlib.Core.Path.{refl, ◌∙◌}
use Rattle.std.specs.declared.alloc.Allocator.{Ghosts}
use Rattle.bk_frames.specs.Pages.{refilled}
use Rattle.bk_frames.specs.declared.block.Block.{Block}
use Rattle.bk_frames.specs.contracts.block.Block.{the_row}

-- the block with its pages as they were left
abbrev pub with_left : {X : Type 0} → Block X → List (List ℕ) → Block X
with_left b left = record {
  at = b.at;
  count = b.count;
  room = b.room;
  by = b.by;
  alloc = b.alloc;
  pages = refilled b.pages left;
  counted = (b.counted.0 ∙ length_refill (length b.pages) b.pages left refl, b.counted.1, b.counted.2);
}

-- the block ends with its pages as they were left
abbrev pub LendsBlock : (A : RattleType) → Ghosts A.Denot → MutBor (Block A.Denot) → MutBor (List (List ℕ)) → Fml
LendsBlock A heap block pages = Lends (the_row A heap) (Array (Array u8 0) 0) block pages (with_left block.now)
