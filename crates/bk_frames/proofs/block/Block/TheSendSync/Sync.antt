use denote.RattleType.{RattleType}
use denote.Param.Send.{IsSync, struct_sync, sendable}
use denote.Struct.Owning.{shape, to}
use Rattle.std.specs.declared.alloc.Allocator.{Ghosts}
use Rattle.bk_frames.specs.contracts.block.Block.{the_row, the_type}
use Rattle.bk_frames.proofs.Shared.{block_lends-Common}

pub sync : (A : RattleType) (g : Ghosts A.Denot) → IsSync (the_row A g)
sync A g =
    let O = the_type A g in
    record { shared = λ d b o κ. ((struct_sync (shape O) (search sendable, (search sendable, (search sendable, (search sendable, tt))))).shared (to O d) b o κ, block_lends-Common d.at d.pages κ) }
