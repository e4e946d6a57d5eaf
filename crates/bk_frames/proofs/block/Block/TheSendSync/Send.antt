use denote.RattleType.{RattleType}
use denote.Param.Send.{IsSend, Frees, AllSend, owning_send, struct_send, sendable}
use denote.Struct.Struct.{exits_of}
use denote.Struct.Owning.{shape, fields, to}
use Rattle.std.specs.declared.alloc.Allocator.{Ghosts}
use Rattle.bk_frames.specs.contracts.block.Block.{the_row, the_type}
use Rattle.bk_frames.proofs.Shared.{block-Keyless, quiet}

pub send : (A : RattleType) (g : Ghosts A.Denot) → IsSend A → Frees g g.dealloc_token → IsSend (the_row A g)
send A g s f =
    let O = the_type A g in
    let all : AllSend (fields O) = (search sendable, (search sendable, (search sendable, (search sendable, tt)))) in
    owning_send O all (λ d. block-Keyless (g.dealloc_token d.alloc) (f.frees d.alloc) d.at d.room d.pages) (λ k. quiet (to O) (exits_of k (fields O)) ((struct_send (shape O) all).leaving k))
