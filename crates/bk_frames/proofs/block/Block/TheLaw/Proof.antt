-- A `&` to a block lends its pages, and neither the memory after them nor the right to free it. Assumes `Logic`.
use denote.RattleType.{RattleType}
use denote.RawPtr.{RawPtr}
use denote.Param.Laws.{Laws}
use denote.Param.Shared.{copy_shared}
use denote.Struct.Field.{RawPtr-field, usize-field}
use denote.Struct.Laws.{RawPtr-copy, usize-copy, field_copy}
use denote.Struct.Lending.{of_Lends}
use Rattle.std.specs.declared.alloc.Allocator.{Ghosts}
use Rattle.std.specs.contracts.marker.PhantomData as marker
use Rattle.bk_frames.specs.contracts.block.Block as C
use Rattle.bk_frames.proofs.block.Block.TheLaw.Statement.{statement}
use Rattle.bk_frames.proofs.Shared.{block_lends-laws, block-lent}

pub shares : (A : RattleType) (g : Ghosts A.Denot) (L : Laws A) → statement A g L
shares A g L =
    of_Lends (C.struct A g) (C.the_codes A.Denot A.coded (marker.the_row RawPtr).coded) (C.the_heap A g) (C.the_lent A g) (λ d p. block_lends-laws d.at d.pages)
    (copy_shared RawPtr-field RawPtr-copy, (copy_shared usize-field usize-copy, (copy_shared usize-field usize-copy, (copy_shared (marker.the_field RawPtr) (field_copy (marker.the_type RawPtr) tt), tt))))
    (λ M 𝓤 𝓛 d p. block-lent 𝓛 (C.the_row A g).lives (g.dealloc_token d.alloc) d.at d.room d.pages)
