-- What a `&` to a block shows of its fields. Assumes `Logic`.
use Prim.Native.Nat.{ℕ, ◌+◌}
use mathlib.Core.List.{[], ◌∷◌}
use seplogic.Ra.Ura.{Ura}
use mir.Syntax.{w64}
use base.Logic.{ent, sep}
use base.Fml.{Lft, Fml, fhide}
use types.Logic.{Logic, sem}
use types.Kit.{‵, ◌$◌, ◌∵◌, !, qed, keep, drop, fsplit, done}
use denote.Builtin.{usize}
use denote.RattleType.{RattleType, RowLaws}
use denote.Memory.{hidden_shr}
use denote.Opens.{shr_dup, unhide, hide}
use denote.Param.Shared.{copy_shared}
use denote.Plain.{uint_row_laws}
use denote.RawPtr.{RawPtr, block_ptr, ptr_row_laws}
use denote.Struct.Laws.{field_copy}
use denote.Struct.Lending.{lent_out}
use denote.Struct.Struct.{Struct, Struct-row_laws}
use denote.Struct.Owning.{shape, to}
use Rattle.std.specs.declared.alloc.Allocator.{Ghosts}
use Rattle.std.specs.contracts.marker.PhantomData as marker
use Rattle.bk_frames.specs.contracts.block.Block as C

module _ (A : RattleType) (g : Ghosts A.Denot) {M : Type 1} {𝓤 : Ura M} (𝓛 : Logic 𝓤) (κ : Lft) (b o : ℕ) (d : (C.the_row A g).Denot) where
  abbrev Fields : RattleType
  Fields = Struct (shape (C.the_type A g))

  abbrev values : Fields.Denot
  values = to (C.the_type A g) d

  abbrev pub fields_seen : Fml
  fields_seen = hidden_shr Fields κ values b o

  abbrev pub pages_seen : Fml
  pages_seen = fhide (C.the_lent A g d (block_ptr b o) κ)

  pub seen_apart : ent 𝓤 (sem 𝓛 (hidden_shr (C.the_row A g) κ d b o)) (sep 𝓤 (sem 𝓛 fields_seen) (sem 𝓛 pages_seen))
  seen_apart = lent_out 𝓛 (C.struct A g) (C.the_codes A.Denot A.coded (marker.the_row RawPtr).coded) (C.the_heap A g) (C.the_lent A g) κ d b o

  laws : RowLaws Fields
  laws = Struct-row_laws (shape (C.the_type A g)) (ptr_row_laws, (uint_row_laws w64, (uint_row_laws w64, ((copy_shared (marker.the_field RawPtr) (field_copy (marker.the_type RawPtr) tt)).shr_laws, tt))))

  pub shows_at : ent 𝓤 (sem 𝓛 fields_seen) (sep 𝓤 (sem 𝓛 (hidden_shr RawPtr κ d.at b (o + 0))) (sem 𝓛 fields_seen))
  shows_at = qed 𝓛 (‵ fields_seen ∷ []) ∵ shr_dup ! Fields laws values b o κ $ unhide ! $ fsplit ! $ fsplit ! $ hide ! $ keep ! (0 ∷ 3 ∷ []) $ done !

  pub shows_count : ent 𝓤 (sem 𝓛 fields_seen) (sep 𝓤 (sem 𝓛 (hidden_shr usize κ d.count b (o + 8))) (sem 𝓛 fields_seen))
  shows_count = qed 𝓛 (‵ fields_seen ∷ []) ∵ shr_dup ! Fields laws values b o κ $ unhide ! $ fsplit ! $ fsplit ! $ drop ! $ fsplit ! $ hide ! $ keep ! (0 ∷ 3 ∷ []) $ done !
