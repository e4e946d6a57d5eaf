-- A `&` to a block reaches each of its pages, and a block may go to another thread. Assumes `Logic`.
use Prim.Native.Nat.{ℕ, ◌+◌}
use mathlib.Core.List.{List, [], ◌∷◌}
use seplogic.Ra.Ura.{Ura}
use base.Fraction.{full_share}
use base.Fml.{Lft, Fml, ftrue, ffalse}
use base.Shift.{Keyless}
use contract.BorrowLft.{⊑_static}
use mir.Syntax.{Ty}
use types.Logic.{Logic}
use denote.Memory.{part_at, shared_of}
use denote.RawPtr.{Ptr, block_ptr, null_ptr}
use denote.Sharing.{ShrLaws, said}
use denote.SharingLaws.{said_shr_laws}
use denote.Shares.{Shares-less}
use denote.Slice.{elements_shared, elements_shr_laws}
use denote.Param.Shared.{Sharable, copy_shared}
use denote.Exit.{Exit, unchanged, leaves, hidden, under}
use denote.Param.Send.{IsSend, IsSync, Common, Quiet, part_keyless, sendable}
use denote.Struct.Field.{array_field, u8-field}
use denote.Struct.Laws.{array_copy, u8-copy}
use denote.Struct.Lending.{Lends, Lends-false, Lends-nothing, Lends-first, Lends-both}
use Rattle.bk_frames.specs.Blocks.{page_row, pages_type, pages_at, block_owns, block_lends}

page_shared : Sharable (array_field u8-field 8192)
page_shared = copy_shared (array_field u8-field 8192) (array_copy u8-field u8-copy 8192)

pub block_lends-laws : (p : Ptr) (pages : List (List ℕ)) → ShrLaws (block_lends p pages)
block_lends-laws (block_ptr b o) pages = elements_shr_laws page_row page_shared.shr_laws pages b o
block_lends-laws null_ptr pages = said_shr_laws ffalse tt

module _ {M : Type 1} {𝓤 : Ura M} (𝓛 : Logic 𝓤) (l : Lft) where
  pages-lent : (xs : List (List ℕ)) (b o : ℕ) → Lends 𝓛 (pages_at b o xs) (elements_shared page_row xs b o) l
  pages-lent [] b o = Lends-nothing 𝓛 ftrue l
  pages-lent (x ∷ xs) b o =
      Lends-both 𝓛 (part_at page_row full_share x b o) (pages_at b (o + 8192) xs) (shared_of page_row x b o) (elements_shared page_row xs b (o + 8192)) l
      (λ κ ts. Shares-less 𝓛 page_row page_row.lives l (⊑_static l) (page_shared.shares M 𝓤 𝓛) x κ ts b o) (pages-lent xs b (o + 8192))

  pub block-lent : (token : Ty → Ptr → Fml) (p : Ptr) (n : ℕ) (pages : List (List ℕ)) → Lends 𝓛 (block_owns token p n pages) (block_lends p pages) l
  block-lent token (block_ptr b o) n pages = Lends-first 𝓛 (pages_at b o pages) _ (elements_shared page_row pages b o) l (pages-lent pages b o)
  block-lent token null_ptr n pages = Lends-false 𝓛 (said ffalse) l

page-sent : IsSend page_row
page-sent = search sendable

page-seen : IsSync page_row
page-seen = search sendable

pages-Keyless : (b o : ℕ) (xs : List (List ℕ)) → Keyless (pages_at b o xs)
pages-Keyless b o [] = tt
pages-Keyless b o (x ∷ xs) = (part_keyless page_row page-sent full_share x b o, pages-Keyless b (o + 8192) xs)

pub block-Keyless : (token : Ty → Ptr → Fml) → ((τ : Ty) (p : Ptr) → Keyless (token τ p)) → (p : Ptr) (n : ℕ) (pages : List (List ℕ)) → Keyless (block_owns token p n pages)
block-Keyless token free (block_ptr b o) n pages = (pages-Keyless b o pages, (tt, free (pages_type n) (block_ptr b o)))
block-Keyless token free null_ptr n pages = tt

elements-Common : (b o : ℕ) (xs : List (List ℕ)) → Common (elements_shared page_row xs b o)
elements-Common b o [] κ = tt
elements-Common b o (x ∷ xs) κ = (page-seen.shared x b o κ, elements-Common b (o + 8192) xs κ)

pub block_lends-Common : (p : Ptr) (pages : List (List ℕ)) → Common (block_lends p pages)
block_lends-Common (block_ptr b o) pages κ = elements-Common b o pages κ
block_lends-Common null_ptr pages κ = tt

pub quiet : {D X : Type 0} (to : D → X) (e : Exit X) → Quiet e → Quiet (hidden (under to e))
quiet to unchanged q = λ x w. tt
quiet to (leaves L l S s r₀) q = λ d. q (to d)
