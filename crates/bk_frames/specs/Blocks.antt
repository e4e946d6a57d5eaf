-- What a block of pages owns and lends.
use Rattle.std.specs.Prelude.{ℕ, ◌+◌, ◌-◌, ◌*◌, List, length}
use mir.Syntax.{Ty, w8, ty_int, ty_array}
use base.Fml.{Lft, Fml, ffalse, fsep, froom}
use types.SemTy.{cells}
use denote.RattleType.{RattleType}
use denote.Builtin.{u8}
use denote.Array.{Array}
use denote.Memory.{mem}
use denote.Slice.{elements_shared}
use denote.Sharing.{said}
use denote.RawPtr.{Ptr, block_ptr, null_ptr}

-- a page's type, as the logic names it and as it lies in memory
abbrev pub page_row : RattleType
page_row = Array u8 8192

abbrev pub page_type : Ty
page_type = ty_array (ty_int w8) 8192

-- so many pages, side by side
abbrev pub pages_type : ℕ → Ty
pages_type n = ty_array page_type n

-- the pages from o bytes into the block b on
abbrev pub pages_at : ℕ → ℕ → List (List ℕ) → Fml
pages_at b o pages = cells (mem page_row) pages b o

-- a block at p for n pages, of which the first are written: these, the memory of the others, and the right to free it
abbrev pub block_owns : (Ty → Ptr → Fml) → Ptr → ℕ → List (List ℕ) → Fml
block_owns token (block_ptr b o) n pages =
    fsep (pages_at b o pages) (fsep (froom (pages_type (n - length pages)) b (length pages * 8192 + o)) (token (pages_type n) (block_ptr b o)))
block_owns token null_ptr n pages = ffalse

-- what a `&` to it holds
abbrev pub block_lends : Ptr → List (List ℕ) → Lft → Fml
block_lends (block_ptr b o) pages = elements_shared page_row pages b o
block_lends null_ptr pages = said ffalse
