-- A header at the front of bytes.
use Rattle.std.specs.Prelude.{◌≡◌, ℕ, List, ◌++◌, length, drop}
use Rattle.bk_world.specs.declared.header.Header.{Header}
use Rattle.bk_header.specs.Spelling.{spelling}
use Rattle.bk_header.specs.Conditions.{IsHeader}

-- the bytes begin with the spelling of this header, which has so many bytes
pub record BeginsWith (bytes : List ℕ) (h : Header) (size : ℕ) : Type 0 where
  pub header : IsHeader h
  pub spelled : bytes ≡ spelling h ++ drop size bytes
  pub size_is : size ≡ length (spelling h)

-- no front of the bytes is a header
abbrev pub IsNoHeader : List ℕ → Type 0
IsNoHeader bytes = (h : Header) (rest : List ℕ) → IsHeader h → ¬ (bytes ≡ spelling h ++ rest)
