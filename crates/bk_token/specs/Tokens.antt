-- The token list of a script.
use Rattle.std.specs.Prelude.{◌≡◌, ℕ, ◌+◌, ◌<◌, ◌≤◌, min, List, [], ◌∷◌, ◌++◌, length, count_by, take, drop, slice_range, Some, None}
use Rattle.bk_token.specs.Bytes.{is_line_feed}
use Rattle.bk_token.specs.Pieces.{IsPiece}
use Rattle.bk_token.specs.declared.token.Kind.{Kind}
use Rattle.bk_token.specs.declared.token.Token.{Token}

-- the line of what stands behind these bytes, from 1; all lines from 4294967295 on count as that one
abbrev pub line_behind : List ℕ → ℕ
line_behind before = min (count_by is_line_feed before + 1) 4294967295

-- a text as a token
abbrev pub token_of : List ℕ → List ℕ → Kind → Token
token_of before text kind = record {
  kind = kind;
  start = length before;
  «end» = length before + length text;
  line = line_behind before;
}

-- the tokens of the bytes, with the bytes that stand before them: piece by piece, none for what is passed over
pub data AreTokensFrom : List ℕ → List ℕ → List Token → Type 0 where
  ended : {before : List ℕ} → AreTokensFrom before [] []
  passed : {before bytes : List ℕ} {ts : List Token} (text rest : List ℕ) → bytes ≡ text ++ rest → IsPiece before text rest None → AreTokensFrom (before ++ text) rest ts → AreTokensFrom before bytes ts
  token : {before bytes : List ℕ} {ts : List Token} (text rest : List ℕ) (kind : Kind) → bytes ≡ text ++ rest → IsPiece before text rest (Some kind) → AreTokensFrom (before ++ text) rest ts → AreTokensFrom before bytes (token_of before text kind ∷ ts)

-- the tokens of a script
abbrev pub AreTokens : List ℕ → List Token → Type 0
AreTokens src ts = AreTokensFrom [] src ts

-- from a place to the end of the bytes, each token has a byte and begins at the end of the one before, or later
abbrev pub SpansRise : ℕ → List ℕ → List Token → Type 0
SpansRise from src [] = from ≤ length src
SpansRise from src (t ∷ ts) = (from ≤ t.start) × (t.start < t.«end») × SpansRise t.«end» src ts

-- the bytes of a token
abbrev pub bytes_of : List ℕ → Token → List ℕ
bytes_of src t = slice_range src t.start t.«end»

-- the bytes of the token are a piece of its kind
abbrev pub IsItsSlice : List ℕ → Token → Type 0
IsItsSlice src t = IsPiece (take t.start src) (bytes_of src t) (drop t.«end» src) (Some t.kind)
