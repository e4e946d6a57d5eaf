-- Tokens from a place of the script on.
use Rattle.std.specs.Prelude.{◌≡◌, ◌≤◌, ℕ, List, [], ◌∷◌, length, count_by, take, drop, Option, Some, None}
use Rattle.bk_token.specs.Bytes.{is_line_feed}
use Rattle.bk_token.specs.Tokens.{AreTokensFrom}
use Rattle.bk_token.specs.declared.place.Place.{Place}
use Rattle.bk_token.specs.declared.token.Token.{Token}

-- the place lies in the bytes, and counts the line feeds before it
pub record IsPlace (src : List ℕ) (p : Place) : Type 0 where
  pub within : p.at ≤ length src
  pub counted : p.feeds ≡ count_by is_line_feed (take p.at src)

-- the tokens from the place to the end of the bytes
abbrev pub AreTokensAt : List ℕ → Place → List Token → Type 0
AreTokensAt src p ts = AreTokensFrom (take p.at src) (drop p.at src) ts

-- of these tokens this is the first, and the others are those from the place on; or there is none
abbrev pub IsNext : List ℕ → Option Token → List Token → Place → Type 0
IsNext src None ts p = ts ≡ []
IsNext src (Some t) ts p = (rest : List Token) × (ts ≡ t ∷ rest) × AreTokensAt src p rest

-- of these tokens a piece is the first, if it is one, and the others are those from the place on
abbrev pub IsNextPiece : List ℕ → Option Token → List Token → Place → Type 0
IsNextPiece src None ts p = AreTokensAt src p ts
IsNextPiece src (Some t) ts p = (rest : List Token) × (ts ≡ t ∷ rest) × AreTokensAt src p rest
