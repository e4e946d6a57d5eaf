-- How far each piece goes, read from left to right.
use Rattle.std.specs.Prelude.{◌<◌, ◌≤◌, length, take, drop, ◌≡◌, ℕ, ◌+◌, ◌-◌, ◌&&◌, Bool, true, false, ◌==◌, if◌then◌else◌, List, [], ◌∷◌, Option, Some, None}
use Rattle.std.specs.Char.{is_ascii_digit}
use Rattle.bk_token.specs.Bytes.{is_within_line, is_word_byte, begins}
use Rattle.bk_token.specs.Pieces.{IsPieceBy, IsPiece, IsClosed, IsQuotation}
use Rattle.bk_token.specs.declared.opening.Opening.{Opening}
use Rattle.bk_token.specs.declared.opening.Opening.TheVariants.{DashComment, SlashComment, Letter, Digit, Quote, NationalQuote, Bracket, DoubleQuote}
use Rattle.bk_token.specs.declared.token.Kind.{Kind}
use Rattle.bk_token.specs.declared.token.Token.{Token}

-- how many bytes there are up to and with the quote that closes, where two in a row stand for one and
-- the last one read may be the first of two; none where the line ends before it
abbrev pub closing : ℕ → Bool → ℕ → List ℕ → Option ℕ
closing close false at [] = None
closing close true at [] = Some at
closing close true at (b ∷ bs) = if b == close then closing close false (at + 1) bs else Some at
closing close false at (b ∷ bs) = if b == 10 then None else closing close (b == close) (at + 1) bs

-- how many more bytes an open block comment takes, with so many more open around it, behind the byte `last`,
-- which is 0 where `/*` or `*/` ended
abbrev pub comment_from : ℕ → ℕ → List ℕ → ℕ
comment_from outer last [] = 0
comment_from outer last (b ∷ bs) =
    if last == 47 && b == 42 then 1 + comment_from (outer + 1) 0 bs
    else (if last == 42 && b == 47 then 1 + (if outer == 0 then 0 else comment_from (outer - 1) 0 bs)
    else 1 + comment_from outer b bs)

-- what an opening says of the first bytes
abbrev pub Opens : Opening → List ℕ → Type 0
Opens DashComment bytes = begins is_within_line bytes ≡ true
Opens SlashComment bytes = take 2 bytes ≡ 47 ∷ 42 ∷ []
Opens Letter bytes = begins is_word_byte bytes ≡ true
Opens Digit bytes = begins is_ascii_digit bytes ≡ true
Opens Quote bytes = take 1 bytes ≡ 39 ∷ []
Opens NationalQuote bytes = take 2 bytes ≡ 78 ∷ 39 ∷ []
Opens Bracket bytes = take 1 bytes ≡ 91 ∷ []
Opens DoubleQuote bytes = take 1 bytes ≡ 34 ∷ []
Opens _ bytes = Unit {0}

-- the first len bytes are a piece that opens so
pub record CutsBy (opening : Opening) (before bytes : List ℕ) (len : ℕ) (found : Option Kind) : Type 0 where
  pub nonempty : 0 < len
  pub within : len ≤ length bytes
  pub piece : IsPieceBy opening before (take len bytes) (drop len bytes) found

-- the first len bytes are a piece
pub record Cuts (before bytes : List ℕ) (len : ℕ) (found : Option Kind) : Type 0 where
  pub nonempty : 0 < len
  pub within : len ≤ length bytes
  pub piece : IsPiece before (take len bytes) (drop len bytes) found

-- the first len bytes are a text or a name in these quotes
pub record CutsClosed (front : List ℕ) (close : ℕ) (bytes : List ℕ) (len : ℕ) : Type 0 where
  pub nonempty : 0 < len
  pub within : len ≤ length bytes
  pub closed : IsClosed front close (take len bytes) (drop len bytes)

-- the first len bytes are what opens with a quote: closed, or a bad token
pub record CutsQuotation (kind : Kind) (front : List ℕ) (close : ℕ) (bytes : List ℕ) (len : ℕ) (found : Option Kind) : Type 0 where
  pub nonempty : 0 < len
  pub within : len ≤ length bytes
  pub piece : IsQuotation kind front close (take len bytes) (drop len bytes) found

-- the token that a piece is, if it is one
abbrev pub as_token : Option Kind → ℕ → ℕ → ℕ → List Token
as_token None start last line = []
as_token (Some kind) start last line = record { kind = kind; start = start; «end» = last; line = line } ∷ []
