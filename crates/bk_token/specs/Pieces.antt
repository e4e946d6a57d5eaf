-- The pieces of a script: what is passed over, and what is a token. A piece is its text, with the
-- bytes before it and the bytes that follow.
use Rattle.std.specs.Prelude.{◌≡◌, ℕ, ◌+◌, ◌-◌, ◌*◌, ◌^◌, Bool, true, false, not, ◌&&◌, ◌||◌, ◌==◌, nat_lt, if◌then◌else◌, ◌⊎◌, List, [], ◌∷◌, ◌++◌, length, reverse, fold, codes, IsUtf8, Option, Some, None}
use Rattle.std.specs.Char.{is_ascii_digit}
use Rattle.std.specs.List.{list_all, flat_map}
use Rattle.std.specs.Str.{str_eq_ignore_ascii_case}
use Rattle.bk_token.specs.Bytes.{is_within_line, is_blank, begins_word, is_word_byte, is_sign, begins, IsRun}
use Rattle.bk_token.specs.declared.opening.Opening.{Opening}
use Rattle.bk_token.specs.declared.opening.Opening.TheVariants.{Blank, DashComment, SlashComment, Letter, Digit, Quote, NationalQuote, Bracket, DoubleQuote, ColonByte, SignByte, Other}
use Rattle.bk_token.specs.declared.token.Kind.{Kind}
use Rattle.bk_token.specs.declared.token.Kind.TheVariants.{Word, Quoted, Text, Number, Sign, Go, Colon, Bad}

-- what a byte opens that isn't a blank, a letter or a digit
unfoldable pub opening_mark : ℕ → Opening
opening_mark b =
    if b == 39 then Quote
    else (if b == 91 then Bracket
    else (if b == 34 then DoubleQuote
    else (if b == 58 then ColonByte
    else (if is_sign b then SignByte
    else Other))))

-- what the bytes open with, by the first of them or the first two
unfoldable pub opening : List ℕ → Opening
opening [] = Other
opening (b ∷ bs) =
    if is_blank b then Blank
    else (if b == 45 && begins (λ c. c == 45) bs then DashComment
    else (if b == 47 && begins (λ c. c == 42) bs then SlashComment
    else (if b == 78 && begins (λ c. c == 39) bs then NationalQuote
    else (if begins_word b then Letter
    else (if is_ascii_digit b then Digit
    else opening_mark b)))))

-- How many more bytes an open block comment takes, with so many more open around it: `/*` opens one
-- more, `*/` closes one, and what nothing closes runs to the end.
abbrev pub open_comment_len : ℕ → List ℕ → ℕ
open_comment_len outer [] = 0
open_comment_len outer (b ∷ []) = 1
open_comment_len outer (b ∷ c ∷ bs) =
    if b == 47 && c == 42 then 2 + open_comment_len (outer + 1) bs
    else (if b == 42 && c == 47 then 2 + (if outer == 0 then 0 else open_comment_len (outer - 1) bs)
    else 1 + open_comment_len outer (c ∷ bs))

-- a block comment: `/*`, and all that belongs to it
abbrev pub IsBlockComment : List ℕ → List ℕ → Type 0
IsBlockComment text rest = (more : List ℕ) × (text ≡ 47 ∷ 42 ∷ more) × (open_comment_len 0 (more ++ rest) ≡ length more)

-- only blanks stand up to the end of the line
abbrev pub is_blank_line : List ℕ → Bool
is_blank_line [] = true
is_blank_line (b ∷ bs) = b == 10 || (is_blank b && is_blank_line bs)

-- the word GO, alone on its line
abbrev pub is_go : List ℕ → List ℕ → List ℕ → Bool
is_go before text rest = str_eq_ignore_ascii_case text (codes "GO") && is_blank_line (reverse before) && is_blank_line rest

-- nothing stands before it on its line
abbrev pub begins_line : List ℕ → Bool
begins_line before = not (begins is_within_line (reverse before))

-- the value of decimal digits
abbrev pub decimal : List ℕ → ℕ
decimal digits = fold (λ n b. n * 10 + (b - 48)) 0 digits

-- a number has a value below 2 ^ 64
abbrev pub number_kind : List ℕ → Kind
number_kind digits = if nat_lt (decimal digits) (2 ^ 64) then Number (decimal digits) else Bad

-- the bytes with each closing quote written twice
abbrev pub doubled : ℕ → List ℕ → List ℕ
doubled close content = flat_map (λ b. if b == close then close ∷ close ∷ [] else b ∷ []) content

-- a text or a name in quotes: valid UTF-8 on one line, its content spelled with each closing quote twice
pub record IsClosed (front : List ℕ) (close : ℕ) (text rest : List ℕ) : Type 0 where
  pub content : List ℕ
  pub spelled : text ≡ front ++ (doubled close content ++ close ∷ [])
  pub one_line : list_all is_within_line content ≡ true
  pub utf8 : IsUtf8 text
  pub ends : begins (λ b. b == close) rest ≡ false

-- no front of the bytes is a text or a name in these quotes
abbrev pub IsUnclosed : List ℕ → ℕ → List ℕ → Type 0
IsUnclosed front close bytes = (text rest : List ℕ) → bytes ≡ text ++ rest → IsClosed front close text rest → ⊥

-- what opens with a quote is closed, or is one bad token to the end of its line
abbrev pub IsQuotation : Kind → List ℕ → ℕ → List ℕ → List ℕ → Option Kind → Type 0
IsQuotation kind front close text rest found =
    ((found ≡ Some kind) × IsClosed front close text rest)
    ⊎ ((found ≡ Some Bad) × IsRun is_within_line text rest × IsUnclosed front close (text ++ rest))

-- the first byte, or 0
abbrev pub first_of_bytes : List ℕ → ℕ
first_of_bytes [] = 0
first_of_bytes (b ∷ bs) = b

-- a piece that opens so: what it is, none for what is passed over
abbrev pub IsPieceBy : Opening → List ℕ → List ℕ → List ℕ → Option Kind → Type 0
IsPieceBy Blank before text rest found = (found ≡ None) × (length text ≡ 1)
IsPieceBy DashComment before text rest found = (found ≡ None) × IsRun is_within_line text rest
IsPieceBy SlashComment before text rest found = (found ≡ None) × IsBlockComment text rest
IsPieceBy Letter before text rest found = (found ≡ Some (if is_go before text rest then Go else Word)) × IsRun is_word_byte text rest
IsPieceBy Digit before text rest found = (found ≡ Some (number_kind text)) × IsRun is_ascii_digit text rest
IsPieceBy Quote before text rest found = IsQuotation Text (39 ∷ []) 39 text rest found
IsPieceBy NationalQuote before text rest found = IsQuotation Text (78 ∷ 39 ∷ []) 39 text rest found
IsPieceBy Bracket before text rest found = IsQuotation Quoted (91 ∷ []) 93 text rest found
IsPieceBy DoubleQuote before text rest found = IsQuotation Quoted (34 ∷ []) 34 text rest found
IsPieceBy ColonByte before text rest found = (found ≡ Some (if begins_line before then Colon else Bad)) × (length text ≡ 1)
IsPieceBy SignByte before text rest found = (found ≡ Some (Sign (first_of_bytes text))) × (length text ≡ 1)
IsPieceBy Other before text rest found = (found ≡ Some Bad) × (length text ≡ 1)

-- the text is a piece of a script, between these bytes
abbrev pub IsPiece : List ℕ → List ℕ → List ℕ → Option Kind → Type 0
IsPiece before text rest found = IsPieceBy (opening (text ++ rest)) before text rest found
