-- What tokens say: words, names and texts.
use Rattle.std.specs.Prelude.{◌≡◌, ℕ, ◌-◌, Bool, true, false, ◌&&◌, ◌==◌, if◌then◌else◌, List, [], ◌∷◌, ◌++◌, ◌⊎◌, length, drop, slice_range, Option, Some, None}
use Rattle.std.specs.List.{list_any, list_all}
use Rattle.std.specs.Str.{is_utf8, str_eq_ignore_ascii_case}
use Rattle.bk_token.specs.Bytes.{is_blank, begins}
use Rattle.bk_token.specs.Pieces.{doubled}
use Rattle.bk_token.specs.Tokens.{bytes_of}
use Rattle.bk_token.specs.declared.token.Kind.{Kind}
use Rattle.bk_token.specs.declared.token.Kind.TheVariants.{Word, Quoted, Text}
use Rattle.bk_token.specs.declared.token.Token.{Token}
use Rattle.bk_token.specs.declared.words.TheConstants.{RESERVED}

-- the token is a word
abbrev pub is_word_kind : Kind → Bool
is_word_kind Word = true
is_word_kind _ = false

-- the token is this word, in any case
unfoldable pub is_word : List ℕ → Token → List ℕ → Bool
is_word src t keyword = is_word_kind t.kind && str_eq_ignore_ascii_case (bytes_of src t) keyword

-- the word is one that no name may be, in any case
unfoldable pub is_reserved : List ℕ → Bool
is_reserved word = list_any (λ r. str_eq_ignore_ascii_case word r.now) RESERVED

-- the bytes with two closing quotes in a row read as one
abbrev pub folded : ℕ → List ℕ → List ℕ
folded close [] = []
folded close (b ∷ []) = b ∷ []
folded close (b ∷ c ∷ bs) = if b == close && c == close then close ∷ folded close bs else b ∷ folded close (c ∷ bs)

-- the content of a text: without the N, the quotes around it, and each second quote within
unfoldable pub text_content : List ℕ → List ℕ
text_content bytes = folded 39 (slice_range bytes (if begins (λ b. b == 78) bytes then 2 else 1) (length bytes - 1))

-- what closes a name: a bracket where it opens with one, else a double quote
abbrev pub closing_quote : List ℕ → ℕ
closing_quote bytes = if begins (λ b. b == 91) bytes then 93 else 34

-- the content of a name in brackets or double quotes
unfoldable pub quoted_content : List ℕ → List ℕ
quoted_content bytes = folded (closing_quote bytes) (slice_range bytes 1 (length bytes - 1))

-- bytes as a text, where they are valid UTF-8
abbrev pub as_text : List ℕ → Option (List ℕ)
as_text bytes = if is_utf8 bytes then Some bytes else None

-- the content of a text token, none of others
abbrev pub text_by : Kind → List ℕ → Option (List ℕ)
text_by Text bytes = as_text (text_content bytes)
text_by _ bytes = None

abbrev pub text_of : List ℕ → Token → Option (List ℕ)
text_of src t = text_by t.kind (bytes_of src t)

-- the name that a token is: a word that isn't reserved, or the content of a name in quotes
abbrev pub name_by : Kind → List ℕ → Option (List ℕ)
name_by Word bytes = if is_reserved bytes then None else as_text bytes
name_by Quoted bytes = as_text (quoted_content bytes)
name_by _ bytes = None

abbrev pub name_of : List ℕ → Token → Option (List ℕ)
name_of src t = name_by t.kind (bytes_of src t)

-- from a place on, every byte that lies in no token is a blank
abbrev pub is_plain_from : ℕ → List ℕ → List Token → Bool
is_plain_from from src [] = list_all is_blank (drop from src)
is_plain_from from src (t ∷ ts) = list_all is_blank (slice_range src from t.start) && is_plain_from t.«end» src ts

-- no comment stands among the tokens
abbrev pub is_plain : List ℕ → List Token → Bool
is_plain src ts = is_plain_from 0 src ts

-- the bytes are this content in these quotes
abbrev pub IsSpelled : List ℕ → ℕ → List ℕ → List ℕ → Type 0
IsSpelled front close bytes content = bytes ≡ front ++ (doubled close content ++ close ∷ [])

-- what a text or a name in quotes says is what its bytes spell
abbrev pub SaysBy : Kind → List ℕ → Type 0
SaysBy Text bytes = (content : List ℕ) × (text_by Text bytes ≡ Some content)
    × (IsSpelled (39 ∷ []) 39 bytes content ⊎ IsSpelled (78 ∷ 39 ∷ []) 39 bytes content)
SaysBy Quoted bytes = (content : List ℕ) × (name_by Quoted bytes ≡ Some content)
    × (IsSpelled (91 ∷ []) 93 bytes content ⊎ IsSpelled (34 ∷ []) 34 bytes content)
SaysBy _ bytes = Unit {0}
