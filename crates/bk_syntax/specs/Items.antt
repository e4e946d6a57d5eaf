-- The items of a script, as a relation between its tokens and its items.
use Rattle.std.specs.Prelude.{◌≡◌, ℕ, ◌-◌, ◌||◌, true, false, if◌then◌else◌, List, [], ◌∷◌, length, take, drop, Ok, Err}
use Rattle.bk_token.specs.Tokens.{AreTokens, line_behind}
use Rattle.bk_token.specs.declared.token.Token.{Token}
use Rattle.bk_items.specs.declared.item.ScriptItem.{ScriptItem}
use Rattle.bk_items.specs.declared.item.ScriptItem.TheVariants.{Syntax, TooLong}
use Rattle.bk_items.specs.declared.item.ScriptEntry.{ScriptEntry}
use Rattle.bk_syntax.specs.Limits.{ends, recovered, is_long, is_wide}
use Rattle.bk_syntax.specs.Statement.{line_or_statement}

-- an item, or TooLong where a length in it is above its limit
abbrev pub measured : List Token → List Token → ScriptItem → ScriptItem
measured ts rest item = if is_wide ts rest || is_long item then TooLong else item

-- the tokens from the place on where so many are left
abbrev pub from_place : ℕ → List Token → List Token
from_place left ts = drop (length ts - left) ts

-- the line of the next token, or at the end the line of the last byte
abbrev pub line_at : List ℕ → List Token → ℕ
line_at src [] = line_behind (take (length src - 1) src)
line_at src (t ∷ ts) = t.line

-- what is read from this token on, before the rest
abbrev pub read_entry : Token → List Token → List Token → ScriptItem → ScriptEntry
read_entry t ts rest item = record { item = measured (t ∷ ts) rest item; line = t.line }

-- nothing can go on at the place where so many tokens are left
abbrev pub fault_entry : List ℕ → Token → List Token → ℕ → ScriptEntry
fault_entry src t ts left = record { item = Syntax (line_at src (from_place left (t ∷ ts))); line = t.line }

-- The entries of tokens: semicolons and GO stand between them; a statement or a console line takes the longest run of tokens
-- that fits; where none can go on, the entry is Syntax with the line there, and reading goes on behind the next end.
pub data AreEntries : List ℕ → List Token → List ScriptEntry → Type 0 where
  ended : {src : List ℕ} → AreEntries src [] []
  between : {src : List ℕ} {t : Token} {ts : List Token} {es : List ScriptEntry} → ends t.kind ≡ true → AreEntries src ts es → AreEntries src (t ∷ ts) es
  statement : {src : List ℕ} {t : Token} {ts : List Token} {es : List ScriptEntry} (item : ScriptItem) (rest : List Token) → ends t.kind ≡ false → line_or_statement src (t ∷ ts) ≡ Ok (item, rest) → AreEntries src rest es → AreEntries src (t ∷ ts) (read_entry t ts rest item ∷ es)
  fault : {src : List ℕ} {t : Token} {ts : List Token} {es : List ScriptEntry} (left : ℕ) → ends t.kind ≡ false → line_or_statement src (t ∷ ts) ≡ Err left → AreEntries src (recovered (from_place left (t ∷ ts))) es → AreEntries src (t ∷ ts) (fault_entry src t ts left ∷ es)

-- the items of a script
abbrev pub AreItems : List ℕ → List ScriptEntry → Type 0
AreItems src es = (ts : List Token) × AreTokens src ts × AreEntries src ts es
