-- How forms are read over tokens. What is read is a value and the tokens behind it; where a form can't go on, the number of
-- the tokens from there on.
use Rattle.std.specs.Prelude.{◌≡◌, ◌≤◌, ℕ, Bool, false, ◌&&◌, ◌==◌, nat_lt, nat_le, if◌then◌else◌, List, [], ◌∷◌, length, drop, Option, Some, None, Result, Ok, Err}
use Rattle.bk_ids.specs.Name.{same_name}
use Rattle.bk_token.specs.Contents.{is_word, text_of, name_of}
use Rattle.bk_token.specs.declared.token.Kind.{Kind}
use Rattle.bk_token.specs.declared.token.Kind.TheVariants.{Number, Sign}
use Rattle.bk_token.specs.declared.token.Token.{Token}
use Rattle.bk_parse.specs.declared.stop.Stop.{Stop}
use Rattle.bk_parse.specs.declared.stop.Stop.TheVariants.{NoMemory, At}

-- what is read, or how many tokens are left where a form can't go on
abbrev pub Parsed : Type 0 → Type 0
Parsed A = Result A ℕ

infixl 10 ◌>>=◌
-- the first thing, and then the next, which may look at it
abbrev pub ◌>>=◌ : {A B : Type 0} → Parsed A → (A → Parsed B) → Parsed B
(Err left) >>= next = Err left
(Ok x) >>= next = next x

-- a form can't go on there
abbrev pub stuck : {A : Type 0} → List Token → Parsed A
stuck ts = Err (length ts)

-- nothing is read there, unless memory ran out
abbrev pub Stops : {Y : Type 0} → Stop → Parsed Y → Type 0
Stops NoMemory read = Unit {0}
Stops (At left) read = read ≡ Err left

-- what a function returned, seen by view, is what is read there, unless memory ran out
abbrev pub Parses : {X Y : Type 0} → (X → Y) → Result X Stop → Parsed Y → Type 0
Parses view (Ok x) read = read ≡ Ok (view x)
Parses view (Err stop) read = Stops stop read

-- whether the next token is this keyword
abbrev pub next_is : List ℕ → List Token → List ℕ → Bool
next_is src [] word = false
next_is src (t ∷ ts) word = is_word src t word

abbrev pub is_sign_kind : ℕ → Kind → Bool
is_sign_kind b (Sign s) = s == b
is_sign_kind b _ = false

-- whether the next token is this sign
abbrev pub next_sign : List Token → ℕ → Bool
next_sign [] b = false
next_sign (t ∷ ts) b = is_sign_kind b t.kind

-- this keyword, in any case
unfoldable pub keyword : List ℕ → List ℕ → List Token → Parsed (List Token)
keyword src word ts = if next_is src ts word then Ok (drop 1 ts) else stuck ts

-- this keyword, if it is there
unfoldable pub skip : List ℕ → List ℕ → List Token → List Token
skip src word ts = if next_is src ts word then drop 1 ts else ts

-- this sign
unfoldable pub sign : ℕ → List Token → Parsed (List Token)
sign b ts = if next_sign ts b then Ok (drop 1 ts) else stuck ts

abbrev pub number_by : Kind → List Token → Parsed (ℕ × List Token)
number_by (Number n) ts = Ok (n, drop 1 ts)
number_by _ ts = stuck ts

-- a number
unfoldable pub number : List Token → Parsed (ℕ × List Token)
number [] = stuck []
number (t ∷ ts) = number_by t.kind (t ∷ ts)

-- a number from low to high
unfoldable pub number_in : ℕ → ℕ → List Token → Parsed (ℕ × List Token)
number_in low high ts = do
  n ← number ts
  if nat_le low n.0 && nat_le n.0 high then Ok n else stuck ts

abbrev pub filled : Option (List ℕ) → List Token → Parsed (List ℕ × List Token)
filled None ts = stuck ts
filled (Some text) ts = if nat_lt 0 (length text) then Ok (text, drop 1 ts) else stuck ts

-- a name that isn't empty
unfoldable pub name : List ℕ → List Token → Parsed (List ℕ × List Token)
name src [] = stuck []
name src (t ∷ ts) = filled (name_of src t) (t ∷ ts)

-- a name that the grammar fixes, in quotes or without, in any case
unfoldable pub fixed : List ℕ → List ℕ → List Token → Parsed (List Token)
fixed src word ts = do
  n ← name src ts
  if same_name n.0 word then Ok n.1 else stuck ts

abbrev pub any_text : Option (List ℕ) → List Token → Parsed (List ℕ × List Token)
any_text None ts = stuck ts
any_text (Some text) ts = Ok (text, drop 1 ts)

-- a text
unfoldable pub text : List ℕ → List Token → Parsed (List ℕ × List Token)
text src [] = stuck []
text src (t ∷ ts) = any_text (text_of src t) (t ∷ ts)

-- a text that isn't empty
unfoldable pub filled_text : List ℕ → List Token → Parsed (List ℕ × List Token)
filled_text src ts = do
  t ← text src ts
  if nat_lt 0 (length t.0) then Ok t else stuck ts

-- = text
unfoldable pub equal_text : List ℕ → List Token → Parsed (List ℕ × List Token)
equal_text src ts = do
  equal ← sign 61 ts
  text src equal

-- = text that isn't empty
unfoldable pub equal_filled : List ℕ → List Token → Parsed (List ℕ × List Token)
equal_filled src ts = do
  equal ← sign 61 ts
  filled_text src equal

-- = n
unfoldable pub equal_number : List Token → Parsed (ℕ × List Token)
equal_number ts = do
  equal ← sign 61 ts
  number equal
