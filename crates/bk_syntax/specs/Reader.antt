-- Reading a script item by item.
use Rattle.std.specs.Prelude.{◌≡◌, ◌<◌, ◌≤◌, ℕ, ◌+◌, ◌-◌, ◌*◌, false, List, [], ◌∷◌, ◌++◌, length, drop, Option, Some, None}
use Rattle.bk_token.specs.Places.{IsPlace, AreTokensAt}
use Rattle.bk_token.specs.declared.place.Place.{Place}
use Rattle.bk_token.specs.declared.token.Token.{Token}
use Rattle.bk_items.specs.declared.item.ScriptItem.TheVariants.{Syntax}
use Rattle.bk_items.specs.declared.item.ScriptEntry.{ScriptEntry}
use Rattle.bk_syntax.specs.Items.{AreEntries, from_place}
use Rattle.bk_syntax.specs.Limits.{ends, recovered}
use Rattle.bk_syntax.specs.declared.front.Front.{Front}
use Rattle.bk_syntax.specs.declared.front.Front.TheVariants.{Wants, Read, Stuck}
use Rattle.bk_syntax.specs.declared.reader.Reader.{Reader}

-- the tokens that were read ahead
abbrev pub ahead : Reader → List Token
ahead r = drop r.from r.tokens.items

-- the reader is one of this script
pub record IsReader (src : List ℕ) (r : Reader) : Type 0 where
  pub within : r.from ≤ length r.tokens.items
  pub place : IsPlace src r.place

-- the tokens that it has before it: those read ahead, and those from its place on
abbrev pub HasTokens : List ℕ → Reader → List Token → Type 0
HasTokens src r ts = (later : List Token) × (ts ≡ ahead r ++ later) × AreTokensAt src r.place later

-- the items that it has before it
abbrev pub HasItems : List ℕ → Reader → List ScriptEntry → Type 0
HasItems src r es = (ts : List Token) × HasTokens src r ts × AreEntries src ts es

-- of these items this is the first, and the others are those that the reader then has before it; or there is none
abbrev pub GivesItem : List ℕ → Option ScriptEntry → List ScriptEntry → Reader → Type 0
GivesItem src None es r = es ≡ []
GivesItem src (Some e) es r = (rest : List ScriptEntry) × (es ≡ e ∷ rest) × HasItems src r rest

-- how much is still to be done: each byte counts twice, since it may become a token, which counts once
abbrev pub work : List ℕ → Reader → ℕ
work src r = 2 * (length src - r.place.at) + length (ahead r)

-- tokens were read on from a place, to so many, or to the end
pub record ReadsOn (src : List ℕ) (old : Place) (before : List Token) (new : Place) (after : List Token) : Type 0 where
  pub read : List Token
  pub added : after ≡ before ++ read
  pub others : (later : List Token) → AreTokensAt src old later → (rest : List Token) × (later ≡ read ++ rest) × AreTokensAt src new rest
  pub moved : old.at + length read ≤ new.at
  pub place : IsPlace src new

-- the reader has the same tokens before it, of which it has read more ahead
pub record Fills (src : List ℕ) (old new : Reader) : Type 0 where
  pub reader : IsReader src new
  pub read : List Token
  pub added : ahead new ≡ ahead old ++ read
  pub same : (ts : List Token) → HasTokens src old ts → HasTokens src new ts
  pub less : work src new ≤ work src old

-- an entry stands in front of the tokens, and the others are those of the next ones
abbrev pub StandsInFront : List ℕ → List Token → ScriptEntry → List Token → Type 0
StandsInFront src ts e next = (es : List ScriptEntry) → AreEntries src ts es → (rest : List ScriptEntry) × (es ≡ e ∷ rest) × AreEntries src next rest

-- what stands in front of these tokens, whatever others follow that may; or more of them are wanted, and may be
abbrev pub IsInFront : List ℕ → ℕ → List Token → (List Token → Type 0) → Type 0 → Front → Type 0
IsInFront src line ts may_follow may_want Wants = may_want
IsInFront src line ts may_follow may_want (Read item left) =
    (left < length ts) × ((more : List Token) → may_follow more → StandsInFront src (ts ++ more) (record { item = item; line = line }) (from_place left ts ++ more))
IsInFront src line ts may_follow may_want (Stuck left there) =
    (left < length ts) × ((more : List Token) → may_follow more → StandsInFront src (ts ++ more) (record { item = Syntax there; line = line }) (recovered (from_place left ts ++ more)))

-- the first token that the reader has before it is read ahead; or it has none
abbrev pub Peeked : List ℕ → Reader → Reader → Option Token → Type 0
Peeked src old new None = (ts : List Token) → HasTokens src old ts → ts ≡ []
Peeked src old new (Some t) = (others : List Token) × (ahead new ≡ t ∷ others)

-- the reader has the same items before it
pub record Passes (src : List ℕ) (old new : Reader) : Type 0 where
  pub reader : IsReader src new
  pub same : (es : List ScriptEntry) → HasItems src old es → HasItems src new es
  pub less : work src new ≤ work src old

-- it stands at a token that is no end of a statement; or it has no items before it
abbrev pub Begun : List ℕ → Reader → Reader → Option Token → Type 0
Begun src old new None = (es : List ScriptEntry) → HasItems src old es → es ≡ []
Begun src old new (Some t) = (ends t.kind ≡ false) × ((others : List Token) × (ahead new ≡ t ∷ others))

-- it stands where reading goes on behind a fault
pub record Recovers (src : List ℕ) (old new : Reader) : Type 0 where
  pub reader : IsReader src new
  pub there : (ts : List Token) → HasTokens src old ts → HasTokens src new (recovered ts)
  pub less : work src new ≤ work src old
