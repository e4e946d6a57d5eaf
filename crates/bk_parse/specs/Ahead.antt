-- A form looks one token ahead of where it ends, and at most two: where it leaves two tokens or more, more tokens behind
-- them change nothing.
use Rattle.std.specs.Prelude.{◌≡◌, ℕ, ◌+◌, ◌<◌, ◌≤◌, List, ◌++◌, length, Ok, Err}
use Rattle.bk_token.specs.declared.token.Token.{Token}
use Rattle.bk_parse.specs.Parse.{Parsed}

-- where what is read holds the tokens behind it
pub record Rest (A : Type 0) : Type 0 where
  pub tokens : A → List Token
  pub grown : List Token → A → A

-- tokens alone
abbrev pub left_over : Rest (List Token)
left_over = record { tokens = λ ts. ts; grown = λ more ts. ts ++ more }

-- a value, and the tokens behind it
abbrev pub behind_it : {B : Type 0} → Rest (B × List Token)
behind_it = record { tokens = λ x. x.1; grown = λ more x. (x.0, x.1 ++ more) }

-- how many tokens are left, behind what is read or where a form can't go on
abbrev pub left_of : {A : Type 0} → Rest A → Parsed A → ℕ
left_of rest (Ok x) = length (rest.tokens x)
left_of rest (Err left) = left

-- the same, with more tokens behind
abbrev pub grown_by : {A : Type 0} → Rest A → List Token → Parsed A → Parsed A
grown_by rest more (Ok x) = Ok (rest.grown more x)
grown_by rest more (Err left) = Err (left + length more)

-- these tokens stand at the end of those
abbrev pub IsEnd : List Token → List Token → Type 0
IsEnd ts behind = (taken : List Token) × (ts ≡ taken ++ behind)

-- the tokens behind what is read stand at the end of these, or a form can't go on at one of them or at their end
abbrev pub LeavesEnd : {A : Type 0} → Rest A → List Token → Parsed A → Type 0
LeavesEnd rest ts (Ok x) = IsEnd ts (rest.tokens x)
LeavesEnd rest ts (Err left) = left ≤ length ts

-- What is read of these tokens leaves their end, and where it leaves two or more, the same is read of them with more behind.
pub record Agrees {A : Type 0} (rest : Rest A) (more ts : List Token) (read whole : Parsed A) : Type 0 where
  pub ends : LeavesEnd rest ts read
  pub same : 1 < left_of rest read → whole ≡ grown_by rest more read

-- a form leaves the end of the tokens, and looks at most two tokens ahead
abbrev pub LooksAhead : {A : Type 0} → Rest A → (List Token → Parsed A) → Type 0
LooksAhead rest form = (more ts : List Token) → Agrees rest more ts (form ts) (form (ts ++ more))
