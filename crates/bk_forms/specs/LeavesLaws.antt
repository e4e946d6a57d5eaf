-- What is read leaves at most so many tokens.
use Rattle.std.proofs.Common.{ℕ, ◌≤◌, Bool, true, false, if◌then◌else◌, List, length, Ok, Err}
use Rattle.bk_token.specs.declared.token.Token.{Token}
use Rattle.bk_items.specs.declared.item.ScriptItem.{ScriptItem}
use Rattle.bk_parse.specs.Parse.{Parsed}
use Rattle.bk_parse.specs.Ahead.{Agrees, behind_it}
use Rattle.bk_parse.specs.Laws.{fewer}

-- what is read leaves at most so many tokens
abbrev pub Leaves : ℕ → Parsed (ScriptItem × List Token) → Type 0
Leaves most (Ok x) = length x.1 ≤ most
Leaves most (Err left) = Unit {0}

pub leaves_of : {more ts : List Token} {q : Parsed (ScriptItem × List Token)} (p : Parsed (ScriptItem × List Token)) → Agrees behind_it more ts p q → Leaves (length ts) p
leaves_of (Ok x) a = fewer a
leaves_of (Err left) a = tt

pub either : (n : ℕ) (b : Bool) (p q : Parsed (ScriptItem × List Token)) → Leaves n p → Leaves n q → Leaves n (if b then p else q)
either n true p q h k = h
either n false p q h k = k
