-- BEGIN TRANSACTION. SQL Server: BEGIN TRANSACTION (Transact-SQL); "Use marked transactions to recover related databases".
use Rattle.std.specs.Prelude.{◌≡◌, ℕ, Bool, true, not, ◌&&◌, nat_le, List, [], ◌∷◌, ◌++◌, length, Option, Some, None, Ok}
use Rattle.bk_ids.specs.declared.record.Mark.{Mark}
use Rattle.bk_items.specs.declared.item.Marking.{Marking}
use Rattle.bk_items.specs.declared.item.Marking.TheVariants.{Unmarked, Marked, Described}
use Rattle.bk_items.specs.declared.item.NamedTransaction.{NamedTransaction}
use Rattle.bk_world.specs.declared.reply.Reply.TheVariants.{Done}
use Rattle.bk_world.specs.declared.rule.Rule.TheVariants.{NoSuchDatabase, NotBuilt}
use Rattle.bk_world.specs.Says.{begin_said}
use Rattle.bk_machine.specs.Acts.{logged}
use Rattle.bk_machine.specs.Checks.{Checked, ◌>>=◌, refuse_if, or_refuse, outside, online, limit, used_up, is_name}
use Rattle.bk_machine.specs.Outcome.{Outcome, in_one}
use Rattle.bk_world.specs.declared.transaction.Open.{Open}
use Rattle.bk_machine.specs.World.{World, Database, current_database}

-- an empty text is no description
abbrev pub described : List ℕ → Option (List ℕ)
described [] = None
described (c ∷ text) = Some (c ∷ text)

-- the mark of a transaction of this name
abbrev pub mark_by : List ℕ → Marking → Option Mark
mark_by name Unmarked = None
mark_by name Marked = Some (record { name = name; description = None })
mark_by name (Described text) = Some (record { name = name; description = described text })

abbrev pub mark_of : Option NamedTransaction → Option Mark
mark_of None = None
mark_of (Some t) = mark_by t.name t.marking

-- how many bytes the description of a mark has at most (a script has no longer ones: their items are TooLong there)
abbrev pub most_description_bytes : ℕ
most_description_bytes = 65535

abbrev pub is_short : Marking → Bool
is_short Unmarked = true
is_short Marked = true
is_short (Described text) = nat_le (length text) most_description_bytes

-- its name, where it has one, is a name, and its description isn't too long
abbrev pub has_fit_texts : Option NamedTransaction → Bool
has_fit_texts None = true
has_fit_texts (Some t) = is_name t.name && is_short t.marking

unfoldable pub check_begin : World → ℕ → Option NamedTransaction → Checked Database
check_begin w line transaction = do
  _ ← refuse_if (not (has_fit_texts transaction)) (NotBuilt line)
  _ ← outside w
  current ← or_refuse (current_database w) NoSuchDatabase
  db ← online current
  _ ← limit (used_up db.end)
  Ok db

-- the transaction of the current session that begins at the end of a database
abbrev pub new_open : World → Database → Option Mark → Open
new_open w db mark = record { session = w.session; begin = db.end; mark = mark }

abbrev pub DoesBegin : World → Option Mark → Database → Outcome → Type 0
DoesBegin w mark db outcome = outcome ≡ in_one (logged db.name (begin_said db.end) (db.transactions ++ new_open w db mark ∷ [])) Done
