-- COMMIT. SQL Server: COMMIT TRANSACTION (Transact-SQL); "Use marked transactions to recover related databases".
-- SQL Server: logmarkhistory (Transact-SQL).
use Rattle.std.specs.Prelude.{◌≡◌, ℕ, List, [], ◌∷◌, Option, Some, None}
use Rattle.bk_ids.specs.declared.record.Mark.{Mark}
use Rattle.bk_world.specs.declared.reply.Reply.TheVariants.{Done}
use Rattle.bk_world.specs.declared.rule.Rule.TheVariants.{NoTransaction}
use Rattle.bk_world.specs.Pending.{Pending, of_transaction, pending}
use Rattle.bk_world.specs.Records.{Said}
use Rattle.bk_world.specs.Says.{commit_said}
use Rattle.bk_machine.specs.declared.history_row.HistoryRow.TheVariants as row
use Rattle.bk_machine.specs.Acts.{Act, logged, noted, said_time}
use Rattle.bk_machine.specs.Checks.{Checked, or_refuse}
use Rattle.bk_machine.specs.Outcome.{Outcome}
use Rattle.bk_machine.specs.World.{World, Held, log_of, own_held, without_begin}

unfoldable pub check_commit : World → Checked Held
check_commit w = or_refuse (own_held w) NoTransaction

-- the mark that a commit of these writes gets: none where there is none of them
abbrev pub mark_with : List Pending → Option Mark → Option Mark
mark_with [] mark = None
mark_with (w ∷ ws) mark = mark

abbrev pub mark_of_commit : World → Held → Option Mark
mark_of_commit w held = mark_with (of_transaction held.transaction.begin (pending (log_of w.history held.database))) held.transaction.mark

-- the transaction is committed, in the database in which it began
abbrev pub commit_of : World → Held → ℕ → List Said
commit_of w held now = commit_said held.transaction.begin (said_time w held.database now) (mark_of_commit w held)

abbrev pub commits : World → Held → ℕ → Act
commits w held now = logged held.database.name (commit_of w held now) (without_begin held.database.transactions held.transaction.begin)

-- behind a marked commit its row of logmarkhistory, with the number of the commit record
abbrev pub notes_mark : List ℕ → ℕ → ℕ → Option Mark → List Act
notes_mark name lsn time None = []
notes_mark name lsn time (Some mark) = noted (row.Mark (record { database = name; mark = mark; lsn = lsn; time = time })) ∷ []

abbrev pub committed : World → Held → ℕ → Outcome
committed w held now = record { acts = commits w held now ∷ notes_mark held.database.name held.database.end (said_time w held.database now) (mark_of_commit w held); reply = Done }

abbrev pub DoesCommit : World → ℕ → Held → Outcome → Type 0
DoesCommit w now held outcome = outcome ≡ committed w held now
