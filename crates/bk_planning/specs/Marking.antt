-- The row of logmarkhistory of a commit. SQL Server: logmarkhistory (Transact-SQL).
use Rattle.std.specs.Prelude.{◌≡◌, ℕ, List, [], ◌∷◌, Option, Some, None}
use Rattle.bk_acts.specs.declared.act.StoredAct.{StoredAct}
use Rattle.bk_ids.specs.declared.record.Mark.{Mark as MarkOf}
use Rattle.bk_kept.specs.declared.kept.Database.{Database as KeptDatabase}
use Rattle.bk_kept.specs.Keeps.{ShowsLog, database_of}
use Rattle.bk_machine.specs.Acts.{said_time}
use Rattle.bk_machine.specs.declared.history_row.HistoryRow.TheVariants.{Mark}
use Rattle.bk_machine.specs.World.{World, log_of}
use Rattle.bk_machine.specs.statements.Commit.{mark_with}
use Rattle.bk_plans.specs.declared.parts.Part.{Part}
use Rattle.bk_plans.specs.declared.parts.Part.TheVariants.{Noted, Stored}
use Rattle.bk_plans.specs.declared.parts.Plan.{Plan}
use Rattle.bk_plans.specs.declared.parts.Plan.TheVariants.{Parts}
use Rattle.bk_world.specs.declared.msdb.MarkRow.{MarkRow}
use Rattle.bk_world.specs.declared.reply.Reply.TheVariants.{Done}
use Rattle.bk_world.specs.declared.transaction.Open.{Open}
use Rattle.bk_world.specs.Pending.{of_transaction, pending}

-- the row of a mark, which the record of this number has at a time
abbrev pub marked_row : List ℕ → ℕ → ℕ → Option MarkOf → Option MarkRow
marked_row name lsn time None = None
marked_row name lsn time (Some mark) = Some (record { database = name; mark = mark; lsn = lsn; time = time })

-- It is that of a transaction that is committed now: its mark and its time are the machine's where the log of the database is what it shows.
pub record NotesMark (d : KeptDatabase) (now : ℕ) (t : Open) (row : Option MarkRow) : Type 0 where
  pub mark : Option MarkOf
  pub time : ℕ
  pub row_is : row ≡ marked_row d.name d.shown.«end» time mark
  pub is : (w : World) → ShowsLog w.history d → mark ≡ mark_with (of_transaction t.begin (pending (log_of w.history (database_of d)))) t.mark
  pub time_is : (w : World) → ShowsLog w.history d → time ≡ said_time w (database_of d) now

-- the part by which it comes to its table
abbrev pub mark_part : Option MarkRow → List Part
mark_part None = []
mark_part (Some row) = Noted (Mark row) ∷ []

-- a plan of a commit by its act and its row
abbrev pub IsCommit : StoredAct → Option MarkRow → Plan → Type 0
IsCommit stored row (Parts parts answer) = (parts.items ≡ Stored stored ∷ mark_part row) × (answer ≡ Done)
IsCommit stored row _ = ⊥
