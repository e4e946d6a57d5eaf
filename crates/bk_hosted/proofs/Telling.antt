-- Of what a database says in one act of a statement, only the last record tells an entry.
use Rattle.std.proofs.Common.{◌≡◌, ◌<◌, inl, inr, ℕ, zero, suc, Bool, true, false, List, [], ◌∷◌, length, take, Option, None, Some, refl, sym, subst, arith}
use Rattle.std.specs.Prelude.{reverse}
use Rattle.std.specs.List.{AllByRecursion}
use Rattle.bk_ids.specs.declared.guid.Guid.{Guid}
use Rattle.bk_items.specs.declared.options.BackupOptions.{BackupOptions}
use Rattle.bk_ids.specs.declared.record.Place.{Place}
use Rattle.bk_items.specs.declared.item.ScriptEntry.{ScriptEntry}
use Rattle.bk_items.specs.declared.item.ScriptItem.{ScriptItem}
use Rattle.bk_items.specs.declared.item.ScriptItem.TheVariants.{CreateDatabase, BackupDatabase, BackupLog, RestoreDatabase, RestoreLog, QueryMedium, CreateTable, Rows, Begin, Commit, Rollback, Checkpoint, Use, SetRecovery, DropDatabase, SelectCatalog, Session, Start, Step, Wait, Syntax, TooLong}
use Rattle.bk_items.specs.declared.rows.RowStatement.{RowStatement}
use Rattle.bk_items.specs.declared.rows.RowStatement.TheVariants.{Insert, Update, Delete, Select, BulkInsert}
use Rattle.bk_lemmas.specs.Lists.{all_joined}
use Rattle.bk_ids.specs.declared.record.Mark.{Mark}
use Rattle.bk_machine.specs.Acts.{Act, done, drawn, said_time}
use Rattle.bk_machine.specs.CheckLaws.{comes-to}
use Rattle.bk_machine.specs.Closing.{AreClosing, Closes}
use Rattle.bk_machine.specs.Crash.{AreQuiet}
use Rattle.bk_machine.specs.Machine.{ItemMay, May}
use Rattle.bk_machine.specs.Outcome.{Outcome, refused}
use Rattle.bk_machine.specs.World.{Database, Held, World, log_of, session_numbered}
use Rattle.bk_machine.specs.statements.Backup.{DoesBackup, check_backup, does_backup, draws_set}
use Rattle.bk_machine.specs.statements.Begin.{DoesBegin, check_begin, mark_of}
use Rattle.bk_machine.specs.statements.Checkpoint.{DoesCheckpoint, check_checkpoint}
use Rattle.bk_machine.specs.statements.Catalog.{DoesSelectCatalog, check_catalog}
use Rattle.bk_machine.specs.statements.Commit.{DoesCommit, check_commit, mark_of_commit, notes_mark}
use Rattle.bk_machine.specs.statements.CreateDatabase.{DoesCreateDatabase, check_create_database}
use Rattle.bk_machine.specs.statements.CreateTable.{DoesCreateTable, check_create_table}
use Rattle.bk_machine.specs.statements.Delete.{DoesDelete, check_delete}
use Rattle.bk_machine.specs.statements.DropDatabase.{DoesDropDatabase, check_drop_database}
use Rattle.bk_machine.specs.statements.Job.{DoesStep, DoesWait, check_job}
use Rattle.bk_machine.specs.statements.Insert.{DoesInsert, check_insert}
use Rattle.bk_machine.specs.statements.Query.{DoesQuery, check_query}
use Rattle.bk_machine.specs.statements.Restore.{DoesRestore, check_restore}
use Rattle.bk_machine.specs.statements.Rollback.{DoesRollback, check_rollback, rolls_back}
use Rattle.bk_machine.specs.statements.Select.{DoesSelect, check_select}
use Rattle.bk_machine.specs.statements.Session.{DoesSession, check_session}
use Rattle.bk_machine.specs.statements.Target.{DoesChange, Target, own_open, row_said, row_set, writes_row}
use Rattle.bk_machine.specs.Seen.{visible}
use Rattle.bk_machine.specs.statements.Update.{DoesUpdate, check_update}
use Rattle.bk_machine.specs.statements.Use.{DoesUse, check_use}
use Rattle.bk_world.specs.declared.rule.Rule.{Rule}
use Rattle.bk_world.specs.declared.transaction.Open.{Open}
use Rattle.bk_world.specs.Entry.{RowChange}
use Rattle.bk_world.specs.Medium.{Reading, medium_at}
use Rattle.bk_world.specs.Pending.{Pending, of_transaction, pending}
use Rattle.bk_world.specs.Records.{Said}
use Rattle.bk_world.specs.Says.{rollback_said, single_said, undoing}
use Rattle.bk_world.specs.Telling.{row_at}
use Rattle.bk_hosted.specs.Fronts.{TellsLast}

-- ---- what is said

-- one record
one-last : (s : Said) (n : ℕ) → n < length (s ∷ []) → AreQuiet (take n (s ∷ []))
one-last s zero lt = tt
one-last s (suc n) lt = absurd (omega (arith, lt))

-- a row's transaction: it begins, writes and commits
single-last : (end : ℕ) (at : Place) (before : Option (List ℕ)) (c : RowChange) (time : ℕ) (n : ℕ) → n < length (single_said end at before c time) → AreQuiet (take n (single_said end at before c time))
single-last end at before c time zero lt = tt
single-last end at before c time (suc zero) lt = (refl, tt)
single-last end at before c time (suc (suc zero)) lt = (refl, (refl, tt))
single-last end at before c time (suc (suc (suc n))) lt = absurd (omega (arith, lt))

row-last : (o : Option Open) (end : ℕ) (at : Place) (before : Option (List ℕ)) (c : RowChange) (time : ℕ) (n : ℕ) → n < length (row_said o end at before c time) → AreQuiet (take n (row_said o end at before c time))
row-last None end at before c time n lt = single-last end at before c time n lt
row-last (Some t) end at before c time n lt = one-last _ n lt

-- a front of what tells nothing tells nothing
front-quiet : (n : ℕ) (said : List Said) → AreQuiet said → AreQuiet (take n said)
front-quiet zero said all = tt
front-quiet (suc n) [] all = tt
front-quiet (suc n) (s ∷ said) all = (all.0, front-quiet n said all.1)

undoing-quiet : (ws : List Pending) → AreQuiet (undoing ws)
undoing-quiet [] = tt
undoing-quiet (w ∷ ws) = (refl, undoing-quiet ws)

rollback-quiet : (begin : ℕ) (ws : List Pending) → AreQuiet (rollback_said begin ws)
rollback-quiet begin ws = all_joined _ (undoing (reverse (of_transaction begin ws))) _ (undoing-quiet (reverse (of_transaction begin ws))) (refl, tt)

pub rolls-last : (w : World) (held : Held) → TellsLast (rolls_back w held)
rolls-last w held n lt = front-quiet n _ (rollback-quiet held.transaction.begin (pending (log_of w.history held.database)))

-- ---- statements

abbrev Tell : Outcome → Type 0
Tell outcome = AllByRecursion TellsLast outcome.acts

told : (known outcome : Outcome) → outcome ≡ known → Tell known → Tell outcome
told known outcome is tell = subst Tell (sym is) tell

refusals-tell : (rule : Rule) → Tell (refused rule)
refusals-tell rule = tt

row-tells : (w : World) (to : Target) (at : Place) (before : Option (List ℕ)) (key : ℕ) (value : Option (List ℕ)) (now : ℕ) → Tell (writes_row w to at before key value now)
row-tells w to at before key value now = (row-last (own_open w to.database) to.database.end at before (row_set to key value) (said_time w to.database now), tt)

change-tells : (w : World) (key : ℕ) (value : Option (List ℕ)) (now : ℕ) (to : Target) (before : Option (List ℕ)) (outcome : Outcome) → DoesChange w key value now to before outcome → Tell outcome
change-tells w key value now to None outcome does = told _ outcome does tt
change-tells w key value now to (Some before) outcome does = told _ outcome does.2 (row-tells w to does.0 (Some before) key value now)

rows-tell : (w : World) (line : ℕ) (table : List ℕ) (statement : RowStatement) (now : ℕ) (outcome : Outcome) → ItemMay w line (Rows table statement) now outcome → Tell outcome
rows-tell w line table (Insert key value) now = comes-to Tell (check_insert w table key value) (DoesInsert w key value now) refusals-tell (λ to e o does. told _ o does.2 (row-tells w to does.0 None key (Some value) now))
rows-tell w line table (Update key value) now = comes-to Tell (check_update w table key value) (DoesUpdate w key value now) refusals-tell
    (λ to e o does. change-tells w key (Some value) now to (row_at (visible w to.database to.table) key) o does)
rows-tell w line table (Delete key) now = comes-to Tell (check_delete w table key) (DoesDelete w key now) refusals-tell
    (λ to e o does. change-tells w key None now to (row_at (visible w to.database to.table) key) o does)
rows-tell w line table (Select key) now = comes-to Tell (check_select w table) (DoesSelect w key) refusals-tell (λ to e o does. told _ o does tt)
rows-tell w line table (BulkInsert first count value) now = λ outcome is. told _ outcome is tt

draws-last : (before : Option Reading) (path : List ℕ) → TellsLast (draws_set before path)
draws-last None path = tt
draws-last (Some reading) path = tt

-- a backup, or one that only starts
backup-tells : (starts : Bool) (w : World) (path : List ℕ) (options : BackupOptions) (set : Guid) (time : ℕ) (db : Database) → Tell (does_backup starts w path options set time db)
backup-tells true w path options set time db = (draws-last (medium_at w.media path) path, (one-last _, (tt, (tt, tt))))
backup-tells false w path options set time db = (draws-last (medium_at w.media path) path, (one-last _, (one-last _, (tt, (tt, (tt, tt))))))

-- the row of a commit tells nothing
marks-tell : (name : List ℕ) (lsn time : ℕ) (mark : Option Mark) → AllByRecursion TellsLast (notes_mark name lsn time mark)
marks-tell name lsn time None = tt
marks-tell name lsn time (Some mark) = (tt, tt)

item-tells : (w : World) (line : ℕ) (item : ScriptItem) (now : ℕ) (outcome : Outcome) → ItemMay w line item now outcome → Tell outcome
item-tells w line (CreateDatabase name primary groups log) now = comes-to Tell (check_create_database w line name primary groups log) (DoesCreateDatabase w name now) refusals-tell (λ found e o does. told _ o does (tt, tt))
item-tells w line (DropDatabase name) now = comes-to Tell (check_drop_database w name) DoesDropDatabase refusals-tell (λ found e o does. told _ o does (tt, tt))
item-tells w line (Use name) now = comes-to Tell (check_use w name) DoesUse refusals-tell (λ found e o does. told _ o does (tt, tt))
item-tells w line (CreateTable name group) now = comes-to Tell (check_create_table w line name group) (DoesCreateTable w name now) refusals-tell (λ found e o does. told _ o does (one-last _, tt))
item-tells w line (Rows table statement) now = rows-tell w line table statement now
item-tells w line (BackupDatabase name units disk options) now = comes-to Tell (check_backup w line name units disk options) (DoesBackup w disk options now) refusals-tell
    (λ found e o does. told _ o does (backup-tells (session_numbered w.sessions w.session).starts w disk options (drawn w w.counter) (said_time w found now) found))
item-tells w line (RestoreDatabase name units disk options) now = comes-to Tell (check_restore w line name units disk options) (DoesRestore w name options now) refusals-tell
    (λ found e o does. told _ o does.4 (tt, (tt, (tt, (tt, tt)))))
item-tells w line (BackupLog name disk options) now = λ outcome is. told _ outcome is tt
item-tells w line (RestoreLog name disk options) now = λ outcome is. told _ outcome is tt
item-tells w line (QueryMedium query disk file) now = comes-to Tell (check_query w line query disk file) DoesQuery refusals-tell (λ found e o does. told _ o does tt)
item-tells w line (Begin transaction) now = comes-to Tell (check_begin w line transaction) (DoesBegin w (mark_of transaction)) refusals-tell (λ found e o does. told _ o does (one-last _, tt))
item-tells w line Commit now = comes-to Tell (check_commit w) (DoesCommit w now) refusals-tell (λ found e o does. told _ o does (one-last _, marks-tell found.database.name found.database.end (said_time w found.database now) (mark_of_commit w found)))
item-tells w line Rollback now = comes-to Tell (check_rollback w) (DoesRollback w) refusals-tell (λ found e o does. told _ o does (rolls-last w found, tt))
item-tells w line Checkpoint now = comes-to Tell (check_checkpoint w) (DoesCheckpoint w now) refusals-tell (λ found e o does. told _ o does (one-last _, tt))
item-tells w line (SetRecovery name model) now = λ outcome is. told _ outcome is tt
item-tells w line (SelectCatalog catalog) now = comes-to Tell (check_catalog w line catalog) DoesSelectCatalog refusals-tell (λ found e o does. told _ o does tt)
item-tells w line (Session number) now = comes-to Tell (check_session line number) DoesSession refusals-tell (λ found e o does. told _ o does (tt, tt))
item-tells w line Start now = λ outcome is. told _ outcome is (tt, tt)
item-tells w line (Step count) now = comes-to Tell (check_job w) (DoesStep count) refusals-tell (λ found e o does. told _ o does (tt, tt))
item-tells w line Wait now = comes-to Tell (check_job w) (DoesWait w now) refusals-tell (λ found e o does. told _ o does (tt, (one-last _, (tt, (tt, (tt, tt))))))
item-tells w line (Syntax at) now = λ outcome is. told _ outcome is tt
item-tells w line TooLong now = λ outcome is. told _ outcome is tt

pub statement-tells : (w : World) (s : ScriptEntry) (now : ℕ) (outcome : Outcome) → May w s now outcome → AllByRecursion TellsLast outcome.acts
unfolding May
statement-tells w s now outcome may = item-tells w s.line s.item now outcome may

-- ---- the end of a run

pub closing-tells : (w : World) (acts : List Act) → AreClosing w acts → AllByRecursion TellsLast acts
closing-tells w [] closing = tt
closing-tells w (act ∷ acts) (closes, rest) = (by closes, closing-tells (done w act) acts rest)
  where
    by : Closes w act → TellsLast act
    by (inl is) = subst TellsLast (sym is) tt
    by (inr (held, first, is)) = subst TellsLast (sym is) (rolls-last w held)
