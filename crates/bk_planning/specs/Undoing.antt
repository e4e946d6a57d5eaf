-- Acts by which pending writes are undone, and transactions end.
use Rattle.std.specs.Prelude.{◌≡◌, ◌≤◌, ℕ, ◌+◌, ◌^◌, List, length, Option}
use Rattle.bk_acts.specs.declared.act.StoredAct.{StoredAct}
use Rattle.bk_ids.specs.declared.record.Mark.{Mark}
use Rattle.bk_kept.specs.declared.kept.Database.{Database as KeptDatabase}
use Rattle.bk_kept.specs.Keeps.{ShowsLog, database_of}
use Rattle.bk_machine.specs.World.{World, log_of, without_begin}
use Rattle.bk_machine.specs.statements.Commit.{mark_with}
use Rattle.bk_plans.specs.Planned.{SaysNow, SaysThen}
use Rattle.bk_world.specs.Pending.{Pending, of_transaction, pending}
use Rattle.bk_world.specs.Records.{Said}
use Rattle.bk_world.specs.Says.{commit_said}
use Rattle.bk_world.specs.declared.transaction.Open.{Open}

-- By an act a database says this of its pending writes, and then these transactions are open.
pub record SaysOf (d : KeptDatabase) (said : List Pending → List Said) (ts : List Open) (stored : StoredAct) : Type 0 where
  pub writes : List Pending
  pub are : (w : World) → ShowsLog w.history d → writes ≡ pending (log_of w.history (database_of d))
  pub says : SaysNow d (said writes) ts stored
  pub low : d.shown.«end» + length (said writes) ≤ 2 ^ 62

-- By an act a database says that a transaction is committed now, and then the others are open.
pub record Commits (d : KeptDatabase) (now : ℕ) (t : Open) (stored : StoredAct) : Type 0 where
  pub mark : Option Mark
  pub is : (w : World) → ShowsLog w.history d → mark ≡ mark_with (of_transaction t.begin (pending (log_of w.history (database_of d)))) t.mark
  pub says : SaysThen d now (λ time. commit_said t.begin time mark) (without_begin d.transactions t.begin) stored
  pub low : d.shown.«end» + 1 ≤ 2 ^ 62
