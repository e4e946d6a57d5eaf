-- What is known of the database of an act that is done.
use Rattle.std.proofs.Common.{◌≡◌, ℕ, List, Option, Some, None, refl, subst}
use Rattle.bk_acts.specs.declared.act.StoredAct.TheVariants.{Logged as LoggedAct, Checkpointed}
use Rattle.bk_acts.specs.Meaning.{Spell}
use Rattle.bk_acts.specs.MeaningLaws.{spell-from}
use Rattle.bk_ids.specs.declared.record.Rec.{Rec}
use Rattle.bk_machine.specs.Acts.{Act, logged}
use Rattle.bk_machine.specs.MayDo.{HoldsOf, MayDo}
use Rattle.bk_machine.specs.World.{World, Database, database_named}
use Rattle.bk_world.specs.Records.{Said}
use Rattle.bk_world.specs.declared.transaction.Open.{Open}
use Rattle.bk_kept.specs.Stored.{IsDone, IsTaken, MarksEnd, SaysNamed}

-- what holds of a database that is there
mapped-of : (o : Option Database) (P Q : Database → Type 0) → ((db : Database) → P db → Q db) → HoldsOf o P → HoldsOf o Q
mapped-of None P Q leads holds = holds
mapped-of (Some db) P Q leads holds = leads db holds

-- By an act that is done a database says this, whose records begin at its end.
pub record DoesSay (w : World) (name : List ℕ) (transactions : List Open) (records : List Rec) (act : Act) : Type 0 where
  pub said : List Said
  pub act_is : act ≡ logged name said transactions
  pub can : SaysNamed w name records said transactions

pub does-say : (w : World) (name : List ℕ) (transactions : List Open) (records : List Rec) (act : Act) → IsDone w (LoggedAct name transactions records) act → DoesSay w name transactions records act
does-say w name transactions records act done = record { said = said; act_is = done.means.act_is; can = by act done.means.act_is done.may done.taken }
  where
    said : List Said
    said = done.means.said

    by : (a : Act) → a ≡ logged name said transactions → MayDo w a → IsTaken w a → SaysNamed w name records said transactions
    by a is may taken = record {
      may = subst (MayDo w) is may;
      can = subst (IsTaken w) is taken;
      spelled_is = mapped-of (database_named w.databases name) (λ db. (others : List Said) × Spell records db.end others) (λ db. Spell records db.end said)
          (λ db other. spell-from records done.means.n db.end said other.0 done.means.spell other.1) done.from_end;
    }

-- By an act that is done a checkpoint is marked of a database that is there.
pub record DoesMark (w : World) (name : List ℕ) (time kept : ℕ) (act : Act) : Type 0 where
  pub db : Database
  pub found : database_named w.databases name ≡ Some db
  pub marks : MarksEnd w name time kept act db

pub does-mark : (w : World) (name : List ℕ) (time kept : ℕ) (act : Act) → IsDone w (Checkpointed name time kept) act → DoesMark w name time kept act
does-mark w name time kept act done = by (database_named w.databases name) refl done.marked
  where
    by : (o : Option Database) → database_named w.databases name ≡ o → HoldsOf o (MarksEnd w name time kept act) → DoesMark w name time kept act
    by None is marks = absurd marks
    by (Some db) is marks = record { db = db; found = is; marks = marks }
