-- A database of a sound world that is online, with what is open in it: what it may say, it may say by an act.
use Rattle.std.proofs.Common.{◌≡◌, ◌<◌, ◌≤◌, ℕ, ◌+◌, true, false, List, [], ◌++◌, length, Some, sym, subst, arith}
use Rattle.std.specs.List.{AllByRecursion}
use Rattle.bk_world.specs.declared.database.Status.TheVariants.{Online}
use Rattle.bk_lemmas.specs.Lists.{all_joined, all_mapped}
use Rattle.bk_world.specs.Pending.{Pending, of_transaction, pending}
use Rattle.bk_world.specs.Records.{Logged, Said, more, numbered}
use Rattle.bk_world.specs.SoundLogs.{undoes}
use Rattle.bk_machine.specs.Acts.{logged}
use Rattle.bk_machine.specs.BeginLaws.{each-own}
use Rattle.bk_machine.specs.Checks.{last_number}
use Rattle.bk_machine.specs.MayDo.{IsOpenOrNew, MayDo, MayLog, MaySay}
use Rattle.bk_machine.specs.NamedLaws.{of-named}
use Rattle.bk_machine.specs.ReadyLaws.{holds-of}
use Rattle.bk_machine.specs.Sound.{AreOpen, IsFitJob, IsSound, JobIs, KeepsAll, IsWholeDatabase, LeavesStamp, OpenBy, has_begin, IsKept}
use Rattle.bk_world.specs.declared.transaction.Open.{Open}
use Rattle.bk_machine.specs.declared.job.Job.{Job}
use Rattle.bk_machine.specs.World.{World, Database, database_named, log_of, most_writes}

-- a database that is online
pub record IsUp (w : World) (db : Database) : Type 0 where
  pub named : database_named w.databases db.name ≡ Some db
  pub whole : IsWholeDatabase w db
  pub up : db.status ≡ Online
  pub opens : AreOpen (log_of w.history db) db.end db.transactions
  pub job : JobIs (IsFitJob (log_of w.history db) db.end db.transactions) db.job
  pub keeps : IsKept db.kept db.transactions db.job

pub is-up : (w : World) (db : Database) → IsSound w → database_named w.databases db.name ≡ Some db → db.status ≡ Online → IsUp w db
is-up w db sound named up =
    let opens : OpenBy w.history db = of-named (OpenBy w.history) w.databases db.name db sound.opens named in
    record { named = named; whole = of-named (IsWholeDatabase w) w.databases db.name db sound.whole.databases named; up = up; opens = opens.online up; job = opens.job; keeps = opens.keeps }

-- what it may say, behind which these transactions are open, is an act that may be done
pub may-open : (w : World) (db : Database) (said : List Said) (transactions : List Open) → IsUp w db → MaySay w db said → AllByRecursion (IsOpenOrNew db) transactions
    → AreOpen (more (log_of w.history db) db.end said) (db.end + length said) transactions → JobIs (λ (job : Job). LeavesStamp (more (log_of w.history db) db.end said) (db.end + length said) transactions) db.job
    → MayDo w (logged db.name said transactions)
may-open w db said transactions r says each opens leaves =
    holds-of (database_named w.databases db.name) db (λ d. MayLog w d said transactions) r.named (record { says = says; each = each; opens = opens; leaves = leaves })

-- a record that undoes nothing
abbrev pub UndoesNone : Logged → Type 0
UndoesNone r = (begin : ℕ) → undoes begin r ≡ false

-- behind records that undo nothing no write is undone
pub kept-more : (rs ss : List Logged) (ts : List Open) → AllByRecursion UndoesNone ss → AllByRecursion (KeepsAll rs) ts → AllByRecursion (KeepsAll (rs ++ ss)) ts
kept-more rs ss ts none undone =
    all_mapped (KeepsAll rs) (KeepsAll (rs ++ ss))
    (λ t before. all_joined (λ (r : Logged). undoes t.begin r ≡ false) rs ss before (all_mapped UndoesNone (λ (r : Logged). undoes t.begin r ≡ false) (λ r no. no t.begin) ss none)) ts undone

-- they began below each later end
pub begins-later : (n m : ℕ) (ts : List Open) → n ≤ m → AllByRecursion (λ (t : Open). (0 < t.begin) × (t.begin < n)) ts → AllByRecursion (λ (t : Open). (0 < t.begin) × (t.begin < m)) ts
begins-later n m ts le all = all_mapped (λ (t : Open). (0 < t.begin) × (t.begin < n)) (λ (t : Open). (0 < t.begin) × (t.begin < m)) (λ t lies. (lies.0, omega (arith, lies.1, le))) ts all

-- where the same is pending and numbers are left, the same is open
pub opens-same : (rs : List Logged) (end : ℕ) (ts : List Open) (said : List Said) → AreOpen rs end ts → AllByRecursion UndoesNone (numbered end said) → pending (more rs end said) ≡ pending rs
    → (end + length said) + (length (pending rs) + length ts) ≤ last_number → AreOpen (more rs end said) (end + length said) ts
opens-same rs end ts said opens none same left = record {
  pending = subst (AllByRecursion (λ (w : Pending). has_begin ts w.begin ≡ true)) (sym same) opens.pending;
  loads = subst (AllByRecursion (λ (w : Pending). w.extents ≡ [])) (sym same) opens.loads;
  apart = opens.apart;
  begins = begins-later end (end + length said) ts (omega arith) opens.begins;
  few = subst (λ ws. AllByRecursion (λ (t : Open). length (of_transaction t.begin ws) ≤ most_writes) ts) (sym same) opens.few;
  seats = opens.seats;
  kept = kept-more rs (numbered end said) ts none opens.kept;
  numbers = subst (λ ws. (end + length said) + (length ws + length ts) ≤ last_number) (sym same) left;
}

-- what it may say, behind which the same is pending and numbers are left, is an act that may be done
pub may-tell : (w : World) (db : Database) (said : List Said) → IsUp w db → MaySay w db said → AllByRecursion UndoesNone (numbered db.end said)
    → pending (more (log_of w.history db) db.end said) ≡ pending (log_of w.history db) → (db.end + length said) + (length (pending (log_of w.history db)) + length db.transactions) ≤ last_number
    → JobIs (λ (job : Job). LeavesStamp (more (log_of w.history db) db.end said) (db.end + length said) db.transactions) db.job → MayDo w (logged db.name said db.transactions)
may-tell w db said r says none same left leaves = may-open w db said db.transactions r says (each-own db) (opens-same (log_of w.history db) db.end db.transactions said r.opens none same left) leaves
