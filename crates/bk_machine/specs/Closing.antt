-- The end of a run: backups that run are dropped, and the transactions that are open are rolled back, by rising session, a part each.
-- SQL Server: ROLLBACK TRANSACTION (Transact-SQL). That sessions are closed in this order is this project's own.
use Rattle.std.specs.Prelude.{◌≡◌, ◌⊎◌, ◌≤◌, ℕ, ◌+◌, List, [], ◌∷◌, length, None, Some}
use Rattle.std.specs.List.{AllByRecursion}
use Rattle.bk_world.specs.declared.reply.Reply.TheVariants.{Nothing}
use Rattle.bk_machine.specs.Acts.{Act, done, jobs_dropped}
use Rattle.bk_machine.specs.Outcome.{Outcome}
use Rattle.bk_machine.specs.Sound.{AreIdle}
use Rattle.bk_world.specs.declared.transaction.Open.{Open}
use Rattle.bk_machine.specs.World.{World, Database, Held, held_in}
use Rattle.bk_machine.specs.statements.Rollback.{rolls_back}

-- an open transaction, of the least session of all that have one
pub record IsFirst (w : World) (held : Held) : Type 0 where
  pub there : held_in w.databases held.transaction.session ≡ Some held
  pub least : AllByRecursion (λ (db : Database). AllByRecursion (λ (t : Open). held.transaction.session ≤ t.session) db.transactions) w.databases

-- no backup runs in it
abbrev pub HasNoJobs : World → Type 0
HasNoJobs w = AllByRecursion (λ (db : Database). db.job ≡ None) w.databases

-- an act that closes: no backup runs any more, or the first transaction is rolled back
abbrev pub Closes : World → Act → Type 0
Closes w act = (act ≡ jobs_dropped) ⊎ ((held : Held) × IsFirst w held × (act ≡ rolls_back w held))

-- acts that close, one after another
abbrev pub IsClosingFront : World → List Act → Type 0
IsClosingFront w [] = Unit {0}
IsClosingFront w (act ∷ acts) = Closes w act × IsClosingFront (done w act) acts

-- and so on, until nothing is open
abbrev pub AreClosing : World → List Act → Type 0
AreClosing w [] = AreIdle w
AreClosing w (act ∷ acts) = Closes w act × AreClosing (done w act) acts

-- a run is closed, as a last statement would be, which answers nothing
abbrev pub closed_by : List Act → Outcome
closed_by acts = record { acts = acts; reply = Nothing }

-- how many transactions are open in some databases
abbrev pub count_open : List Database → ℕ
count_open [] = 0
count_open (db ∷ databases) = length db.transactions + count_open databases
