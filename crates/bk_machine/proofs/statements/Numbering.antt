-- Where an act of a statement is cut, numbers are left to undo what is pending.
use Rattle.std.proofs.Common.{◌≡◌, ◌≢◌, ◌≤◌, ℕ, zero, suc, ◌+◌, List, [], ◌∷◌, ◌++◌, length, take, Option, None, Some, sym, ◌∙◌, ap, subst, arith}
use Rattle.std.proofs.lemmas.List.{length-append}
use Rattle.bk_ids.specs.declared.record.Place.{Place}
use Rattle.bk_world.specs.Entry.{RowChange}
use Rattle.bk_world.specs.Pending.{Pending, pending}
use Rattle.bk_world.specs.ReadingLaws.{pending-more}
use Rattle.bk_world.specs.Records.{Logged, Said, more, numbered}
use Rattle.bk_world.specs.Says.{single_said}
use Rattle.bk_world.specs.Telling.{telling}
use Rattle.bk_world.specs.declared.transaction.Open.{Open}
use Rattle.bk_machine.specs.Acts.{logged}
use Rattle.bk_machine.specs.Checks.{last_number}
use Rattle.bk_machine.specs.Crash.{AreQuiet}
use Rattle.bk_machine.specs.MayDo.{HoldsOf, MayDo, MayLog}
use Rattle.bk_machine.specs.Sound.{IsLog}
use Rattle.bk_machine.specs.UpLaws.{IsUp}
use Rattle.bk_machine.specs.World.{Database, World, database_named, log_of}
use Rattle.bk_machine.proofs.ActsLogs.{log-of-more}
use Rattle.bk_machine.proofs.Cutting.{HasNumbers}
use Rattle.bk_machine.proofs.LeftNumbers.{numbers-quiet}

-- one record that tells an entry isn't cut
pub numbers-loud : (w : World) (name : List ℕ) (s : Said) (transactions : List Open) → telling s.deed ≢ None → HasNumbers w (logged name (s ∷ []) transactions)
numbers-loud w name s transactions told db is n quiet = absurd (told quiet.0)

-- what is known of the database of the name
numbers-of : (w : World) (db : Database) (said : List Said) (transactions : List Open) → database_named w.databases db.name ≡ Some db
    → ((n : ℕ) → AreQuiet (take (suc n) said) → db.end + (length (take (suc n) said) + length (pending (more (log_of w.history db) db.end (take (suc n) said)))) ≤ last_number)
    → HasNumbers w (logged db.name said transactions)
numbers-of w db said transactions named left d is n quiet =
    subst (λ (x : Database). x.end + (length (take (suc n) said) + length (pending (more (log_of w.history x) x.end (take (suc n) said)))) ≤ last_number) (same (sym named ∙ is)) (left n quiet)
  where
    same : Some db ≡ Some d → db ≡ d
    same e = cc

-- where no record of an act tells an entry, each front leaves the numbers that the whole leaves
pub numbers-whole : (w : World) (db : Database) (said : List Said) (transactions : List Open) → IsUp w db → MayDo w (logged db.name said transactions) → AreQuiet said → HasNumbers w (logged db.name said transactions)
numbers-whole w db said transactions r may quiet =
    numbers-of w db said transactions r.named
    (λ n front. let most = numbers-quiet (log_of w.history db) db.end said (suc n) log.sound log.counts quiet in omega (arith, most, its.opens.numbers))
  where
    its : MayLog w db said transactions
    its = subst (λ (o : Option Database). HoldsOf o (λ d. MayLog w d said transactions)) r.named may

    log : IsLog db.files (more (log_of w.history db) db.end said) (db.end + length said)
    log = log-of-more db.files (log_of w.history db) db.end said r.whole.log its.says.may its.says.tables its.says.places

-- a row is written by a transaction of its own
pub numbers-single : (w : World) (db : Database) (at : Place) (before : Option (List ℕ)) (c : RowChange) (time : ℕ) (transactions : List Open) → database_named w.databases db.name ≡ Some db
    → db.end + (length (pending (log_of w.history db)) + 16) ≤ last_number → HasNumbers w (logged db.name (single_said db.end at before c time) transactions)
numbers-single w db at before c time transactions named room = numbers-of w db (single_said db.end at before c time) transactions named by
  where
    rs : List Logged
    rs = log_of w.history db

    by : (n : ℕ) → AreQuiet (take (suc n) (single_said db.end at before c time))
        → db.end + (length (take (suc n) (single_said db.end at before c time)) + length (pending (more (log_of w.history db) db.end (take (suc n) (single_said db.end at before c time))))) ≤ last_number
    by zero quiet =
        let same : length (pending (more (log_of w.history db) db.end (take 1 (single_said db.end at before c time)))) ≡ length (pending (log_of w.history db)) =
        ap length (pending-more (log_of w.history db) (numbered db.end (take 1 (single_said db.end at before c time)))) in
        omega (arith, room, same)
    by (suc zero) quiet =
        let one : Pending = record { lsn = db.end + 1; begin = db.end; place = at; before = before; change = c; extents = [] } in
        let same : length (pending (more (log_of w.history db) db.end (take 2 (single_said db.end at before c time)))) ≡ length (pending (log_of w.history db) ++ one ∷ []) =
        ap length (pending-more (log_of w.history db) (numbered db.end (take 2 (single_said db.end at before c time)))) in
        let parts : length (pending (log_of w.history db) ++ one ∷ []) ≡ length (pending (log_of w.history db)) + 1 = length-append (pending (log_of w.history db)) (one ∷ []) in
        omega (arith, room, same, parts)
    by (suc (suc n)) quiet = let wrong : telling (Rattle.bk_world.specs.Records.committed time None) ≡ None = quiet.1.1.0 in absurd (cc)
