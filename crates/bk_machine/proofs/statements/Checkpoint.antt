-- CHECKPOINT says a record that changes nothing that a log tells.
use Rattle.std.proofs.Common.{◌≡◌, ◌≤◌, inl, ◌+◌, ℕ, false, Some, length, refl, sym, ◌∙◌, ap, subst, arith, [], ◌∷◌, inr}
use Rattle.std.specs.Prelude.{Ok}
use Rattle.bk_world.specs.Pending.{pending}
use Rattle.bk_world.specs.Records.{checkpointed, more, Said}
use Rattle.bk_world.specs.Says.{alone}
use Rattle.bk_world.specs.declared.database.Status.TheVariants.{Online}
use Rattle.bk_world.specs.declared.rule.Limit.TheVariants.{Lsn}
use Rattle.bk_world.specs.declared.rule.Rule.TheVariants.{LimitReached, NoSuchDatabase}
use Rattle.bk_machine.specs.JobLaws.{leaves-same}
use Rattle.bk_machine.specs.Acts.{latest, said_time}
use Rattle.bk_machine.specs.CheckLaws.{Up, not-refused, passed, was-found, was-online}
use Rattle.bk_machine.specs.Checks.{kept_numbers, last_number, limit, online, or_refuse, used_up}
use Rattle.bk_machine.specs.FindingLaws.{current-found}
use Rattle.bk_machine.specs.FitLaws.{said-time}
use Rattle.bk_machine.specs.Fits.{FitsLog}
use Rattle.bk_machine.specs.Outcome.{Outcome}
use Rattle.bk_machine.specs.Sound.{AreNumbered, IsSound, JobIs, LeavesStamp}
use Rattle.bk_machine.specs.UpLaws.{IsUp, is-up}
use Rattle.bk_machine.specs.declared.job.Job.{Job}
use Rattle.bk_machine.specs.World.{World, Database, current_database, log_of}
use Rattle.bk_machine.specs.statements.Checkpoint.{DoesCheckpoint, check_checkpoint}
use Rattle.bk_machine.proofs.Fitting.{fits-more}
use Rattle.bk_machine.proofs.LeftNumbers.{below-kept, numbers-there}
use Rattle.bk_machine.proofs.statements.Facts.{Facts, NoMedium, facts-of, opens-those, own-checkpoint}
use Rattle.bk_machine.proofs.statements.Numbering.{numbers-loud}
use Rattle.bk_machine.proofs.statements.Said.{MayTell, may-do}
use Rattle.bk_machine.proofs.statements.Telling.{tells-checkpoint}

-- ---- what was checked

-- the current database, which is online and has numbers
record IsCurrent (w : World) (db : Database) : Type 0 where
  is : current_database w ≡ Some db
  up : db.status ≡ Online
  low : used_up db.end ≡ false

checked : (w : World) (db : Database) → check_checkpoint w ≡ Ok db → IsCurrent w db
unfolding check_checkpoint
checked w db e =
    let one = passed (or_refuse (current_database w) NoSuchDatabase) _ db e in
    let two = passed (online one.found) _ db one.then in
    let three = passed (limit (used_up two.found.end)) _ db two.then in
    let up : Up one.found two.found = was-online one.found two.found two.is in
    let last = three.then in
    let same : two.found ≡ db = cc in
    subst (IsCurrent w) same (record {
      is = was-found (current_database w) NoSuchDatabase one.found one.is ∙ ap (λ (d : Database). Some d) up.is;
      up = up.up;
      low = not-refused (used_up two.found.end) (LimitReached Lsn) three.found three.is;
    })

its-up : (w : World) (db : Database) → IsSound w → IsCurrent w db → IsUp w db
its-up w db sound its = is-up w db sound (current-found w db its.is) its.up

-- ---- it changes nothing

pub tells-left : (w : World) (db : Database) (r : IsUp w db) → db.end ≤ kept_numbers + 16 → (db.end + 1) + (length (pending (log_of w.history db)) + length db.transactions) ≤ last_number
tells-left w db r low =
    let left : db.end + (length (pending (log_of w.history db)) + (length db.transactions + 16)) ≤ last_number = numbers-there (log_of w.history db) db.end db.transactions r.opens low in
    omega (arith, left)

-- numbers are left behind one record, for a stamp, too
pub leaves-one : (w : World) (db : Database) (s : Said) (r : IsUp w db) → pending (more (log_of w.history db) db.end (s ∷ [])) ≡ pending (log_of w.history db) → db.end ≤ kept_numbers + 16
    → JobIs (λ (job : Job). LeavesStamp (more (log_of w.history db) db.end (s ∷ [])) (db.end + 1) db.transactions) db.job
leaves-one w db s r same low =
    let left : db.end + (length (pending (log_of w.history db)) + (length db.transactions + 16)) ≤ last_number = numbers-there (log_of w.history db) db.end db.transactions r.opens low in
    leaves-same (log_of w.history db) (more (log_of w.history db) db.end (s ∷ [])) (db.end + 1) db.transactions db.job same (omega (arith, left))

pub checkpoint-tells : (w : World) (db : Database) (at : ℕ) (r : IsUp w db) → at ≤ latest → db.end ≤ kept_numbers + 16 → MayTell w db (alone (checkpointed at))
checkpoint-tells w db at r timely low =
    let t = tells-checkpoint (log_of w.history db) db.end at in
    let fits : FitsLog (length db.groups) (more (log_of w.history db) db.end (alone (checkpointed at))) = fits-more (length db.groups) (log_of w.history db) db.end (alone (checkpointed at)) r.whole.fits.log t.tables (timely, tt) in
    record { may = record { online = r.up; may = (tt, tt); tables = subst (AreNumbered 1) (sym t.tables) r.whole.log.tables; places = (tt, tt); fits = fits; marks = inr (at, refl) }; none = (λ b. refl, tt); same = t.pending; left = tells-left w db r low; leaves = leaves-one w db (record { begin = 0; deed = checkpointed at }) r t.pending low }

-- the checkpoint of a database that is online and has numbers
own-tells : (w : World) (db : Database) (now : ℕ) (r : IsUp w db) → used_up db.end ≡ false → MayTell w db (alone (checkpointed (said_time w db now)))
own-tells w db now r low = checkpoint-tells w db (said_time w db now) r (said-time w db now (length db.groups) r.whole.fits.log) (omega (arith, below-kept db.end low))

pub facts : (w : World) (now : ℕ) (db : Database) → check_checkpoint w ≡ Ok db → (outcome : Outcome) → DoesCheckpoint w now db outcome → Facts w NoMedium outcome
facts w now db e outcome is =
    let its : IsCurrent w db = checked w db e in
    facts-of w _ outcome is (record {
      writes = (tt, tt);
      refused = λ rule no. absurd cc;
      well = λ sound. let r : IsUp w db = its-up w db sound its in record {
        may = (may-do w db (alone (checkpointed (said_time w db now))) sound r (own-tells w db now r its.low), tt);
        opens = (opens-those w db (alone (checkpointed (said_time w db now))) r.named, tt);
        own = (own-checkpoint w db.name (said_time w db now) db.transactions, tt);
        numbers = (numbers-loud w db.name _ db.transactions (λ none. absurd cc), tt);
        ends = inl (tt, tt);
        plain = λ built. ((tt, tt), tt);
      };
    })
