-- BEGIN, COMMIT, ROLLBACK and `:session n` do acts that may be done.
use Rattle.std.proofs.Common.{◌≡◌, ◌≤◌, inl, ℕ, ◌+◌, Bool, true, false, not, ◌&&◌, List, [], ◌∷◌, ◌++◌, length, Option, None, Some, refl, sym, ◌∙◌, ap, subst, arith}
use Rattle.std.specs.Prelude.{◌==◌, is_some, nat_le, nat_lt, reverse, Ok, Contains}
use Rattle.std.specs.List.{AllByRecursion}
use Rattle.std.proofs.lemmas.Bool.Decides.{nat_tests}
use Rattle.bk_ids.specs.declared.record.Mark.{Mark}
use Rattle.bk_items.specs.declared.item.NamedTransaction.{NamedTransaction}
use Rattle.bk_world.specs.Cut.{end_behind, is_among}
use Rattle.bk_lemmas.specs.Lists.{all_filter, all_joined}
use Rattle.bk_world.specs.Pending.{Pending, of_transaction, pending}
use Rattle.bk_world.specs.ReadingLaws.{entries-rollback, pending-commit, pending-rollback}
use Rattle.bk_world.specs.Records.{Counts, Logged, Said, more, rolled_back}
use Rattle.bk_world.specs.Says.{begin_said, commit_said, rollback_said, undoing, within}
use Rattle.bk_world.specs.SoundLaws.{sound-rise}
use Rattle.bk_world.specs.declared.database.Status.TheVariants.{Online}
use Rattle.bk_world.specs.declared.reply.Reply.TheVariants.{Done}
use Rattle.bk_world.specs.declared.rule.Limit.TheVariants.{Lsn}
use Rattle.bk_world.specs.declared.rule.Rule.TheVariants.{InTransaction, LimitReached, NoSuchDatabase, NoTransaction, NotBuilt}
use Rattle.bk_machine.specs.JobLaws.{job-any, job-on}
use Rattle.bk_machine.specs.Acts.{logged, said_time}
use Rattle.bk_machine.specs.BeginLaws.{each-begun, each-without}
use Rattle.bk_machine.specs.Built.{IsNoLoad, SaysNoLoad}
use Rattle.bk_machine.specs.CheckLaws.{Up, is-none, not-refused, passed, was-found, was-online}
use Rattle.bk_machine.specs.Checks.{limit, online, or_refuse, outside, refuse_if, used_up}
use Rattle.bk_machine.specs.Crash.{begins_in, begins_of}
use Rattle.bk_machine.specs.FitLaws.{said-time}
use Rattle.bk_machine.specs.FindingLaws.{current-found}
use Rattle.bk_machine.specs.MayDo.{MayDo, IsNoMark}
use Rattle.bk_machine.specs.NamedLaws.{of-named}
use Rattle.bk_machine.specs.Outcome.{Outcome, in_one}
use Rattle.bk_machine.specs.Sound.{AreNumbered, IsSound, KeepsAll, has_begin, IsFitJob, JobIs, LeavesStamp}
use Rattle.bk_machine.specs.UpLaws.{IsUp, is-up, may-open}
use Rattle.bk_world.specs.declared.transaction.Open.{Open}
use Rattle.bk_machine.specs.declared.job.Job.{Job}
use Rattle.bk_machine.specs.World.{Database, Held, World, current_database, database_named, held_in, log_of, most_sessions, own_held, transaction_of, without_begin}
use Rattle.bk_machine.specs.statements.Begin.{check_begin, has_fit_texts, new_open, DoesBegin}
use Rattle.bk_machine.specs.statements.Commit.{check_commit, commit_of, commits, committed, mark_of_commit, mark_with, notes_mark, DoesCommit}
use Rattle.bk_machine.specs.statements.Rollback.{check_rollback, rolls_back, DoesRollback}
use Rattle.bk_machine.specs.statements.Session.{check_session, is_session, DoesSession}
use Rattle.bk_machine.proofs.Cutting.{HasNumbers, IsOwn, OpensOwn}
use Rattle.bk_machine.proofs.Fitting.{fits-more, fits-told}
use Rattle.bk_machine.proofs.Histories.{counts-positive}
use Rattle.bk_machine.specs.SettledLaws.{counts-end}
use Rattle.bk_machine.proofs.Left.{of-contained}
use Rattle.bk_machine.proofs.LeftNumbers.{numbers-before}
use Rattle.bk_machine.proofs.statements.Begins.{begin-below}
use Rattle.bk_machine.proofs.statements.Ending.{few-rollback, kept-commit, kept-rollback, may-roll-back, opens-begun, opens-without, placed-rollback, quiet-rollback, said-rollback, tables-commit, tables-rollback, leaves-begun, leaves-without}
use Rattle.bk_machine.proofs.statements.Facts.{Facts, GoWell, NoMedium, WritesOnly, all-take, facts-of, itself, opens-those, own-within}
use Rattle.bk_machine.proofs.statements.Numbering.{numbers-loud, numbers-whole}
use Rattle.bk_machine.proofs.statements.Telling.{tables-begun}
use Rattle.bk_machine.specs.HeldLaws.{IsHeldBy, held-none, held-up, open-begin, open-there}

-- the transactions without one are among those
opens-fewer : (w : World) (db : Database) (said : List Said) (begin : ℕ) → database_named w.databases db.name ≡ Some db → OpensOwn w (logged db.name said (without_begin db.transactions begin))
opens-fewer w db said begin named =
    all_filter (λ (t : Open). is_among (begins_in (database_named w.databases db.name)) t.begin ≡ true) (λ (t : Open). not (t.begin == begin)) db.transactions (opens-those w db said named)

-- ---- COMMIT and ROLLBACK

undoing-no-load : (begin : ℕ) (ws : List Pending) → AllByRecursion (λ (s : Said). IsNoLoad s.deed) (undoing ws ++ within begin rolled_back)
undoing-no-load begin [] = (tt, tt)
undoing-no-load begin (v ∷ ws) = (tt, undoing-no-load begin ws)

-- nor a checkpoint
rollback-marks : (begin : ℕ) (ws : List Pending) → AllByRecursion (λ (s : Said). IsNoMark s.deed) (undoing ws ++ within begin rolled_back)
rollback-marks begin [] = (tt, tt)
rollback-marks begin (v ∷ ws) = (tt, rollback-marks begin ws)

-- a rollback says no load
pub rollback-plain : (w : World) (h : Held) → SaysNoLoad w (rolls_back w h)
rollback-plain w h = undoing-no-load h.transaction.begin (reverse (of_transaction h.transaction.begin (pending (log_of w.history h.database))))

module _ (w : World) (session : ℕ) (h : Held) (sound : IsSound w) (is : held_in w.databases session ≡ Some h) where
  held : IsHeldBy w session h
  held = held-up w session h sound is

  there : Contains h.database.transactions h.transaction
  there = open-there h.database.transactions session h.transaction held.own

  its-begin : has_begin h.database.transactions h.transaction.begin ≡ true
  its-begin = open-begin h.database.transactions session h.transaction held.own

  -- what is left for a stamp before is left behind
  stamp-left : (after : List Logged) (end : ℕ) (ts : List Open) → (LeavesStamp (log_of w.history h.database) h.database.end h.database.transactions → LeavesStamp after end ts) → JobIs (λ (job : Job). LeavesStamp after end ts) h.database.job
  stamp-left after end ts leads =
      job-on (IsFitJob (log_of w.history h.database) h.database.end h.database.transactions) (λ (job : Job). LeavesStamp after end ts) (λ job fit. leads fit.numbers) h.database.job held.up.job

  commit-may : (now : ℕ) → MayDo w (commits w h now)
  commit-may now =
      let db : Database = h.database in
      let rs : List Logged = log_of w.history h.database in
      let begin : ℕ = h.transaction.begin in
      let time : ℕ = said_time w h.database now in
      let mark : Option Mark = mark_with (of_transaction h.transaction.begin (pending (log_of w.history h.database))) h.transaction.mark in
      may-open w db (commit_said begin time mark) (without_begin db.transactions begin) held.up (record {
        online = held.up.up;
        may = (of-contained (KeepsAll rs) db.transactions h.transaction held.up.opens.kept there, tt);
        tables = subst (AreNumbered 1) (sym (tables-commit rs db.end begin time mark)) held.up.whole.log.tables;
        places = (tt, tt);
        fits = fits-more (length db.groups) rs db.end (commit_said begin time mark) held.up.whole.fits.log (tables-commit rs db.end begin time mark) (said-time w db now (length db.groups) held.up.whole.fits.log, tt);
        marks = inl (tt, tt);
      }) (each-without db begin) (opens-without rs db.end db.transactions held.up.opens begin (commit_said begin time mark) (pending-commit rs db.end begin time mark) (kept-commit rs db.end db.transactions begin time mark held.up.opens.kept)
      its-begin (omega arith))
      (stamp-left (more rs db.end (commit_said begin time mark)) (db.end + 1) (without_begin db.transactions begin)
      (leaves-without rs db.end db.transactions held.up.opens begin (commit_said begin time mark) (pending-commit rs db.end begin time mark) (kept-commit rs db.end db.transactions begin time mark held.up.opens.kept) its-begin (omega arith)))

  pub rollback-may : MayDo w (rolls_back w h)
  rollback-may =
      let db : Database = h.database in
      let rs : List Logged = log_of w.history h.database in
      let begin : ℕ = h.transaction.begin in
      let counts : Counts 1 rs (end_behind rs) = subst (Counts 1 rs) (counts-end 1 db.end rs held.up.whole.log.counts) held.up.whole.log.counts in
      may-open w db (rollback_said begin (pending rs)) (without_begin db.transactions begin) held.up (record {
        online = held.up.up;
        may = may-roll-back rs db.end begin (sound-rise rs held.up.whole.log.sound counts held.up.opens.loads) held.up.opens.loads;
        tables = subst (AreNumbered 1) (sym (tables-rollback rs db.end begin)) held.up.whole.log.tables;
        places = placed-rollback db.files rs db.end begin;
        fits = fits-told (length db.groups) rs (more rs db.end (rollback_said begin (pending rs))) (entries-rollback rs db.end begin) held.up.whole.fits.log;
        marks = inl (rollback-marks begin (reverse (of_transaction begin (pending rs))));
      }) (each-without db begin) (opens-without rs db.end db.transactions held.up.opens begin (rollback_said begin (pending rs)) (pending-rollback rs db.end begin) (kept-rollback rs db.end db.transactions begin held.up.opens.kept)
      its-begin (few-rollback rs begin))
      (stamp-left (more rs db.end (rollback_said begin (pending rs))) (db.end + length (rollback_said begin (pending rs))) (without_begin db.transactions begin)
      (leaves-without rs db.end db.transactions held.up.opens begin (rollback_said begin (pending rs)) (pending-rollback rs db.end begin) (kept-rollback rs db.end db.transactions begin held.up.opens.kept) its-begin (few-rollback rs begin)))

  commit-opens : (now : ℕ) → OpensOwn w (commits w h now)
  commit-opens now = opens-fewer w h.database (commit_of w h now) h.transaction.begin held.up.named

  commit-own : (now : ℕ) → IsOwn w (commits w h now)
  commit-own now = own-within w h.database h.transaction (commit_of w h now) (without_begin h.database.transactions h.transaction.begin) held.up.named there (refl, tt)

  commit-numbers : (now : ℕ) → HasNumbers w (commits w h now)
  commit-numbers now = numbers-loud w h.database.name _ (without_begin h.database.transactions h.transaction.begin) (λ none. absurd cc)

  -- with its row behind it, where it is marked
  commit-well : (now lsn time : ℕ) (mark : Option Mark) → GoWell w (commits w h now ∷ notes_mark h.database.name lsn time mark)
  commit-well now lsn time None = record { may = (commit-may now, tt); opens = (commit-opens now, tt); own = (commit-own now, tt); numbers = (commit-numbers now, tt); ends = inl (tt, tt); plain = λ built. ((tt, tt), tt) }
  commit-well now lsn time (Some mark) = record {
    may = (commit-may now, (tt, tt));
    opens = (commit-opens now, (tt, tt));
    own = (commit-own now, (tt, tt));
    numbers = (commit-numbers now, (tt, tt));
    ends = inl (tt, (tt, tt));
    plain = λ built. ((tt, tt), (tt, tt));
  }

  pub rollback-well : GoWell w (rolls_back w h ∷ [])
  rollback-well =
      let rs : List Logged = log_of w.history h.database in record {
        may = (rollback-may, tt);
        opens = (opens-fewer w h.database (rollback_said h.transaction.begin (pending rs)) h.transaction.begin held.up.named, tt);
        own = (own-within w h.database h.transaction (rollback_said h.transaction.begin (pending rs)) (without_begin h.database.transactions h.transaction.begin) held.up.named there (said-rollback rs h.transaction.begin), tt);
        numbers = (numbers-whole w h.database (rollback_said h.transaction.begin (pending rs)) (without_begin h.database.transactions h.transaction.begin) held.up rollback-may (quiet-rollback rs h.transaction.begin), tt);
        ends = inl (tt, tt);
        plain = λ built. (rollback-plain w h, tt);
      }

commit-writes : (name : List ℕ) (lsn time : ℕ) (mark : Option Mark) → AllByRecursion (WritesOnly NoMedium) (notes_mark name lsn time mark)
commit-writes name lsn time None = tt
commit-writes name lsn time (Some mark) = (tt, tt)

pub commit-facts : (w : World) (now : ℕ) (h : Held) → check_commit w ≡ Ok h → (outcome : Outcome) → DoesCommit w now h outcome → Facts w NoMedium outcome
unfolding check_commit
commit-facts w now h e outcome is =
    let time : ℕ = said_time w h.database now in facts-of w (committed w h now) outcome is (record {
      writes = (tt, commit-writes h.database.name h.database.end time (mark_of_commit w h));
      refused = λ rule no. absurd cc;
      well = λ sound. commit-well w w.session h sound (was-found (own_held w) NoTransaction h e) now h.database.end time (mark_of_commit w h);
    })

pub rollback-facts : (w : World) (h : Held) → check_rollback w ≡ Ok h → (outcome : Outcome) → DoesRollback w h outcome → Facts w NoMedium outcome
unfolding check_rollback
rollback-facts w h e outcome is = facts-of w (in_one (rolls_back w h) Done) outcome is (record {
  writes = (tt, tt);
  refused = λ rule no. absurd cc;
  well = λ sound. rollback-well w w.session h sound (was-found (own_held w) NoTransaction h e);
})

-- ---- BEGIN

-- the current database, which is online and has numbers, and the session has no transaction
record IsOutside (w : World) (db : Database) : Type 0 where
  is : current_database w ≡ Some db
  up : db.status ≡ Online
  none : own_held w ≡ None
  low : used_up db.end ≡ false

begins : (w : World) (line : ℕ) (transaction : Option NamedTransaction) (db : Database) → check_begin w line transaction ≡ Ok db → IsOutside w db
unfolding check_begin
begins w line transaction db e =
    let one = passed (refuse_if (not (has_fit_texts transaction)) (NotBuilt line)) _ db e in
    let out = passed (outside w) _ db one.then in
    let two = passed (or_refuse (current_database w) NoSuchDatabase) _ db out.then in
    let three = passed (online two.found) _ db two.then in
    let four = passed (limit (used_up three.found.end)) _ db three.then in
    let up : Up two.found three.found = was-online two.found three.found three.is in
    let last = four.then in
    let same : three.found ≡ db = cc in
    subst (IsOutside w) same (record {
      is = was-found (current_database w) NoSuchDatabase two.found two.is ∙ ap (λ (d : Database). Some d) up.is;
      up = up.up;
      none = is-none (own_held w) (not-refused (is_some (own_held w)) InTransaction out.found out.is);
      low = not-refused (used_up three.found.end) (LimitReached Lsn) four.found four.is;
    })

-- what is open behind it
opens-one_more : (w : World) (db : Database) (said : List Said) (t : Open) → database_named w.databases db.name ≡ Some db → t.begin ≡ db.end → OpensOwn w (logged db.name said (db.transactions ++ t ∷ []))
opens-one_more w db said t named at =
    let InThem : Option Database → Open → Type 0 = λ o u. is_among (begins_in o) u.begin ≡ true in
    let new : is_among (begins_in (database_named w.databases db.name)) t.begin ≡ true = ap (λ o. is_among (begins_in o) t.begin) named ∙ (ap (is_among (begins_in (Some db))) at ∙ itself db.end (begins_of db.transactions)) in
    all_joined (InThem (database_named w.databases db.name)) db.transactions (t ∷ []) (opens-those w db said named) (new, tt)

own-begin : (w : World) (db : Database) (transactions : List Open) → database_named w.databases db.name ≡ Some db → IsOwn w (logged db.name (begin_said db.end) transactions)
own-begin w db transactions named n quiet =
    let its : is_among (begins_in (database_named w.databases db.name)) db.end ≡ true = ap (λ o. is_among (begins_in o) db.end) named ∙ itself db.end (begins_of db.transactions) in
    all-take (λ (s : Said). is_among (begins_in (database_named w.databases db.name)) s.begin ≡ true) (Rattle.std.proofs.Common.suc n) (begin_said db.end) (its, tt)

begin-may : (w : World) (db : Database) (mark : Option Mark) → IsSound w → IsOutside w db → IsUp w db → MayDo w (logged db.name (begin_said db.end) (db.transactions ++ new_open w db mark ∷ []))
begin-may w db mark sound its r =
    let rs : List Logged = log_of w.history db in
    let none : transaction_of db.transactions w.session ≡ None = of-named (λ (d : Database). transaction_of d.transactions w.session ≡ None) w.databases db.name db (held-none w.databases w.session its.none) r.named in
    let positive : 1 ≤ db.end = counts-positive 1 db.end rs r.whole.log.counts in
    may-open w db (begin_said db.end) (db.transactions ++ new_open w db mark ∷ []) r (record {
      online = r.up;
      may = (tt, tt);
      tables = subst (AreNumbered 1) (sym (tables-begun rs db.end)) r.whole.log.tables;
      places = (tt, tt);
      fits = fits-more (length db.groups) rs db.end (begin_said db.end) r.whole.fits.log (tables-begun rs db.end) (tt, tt);
      marks = inl (tt, tt);
    }) (each-begun db (new_open w db mark) refl) (opens-begun rs db.end db.transactions r.opens (begin-below rs db.end r.whole.log.sound r.whole.log.counts) (omega (arith, positive)) w.session mark sound.seat none
    (numbers-before rs db.end db.transactions r.opens its.low))
    (job-any db.job (leaves-begun rs db.end db.transactions r.opens (begin-below rs db.end r.whole.log.sound r.whole.log.counts) (omega (arith, positive)) w.session mark sound.seat none (numbers-before rs db.end db.transactions r.opens its.low)))

pub begin-facts : (w : World) (line : ℕ) (transaction : Option NamedTransaction) (mark : Option Mark) (db : Database) → check_begin w line transaction ≡ Ok db → (outcome : Outcome) → DoesBegin w mark db outcome → Facts w NoMedium outcome
begin-facts w line transaction mark db e outcome is =
    let its : IsOutside w db = begins w line transaction db e in
    facts-of w _ outcome is (record {
      writes = (tt, tt);
      refused = λ rule no. absurd cc;
      well = λ sound. let r : IsUp w db = is-up w db sound (current-found w db its.is) its.up in record {
        may = (begin-may w db mark sound its r, tt);
        opens = (opens-one_more w db (begin_said db.end) (new_open w db mark) r.named refl, tt);
        own = (own-begin w db (db.transactions ++ new_open w db mark ∷ []) r.named, tt);
        numbers = (numbers-whole w db (begin_said db.end) (db.transactions ++ new_open w db mark ∷ []) r (begin-may w db mark sound its r) (refl, tt), tt);
        ends = inl (tt, tt);
        plain = λ built. ((tt, tt), tt);
      };
    })

-- ---- another session

seats : (n : ℕ) → not (is_session n) ≡ false → n ≤ most_sessions
seats n e = by (nat_lt 0 n) (nat_le n most_sessions) refl e
  where
    by : (a b : Bool) → nat_le n most_sessions ≡ b → not (a && b) ≡ false → n ≤ most_sessions
    by true true is e = grind (arith, nat_tests, is)
    by true false is e = absurd (cc)
    by false b is e = absurd (cc)

pub session-facts : (w : World) (line n found : ℕ) → check_session line n ≡ Ok found → (outcome : Outcome) → DoesSession found outcome → Facts w NoMedium outcome
unfolding check_session
session-facts w line n found e outcome is =
    let one = passed (refuse_if (not (is_session n)) (NotBuilt line)) _ found e in
    let last = one.then in
    let same : n ≡ found = cc in
    facts-of w _ outcome is (record {
      writes = (tt, tt);
      refused = λ rule no. absurd cc;
      well = λ sound. record {
        may = (subst (λ m. m ≤ most_sessions) same (seats n (not-refused (not (is_session n)) (NotBuilt line) one.found one.is)), tt);
        opens = (tt, tt);
        own = (tt, tt);
        numbers = (tt, tt);
        ends = inl (tt, tt);
        plain = λ built. (tt, tt);
      };
    })
