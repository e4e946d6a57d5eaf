-- Databases that are made or recovered: each goes on on a branch that is drawn for it.
use Rattle.std.proofs.Common.{◌≡◌, ◌≢◌, ◌⊎◌, ◌<◌, ◌≤◌, inl, inr, ℕ, ◌+◌, ◌-◌, Bool, true, false, cond, List, [], ◌∷◌, ◌++◌, length, Some, refl, sym, ◌∙◌, ap, subst, filter, arith, length-append, None}
use Rattle.std.specs.Prelude.{Contains, count_by, nat_le}
use Rattle.std.specs.List.{AllByRecursion}
use Rattle.std.proofs.lemmas.List.{append-nil}
use Rattle.std.proofs.lemmas.List.Elements.{Contains-append_left, Contains-append_right, Contains-push}
use Rattle.std.proofs.lemmas.List.Sums.{count_by-le-length, length-filter}
use Rattle.bk_ids.specs.declared.guid.Guid.{Guid}
use Rattle.bk_ids.specs.declared.path.Branch.{Branch}
use Rattle.bk_ids.specs.Name.{lowered}
use Rattle.bk_ids.specs.Path.{IsPath, branch_at, last_branch}
use Rattle.bk_world.specs.declared.database.Creation.{Creation}
use Rattle.bk_world.specs.declared.database.FileSpec.{FileSpec}
use Rattle.bk_world.specs.declared.database.TableSpec.{TableSpec}
use Rattle.bk_world.specs.declared.database.Status.TheVariants.{Online, Down}
use Rattle.bk_world.specs.History.{is_guid}
use Rattle.bk_world.specs.Lines.{MayGoOn, has_record_line, log_below}
use Rattle.bk_lemmas.specs.Lists.{all_both, all_mapped}
use Rattle.bk_world.specs.Pending.{Pending, pending, pending_after}
use Rattle.bk_world.specs.ReadingLaws.{entries-more}
use Rattle.bk_world.specs.Records.{Counts, Deed, Logged, Said, more, numbered, database_made, table_made, begun, written, committed, rolled_back, undone, checkpointed, stamped, model_set, loaded, recovered}
use Rattle.bk_world.specs.Telling.{entries, entries_from, entry_of, model, tables}
use Rattle.bk_world.specs.BranchLaws.{branch_at-last}
use Rattle.bk_machine.specs.JobLaws.{job-none, without-one}
use Rattle.bk_machine.specs.Acts.{Recovery, created, creation_said, done, drawn, forked, goes_online, gone_online, new_database, new_line}
use Rattle.bk_machine.specs.Checks.{last_number, most_branches}
use Rattle.bk_machine.specs.Fits.{FitsLog, FitsSet}
use Rattle.bk_machine.specs.MayDo.{MayCreate, MayRecover}
use Rattle.bk_machine.specs.Sound.{AreApart, HasFew, KeepsAll, AreNumbered, AreOpen, ArePlaced, Differ, IsIdle, IsLog, IsNotToCome, IsPassed, IsPlaced, IsSound, IsSoundLine, IsWholeDatabase, OpenBy, has_begin, storage_of, IsFitJob, JobIs}
use Rattle.bk_machine.specs.statements.Restore.{IsOfRecovery, Recovers, is_recovery_deed}
use Rattle.bk_world.specs.declared.transaction.Open.{Open}
use Rattle.bk_machine.specs.declared.job.Job.{Job}
use Rattle.bk_machine.specs.World.{World, Database, database_named, log_of, log_to, most_sessions}
use Rattle.bk_machine.proofs.ActsLogs.{log-of-front, log-of-more, tables-quiet}
use Rattle.bk_machine.proofs.Fitting.{fits-front, fits-told}
use Rattle.bk_machine.proofs.ActsStay.{Follows, database-stays, lines-stay, media-stay, open-stays}
use Rattle.bk_machine.proofs.Forking.{all-forked, branch_at-forked, goes_on-forked, last-forked, log-forked, path-forked, starts-forked}
use Rattle.bk_machine.proofs.Histories.{before-or-not, counts-front, goes_on-beside, grew-new, log-front, none-drawn, not-last, not_to_come-later, passed-grew, path-later, path-new, rise-numbered}
use Rattle.bk_machine.specs.NamedLaws.{all-changed, all-one_more, differ-sym, different-changed, different-one_more, named-changed, none-named, of-named}

-- A database on a new branch.

-- a record of no transaction, at a number or above
abbrev pub Anchor : ℕ → List Logged → Type 0
Anchor at rs = (r : Logged) × Contains rs r × (r.begin ≡ 0) × (at ≤ r.lsn)

-- a database that goes on from a number of a path on a new branch, where it said this
abbrev pub on_branch : Database → List Branch → ℕ → Guid → List Said → Database
on_branch d path at branch said = record d { path = forked path at branch; end = at + length said; status = Online }

module _ (w next : World) (follows : Follows w next) (path : List Branch) (at : ℕ) (branch : Guid) (said : List Said)
    (history : next.history ≡ new_line branch at said ∷ w.history) (new : AllByRecursion (λ (b : Branch). is_guid branch b.guid ≡ false) path) (some : 0 < length said) where
  pub on_branch-log : (d : Database) → log_of next.history (on_branch d path at branch said) ≡ more (log_below w.history path at) at said
  unfolding log_of
  on_branch-log d = ap (λ lines. log_below lines (forked path at branch) (at + length said)) history ∙ log-forked w.history path at branch said new

  held : (d : Database) → ((k : ℕ) → 0 < k → k < at → IsPassed w.history (branch_at path k) k) → (k : ℕ) → 0 < k → (k < at) ⊎ (at ≤ k)
      → ((Online ≡ Online) × (branch_at (forked path at branch) k ≡ last_branch (forked path at branch))) ⊎ IsPassed next.history (branch_at (forked path at branch) k) k
  held d passed k pos (inl before) =
      inr (subst (λ b. IsPassed next.history b k) (sym (branch_at-forked path at branch k before)) (passed-grew w.history next.history (branch_at path k) k follows.grew (passed k pos before)))
  held d passed k pos (inr behind) = inl (refl, branch_at-last (forked path at branch) at k (starts-forked path at branch) behind)

  pub on_branch-whole : (d : Database) → IsLog d.files (more (log_below w.history path at) at said) (at + length said) → IsPath (forked path at branch) → AllByRecursion (λ (b : Branch). IsNotToCome w b.guid) path
      → IsNotToCome next branch → IsNotToCome next d.family → JobIs (λ (job : Job). IsNotToCome next job.set) d.job → d.kept ≤ at → ((k : ℕ) → 0 < k → k < at → IsPassed w.history (branch_at path k) k) → Anchor at (numbered at said)
      → FitsSet (storage_of d) (forked path at branch) (more (log_below w.history path at) at said) → IsWholeDatabase next (on_branch d path at branch said)
  on_branch-whole d log is_path drawn own family job low passed anchor fits = record {
    log = subst (λ rs. IsLog d.files rs (at + length said)) (sym (on_branch-log d)) log;
    path = is_path;
    starts = all_mapped (λ (b : Branch). b.start ≤ at) (λ (b : Branch). b.start < at + length said) (λ b le. omega (arith, le, some)) (forked path at branch) (starts-forked path at branch);
    drawn = all-forked (IsNotToCome next) path at branch (path-later w next path follows.instance follows.counter drawn) own;
    kept = omega (arith, low);
    family = family;
    job = job;
    held = λ k pos lt. held d passed k pos (before-or-not k at);
    online = λ up. record {
      goes_on = subst (λ lines. MayGoOn lines (forked path at branch) (at + length said)) (sym history) (goes_on-forked w.history path at branch said);
      anchor = (
        anchor.0,
        subst (λ rs. Contains rs anchor.0) (sym (on_branch-log d)) (Contains-append_right (log_below w.history path at) (numbered at said) anchor.0 anchor.1),
        anchor.2,
        all_mapped (λ (b : Branch). b.start ≤ at) (λ (b : Branch). b.start ≤ anchor.0.lsn) (λ b le. omega (arith, le, anchor.3)) (forked path at branch) (starts-forked path at branch),
      );
      holds = (anchor.0, subst (λ rs. Contains rs anchor.0) (sym (on_branch-log d)) (Contains-append_right (log_below w.history path at) (numbered at said) anchor.0 anchor.1), anchor.2, omega (arith, low, anchor.3));
    };
    fits = subst (FitsSet (storage_of d) (forked path at branch)) (sym (on_branch-log d)) fits;
  }

  pub on_branch-open : (d : Database) → AreOpen (more (log_below w.history path at) at said) (at + length said) d.transactions → d.job ≡ None → d.transactions ≡ [] → OpenBy next.history (on_branch d path at branch said)
  on_branch-open d opens none closed = record {
    online = λ up. subst (λ rs. AreOpen rs (at + length said) d.transactions) (sym (on_branch-log d)) opens;
    offline = λ off. absurd (off refl);
    job = job-none (IsFitJob (log_of next.history (on_branch d path at branch said)) (at + length said) d.transactions) d.job none;
    keeps = record { begins = subst (λ (ts : List Open). AllByRecursion (λ (t : Open). d.kept ≤ t.begin) ts) (sym closed) tt; job = job-none (λ (j : Job). d.kept ≤ j.first) d.job none };
  }

  -- others stay, and write elsewhere
  other-stays : (o : Database) → AllByRecursion (λ (b : Branch). is_guid branch b.guid ≡ false) o.path → IsWholeDatabase w o → IsWholeDatabase next o
  other-stays o elsewhere is =
      database-stays w next follows o
      (λ up. subst (λ lines. MayGoOn lines o.path o.end) (sym history) (goes_on-beside (new_line branch at said) w.history o.path o.end (not-last branch o.path elsewhere) (is.online up).goes_on)) is

  pub others-differ : (d o : Database) → d.job ≡ None → lowered d.name ≢ lowered o.name → AllByRecursion (λ (b : Branch). is_guid branch b.guid ≡ false) o.path → Differ (on_branch d path at branch said) o
  others-differ d o none names elsewhere = record { names = names; branches = λ up other same. not-last branch o.path elsewhere (sym same ∙ last-forked path at branch); sets = λ job some. without-one d.job job none some }

-- CREATE DATABASE.
module _ (w : World) (c : Creation) (is : IsSound w) (may : MayCreate w c) where
  new-there : (path : List Branch) → AllByRecursion (λ (b : Branch). IsNotToCome w b.guid) path → AllByRecursion (λ (b : Branch). is_guid c.branch b.guid ≡ false) path
  new-there path drawn_before = subst (λ g. AllByRecursion (λ (b : Branch). is_guid g b.guid ≡ false) path) (sym may.branch) (path-new w (w.counter + 1) path (omega arith) drawn_before)

  none-there : has_record_line w.history c.branch ≡ false
  none-there = ap (has_record_line w.history) may.branch ∙ none-drawn w (w.counter + 1) w.history (omega arith) is.whole.lines

  pub created-follows : Follows w (done w (created c))
  unfolding done
  created-follows = record { instance = refl; counter = omega arith; grew = grew-new w.history c.branch 1 (creation_said c) (omega arith) none-there }

  branch-later : IsNotToCome (done w (created c)) c.branch
  unfolding done
  branch-later = subst (IsNotToCome (done w (created c))) (sym may.branch) (λ high. omega arith)

  family-later : IsNotToCome (done w (created c)) c.family
  unfolding done
  family-later = subst (IsNotToCome (done w (created c))) (sym may.family) (λ high. omega arith)

  created-log : IsLog (new_database c).files (more (log_below w.history [] 1) 1 (creation_said c)) 2
  unfolding new_database log_below tables entries
  created-log = record { counts = (refl, refl); sound = (tt, tt); tables = tt; places = (tt, tt) }

  created-fits : FitsSet (storage_of (new_database c)) (forked [] 1 c.branch) (more (log_below w.history [] 1) 1 (creation_said c))
  unfolding new_database log_below tables entries
  created-fits = record { storage = may.fits; branches = omega arith; log = record { few = omega arith; names = tt; grouped = tt; times = (may.time, tt) } }

  pub made-log : log_of (done w (created c)).history (new_database c) ≡ more (log_below w.history [] 1) 1 (creation_said c)
  unfolding done new_database
  made-log = on_branch-log w (done w (created c)) created-follows [] 1 c.branch (creation_said c) refl tt (omega arith) (new_database c)

  created-whole : IsWholeDatabase (done w (created c)) (new_database c)
  unfolding done new_database
  created-whole =
      on_branch-whole w (done w (created c)) created-follows [] 1 c.branch (creation_said c) refl tt (omega arith) (new_database c) created-log (refl, tt) tt branch-later family-later tt (omega arith)
      (λ k pos lt. absurd (omega (arith, pos, lt))) (record { lsn = 1; begin = 0; deed = database_made c.time c.family c.branch }, (0, omega arith, refl), refl, omega arith) created-fits

  created-open : OpenBy (done w (created c)).history (new_database c)
  unfolding done new_database log_below pending
  created-open =
      on_branch-open w (done w (created c)) created-follows [] 1 c.branch (creation_said c) refl tt (omega arith) (new_database c) (record { pending = tt; loads = tt; apart = tt; begins = tt; few = tt; seats = tt; kept = tt; numbers = omega arith }) refl refl

  created-others : (dbs : List Database) → AllByRecursion (IsWholeDatabase w) dbs → AllByRecursion (IsWholeDatabase (done w (created c))) dbs
  unfolding done
  created-others dbs all =
      all_mapped (IsWholeDatabase w) (IsWholeDatabase (done w (created c)))
      (λ o one. other-stays w (done w (created c)) created-follows [] 1 c.branch (creation_said c) refl tt (omega arith) o (new-there o.path one.drawn) one) dbs all

  created-differs : (dbs : List Database) → AllByRecursion (IsWholeDatabase w) dbs → AllByRecursion (λ (o : Database). lowered o.name ≢ lowered c.name) dbs → AllByRecursion (λ o. Differ o (new_database c)) dbs
  unfolding done new_database
  created-differs dbs all names =
      all_both (IsWholeDatabase w) (λ (o : Database). lowered o.name ≢ lowered c.name) (λ o. Differ o (new_database c))
      (λ o one apart. differ-sym (others-differ w (done w (created c)) created-follows [] 1 c.branch (creation_said c) refl tt (omega arith) (new_database c) o refl (λ same. apart (sym same)) (new-there o.path one.drawn))) dbs all names

  created-line : IsSoundLine (done w (created c)) (new_line c.branch 1 (creation_said c))
  created-line = record { drawn = branch-later; rises = rise-numbered 0 1 (creation_said c) (omega arith) }

  pub created-sound : IsSound (done w (created c))
  unfolding done
  created-sound = record {
    whole = record {
      once = (none-there, is.whole.once);
      lines = (created-line, lines-stay w (done w (created c)) created-follows w.history is.whole.lines);
      databases = all-one_more (IsWholeDatabase (done w (created c))) w.databases (new_database c) (created-others w.databases is.whole.databases) created-whole;
      different = different-one_more w.databases (new_database c) is.whole.different (created-differs w.databases is.whole.databases (none-named w.databases c.name may.new));
      media = media-stay w (done w (created c)) created-follows w.media is.whole.media;
    };
    opens = all-one_more (OpenBy (done w (created c)).history) w.databases (new_database c)
        (all_both (IsWholeDatabase w) (OpenBy w.history) (OpenBy (done w (created c)).history) (open-stays w (done w (created c)) created-follows) w.databases is.whole.databases is.opens) created-open;
    seat = is.seat;
  }

-- RESTORE, its last part: what the recovery says.

recovery-quiet_one : (branch : Guid) (ws : List Pending) (lsn begin : ℕ) (deed : Deed) → IsOfRecovery branch begin deed → entry_of ws lsn begin deed ≡ []
recovery-quiet_one branch ws lsn begin (database_made time family first) is = absurd is
recovery-quiet_one branch ws lsn begin (table_made time spec) is = absurd is
recovery-quiet_one branch ws lsn begin begun is = absurd is
recovery-quiet_one branch ws lsn begin (written at before c) is = absurd is
recovery-quiet_one branch ws lsn begin (committed time mark) is = absurd is
recovery-quiet_one branch ws lsn begin rolled_back is = refl
recovery-quiet_one branch ws lsn begin (undone at c n) is = refl
recovery-quiet_one branch ws lsn begin (checkpointed time) is = absurd is
recovery-quiet_one branch ws lsn begin (stamped time set) is = absurd is
recovery-quiet_one branch ws lsn begin (model_set time model) is = absurd is
recovery-quiet_one branch ws lsn begin (loaded load) is = absurd is
recovery-quiet_one branch ws lsn begin (recovered other) is = refl

pub recovery-quiet : (branch : Guid) (ws : List Pending) (n : ℕ) (said : List Said) → AllByRecursion (λ (s : Said). IsOfRecovery branch s.begin s.deed) said → entries_from ws (numbered n said) ≡ []
recovery-quiet branch ws n [] all = refl
recovery-quiet branch ws n (s ∷ said) all =
    rw (recovery-quiet_one branch ws n s.begin s.deed all.0) (recovery-quiet branch (pending_after ws n s.begin s.deed) (n + 1) said all.1)

recovery-placed_one : (branch : Guid) (files : List FileSpec) (made : List TableSpec) (begin : ℕ) (deed : Deed) → IsOfRecovery branch begin deed → IsPlaced files made deed
recovery-placed_one branch files made begin (database_made time family first) is = absurd is
recovery-placed_one branch files made begin (table_made time spec) is = absurd is
recovery-placed_one branch files made begin begun is = absurd is
recovery-placed_one branch files made begin (written at before c) is = absurd is
recovery-placed_one branch files made begin (committed time mark) is = absurd is
recovery-placed_one branch files made begin rolled_back is = tt
recovery-placed_one branch files made begin (undone at c n) is = tt
recovery-placed_one branch files made begin (checkpointed time) is = absurd is
recovery-placed_one branch files made begin (stamped time set) is = absurd is
recovery-placed_one branch files made begin (model_set time model) is = absurd is
recovery-placed_one branch files made begin (loaded load) is = absurd is
recovery-placed_one branch files made begin (recovered other) is = tt

recovery-placed : (branch : Guid) (files : List FileSpec) (rs : List Logged) (n : ℕ) (said : List Said) → AllByRecursion (λ (s : Said). IsOfRecovery branch s.begin s.deed) said → ArePlaced files rs (numbered n said)
recovery-placed branch files rs n [] all = tt
recovery-placed branch files rs n (s ∷ said) all =
    let r : Logged = record { lsn = n; begin = s.begin; deed = s.deed } in
    (recovery-placed_one branch files (tables rs) s.begin s.deed all.0, recovery-placed branch files (rs ++ r ∷ []) (n + 1) said all.1)

-- the record that names the branch is of no transaction
names-alone : (branch : Guid) (begin : ℕ) (deed : Deed) → IsOfRecovery branch begin deed → is_recovery_deed (record { begin = begin; deed = deed }) ≡ true → begin ≡ 0
names-alone branch begin (database_made time family first) is names = absurd is
names-alone branch begin (table_made time spec) is names = absurd is
names-alone branch begin begun is names = absurd is
names-alone branch begin (written at before c) is names = absurd is
names-alone branch begin (committed time mark) is names = absurd is
names-alone branch begin rolled_back is names = absurd cc
names-alone branch begin (undone at c n) is names = absurd cc
names-alone branch begin (checkpointed time) is names = absurd is
names-alone branch begin (stamped time set) is names = absurd is
names-alone branch begin (model_set time model) is names = absurd is
names-alone branch begin (loaded load) is names = absurd is
names-alone branch begin (recovered other) is names = is.0

find-anchor : (branch : Guid) (at n : ℕ) (said : List Said) → at ≤ n → AllByRecursion (λ (s : Said). IsOfRecovery branch s.begin s.deed) said → 0 < length (filter is_recovery_deed said) → Anchor at (numbered n said)
find-anchor branch at n [] le all some = absurd (omega (arith, some))
find-anchor branch at n (s ∷ said) le all some = by (is_recovery_deed s) refl some (find-anchor branch at (n + 1) said (omega (arith, le)) all.1)
  where
    r : Logged
    r = record { lsn = n; begin = s.begin; deed = s.deed }

    behind : Anchor at (numbered (n + 1) said) → Anchor at (r ∷ numbered (n + 1) said)
    behind rest = (rest.0, Contains-append_right (r ∷ []) (numbered (n + 1) said) rest.0 rest.1, rest.2, rest.3)

    by : (t : Bool) → is_recovery_deed s ≡ t → 0 < length (cond t (s ∷ filter is_recovery_deed said) (filter is_recovery_deed said))
        → (0 < length (filter is_recovery_deed said) → Anchor at (numbered (n + 1) said)) → Anchor at (r ∷ numbered (n + 1) said)
    by true is more later = (r, Contains-append_left (r ∷ []) (numbered (n + 1) said) r (Contains-push [] r), names-alone branch s.begin s.deed all.0 is, le)
    by false is more later = behind (later more)

-- where nothing is pending and no transaction is open, all that is pending is of an open transaction
none-open : (rs : List Logged) (end : ℕ) (transactions : List Open) → pending rs ≡ [] → transactions ≡ [] → end ≤ last_number → AreOpen rs end transactions
none-open rs end transactions nothing none within = record {
  pending = subst (λ ws. AllByRecursion (λ (w : Pending). has_begin transactions w.begin ≡ true) ws) (sym nothing) tt;
  loads = subst (λ ws. AllByRecursion (λ (w : Pending). w.extents ≡ []) ws) (sym nothing) tt;
  apart = subst AreApart (sym none) tt;
  begins = subst (λ ts. AllByRecursion (λ (t : Open). (0 < t.begin) × (t.begin < end)) ts) (sym none) tt;
  few = subst (λ ts. AllByRecursion (HasFew rs) ts) (sym none) tt;
  seats = subst (λ ts. AllByRecursion (λ (t : Open). t.session ≤ most_sessions) ts) (sym none) tt;
  kept = subst (λ ts. AllByRecursion (KeepsAll rs) ts) (sym none) tt;
  numbers = (let few : length (pending rs) ≡ 0 = ap length nothing in let closed : length transactions ≡ 0 = ap length none in omega (arith, few, closed, within));
}

module _ (w : World) (db : Database) (r : Recovery) (is : IsSound w) (there : database_named w.databases db.name ≡ Some db) (may : MayRecover w db r) where
  off : db.status ≢ Online
  off up = let clash : Down ≡ Online = sym may.down ∙ up in cc

  own : IsWholeDatabase w db
  own = of-named (IsWholeDatabase w) w.databases db.name db is.whole.databases there

  idle : IsIdle db
  idle = (of-named (OpenBy w.history) w.databases db.name db is.opens there).offline off

  some-said : 0 < length r.said
  some-said =
      let few : count_by is_recovery_deed r.said ≤ length r.said = count_by-le-length is_recovery_deed r.said in
      omega (arith, few, may.recovers.one)

  new-to : (path : List Branch) → AllByRecursion (λ (b : Branch). IsNotToCome w b.guid) path → AllByRecursion (λ (b : Branch). is_guid r.branch b.guid ≡ false) path
  new-to path drawn_before = subst (λ g. AllByRecursion (λ (b : Branch). is_guid g b.guid ≡ false) path) (sym may.branch) (path-new w w.counter path (omega arith) drawn_before)

  no-line : has_record_line w.history r.branch ≡ false
  no-line = ap (has_record_line w.history) may.branch ∙ none-drawn w w.counter w.history (omega arith) is.whole.lines

  pub recovered-follows : Follows w (goes_online w db r)
  unfolding goes_online
  recovered-follows = record { instance = refl; counter = omega arith; grew = grew-new w.history r.branch r.at r.said may.some no-line }

  drawn-later : IsNotToCome (goes_online w db r) r.branch
  unfolding goes_online
  drawn-later = subst (IsNotToCome (goes_online w db r)) (sym may.branch) (λ high. omega arith)

  -- its log up to where it is recovered, and what the recovery says behind it
  log-there : IsLog db.files (log_below w.history db.path r.at) r.at
  unfolding log_of
  log-there =
      let same : r.at + (db.end - r.at) ≡ db.end = omega (arith, may.within) in
      let split = log-front w.history db.path r.at (db.end - r.at) in
      let all : log_below w.history db.path db.end ≡ log_below w.history db.path r.at ++ split.0 = ap (log_below w.history db.path) (sym same) ∙ split.1 in
      let counts : Counts 1 (log_below w.history db.path r.at) r.at = counts-front w.history db.path r.at (db.end - r.at) may.some (subst (λ m. Counts 1 (log_below w.history db.path m) m) (sym same) own.log.counts) in
      log-of-front db.files (log_below w.history db.path r.at) split.0 r.at db.end counts (subst (λ rs. IsLog db.files rs db.end) all own.log)

  recovers-there : Recovers (log_below w.history db.path r.at) r
  unfolding log_to
  recovers-there = may.recovers

  log-behind : IsLog db.files (more (log_below w.history db.path r.at) r.at r.said) (r.at + length r.said)
  log-behind =
      let rs : List Logged = log_below w.history db.path r.at in
      let tells : tables (more rs r.at r.said) ≡ tables rs = tables-quiet rs (numbered r.at r.said) (recovery-quiet r.branch (pending rs) r.at r.said recovers-there.each) in
      log-of-more db.files rs r.at r.said log-there recovers-there.may (subst (AreNumbered 1) (sym tells) log-there.tables) (recovery-placed r.branch db.files rs r.at r.said recovers-there.each)

  -- it still fits a set: what the recovery says makes no table and tells no time, and there is room for the branch
  room-there : length (forked db.path r.at r.branch) ≤ most_branches
  room-there =
      let before : Branch → Bool = λ b. nat_le b.start r.at in
      let new : List Branch = (record { guid = r.branch; start = r.at }) ∷ [] in
      omega (arith, may.room, count_by-le-length before db.path, length-filter before db.path, length-append (filter before db.path) new)

  fits-there : FitsSet (storage_of db) (forked db.path r.at r.branch) (more (log_below w.history db.path r.at) r.at r.said)
  unfolding log_of
  fits-there =
      let rs : List Logged = log_below w.history db.path r.at in
      let same : r.at + (db.end - r.at) ≡ db.end = omega (arith, may.within) in
      let split = log-front w.history db.path r.at (db.end - r.at) in
      let all : log_below w.history db.path db.end ≡ rs ++ split.0 = ap (log_below w.history db.path) (sym same) ∙ split.1 in
      let quiet : entries (more rs r.at r.said) ≡ entries rs =
      entries-more rs (numbered r.at r.said) ∙ (ap (λ es. entries rs ++ es) (recovery-quiet r.branch (pending rs) r.at r.said recovers-there.each) ∙ append-nil (entries rs)) in
      record {
        storage = own.fits.storage;
        branches = room-there;
        log = fits-told (length db.groups) rs (more rs r.at r.said) quiet (fits-front (length db.groups) rs split.0 (subst (FitsLog (length db.groups)) all own.fits.log));
      }

  passed-there : (k : ℕ) → 0 < k → k < r.at → IsPassed w.history (branch_at db.path k) k
  passed-there k pos lt = elim (own.held k pos (omega (arith, lt, may.within))) [ inl last ↦ absurd (off last.0) | inr passed ↦ passed ]

  online-there : Database → Database
  online-there = gone_online (model (log_to w.history db r.at)) r

  whole-there : IsWholeDatabase (goes_online w db r) (online-there db)
  unfolding goes_online online-there
  whole-there =
      on_branch-whole w (goes_online w db r) recovered-follows db.path r.at r.branch r.said refl (new-to db.path own.drawn) some-said (online-there db) log-behind (path-forked db.path r.at r.branch may.some own.path) own.drawn drawn-later
      (not_to_come-later w (goes_online w db r) db.family recovered-follows.instance recovered-follows.counter own.family) (job-none (λ (job : Job). IsNotToCome (goes_online w db r) job.set) db.job idle.job) (omega arith) passed-there
      (find-anchor r.branch r.at r.at r.said (omega arith) recovers-there.each (let one : length (filter is_recovery_deed r.said) ≡ 1 = length-filter is_recovery_deed r.said ∙ recovers-there.one in omega (arith, one))) fits-there

  open-there : OpenBy (goes_online w db r).history (online-there db)
  unfolding goes_online online-there
  open-there =
      on_branch-open w (goes_online w db r) recovered-follows db.path r.at r.branch r.said refl (new-to db.path own.drawn) some-said (online-there db)
      (none-open (more (log_below w.history db.path r.at) r.at r.said) (r.at + length r.said) db.transactions recovers-there.settles idle.transactions may.numbers) idle.job idle.transactions

  -- it is found, and its log is what it was up to there with this behind it
  pub recovered-log : log_of (goes_online w db r).history (gone_online (model (log_to w.history db r.at)) r db) ≡ more (log_to w.history db r.at) r.at r.said
  unfolding goes_online log_to
  recovered-log = on_branch-log w (goes_online w db r) recovered-follows db.path r.at r.branch r.said refl (new-to db.path own.drawn) some-said (gone_online (model (log_to w.history db r.at)) r db)

  pub recovered-found : database_named (goes_online w db r).databases db.name ≡ Some (gone_online (model (log_to w.history db r.at)) r db)
  unfolding goes_online
  recovered-found = named-changed w.databases db.name db (gone_online (model (log_to w.history db r.at)) r) refl there

  recovered-others : (o : Database) → IsWholeDatabase w o → Differ db o → IsWholeDatabase (goes_online w db r) o
  unfolding goes_online
  recovered-others o one differ = other-stays w (goes_online w db r) recovered-follows db.path r.at r.branch r.said refl (new-to db.path own.drawn) some-said o (new-to o.path one.drawn) one

  recovered-differs : (o : Database) → IsWholeDatabase w o → Differ db o → Differ (online-there db) o
  unfolding goes_online online-there
  recovered-differs o one differ =
      others-differ w (goes_online w db r) recovered-follows db.path r.at r.branch r.said refl (new-to db.path own.drawn) some-said (online-there db) o idle.job differ.names (new-to o.path one.drawn)

  both : AllByRecursion (λ o. IsWholeDatabase w o × OpenBy w.history o) w.databases
  both = all_both (IsWholeDatabase w) (OpenBy w.history) (λ o. IsWholeDatabase w o × OpenBy w.history o) (λ o one opens. (one, opens)) w.databases is.whole.databases is.opens

  recovered-line : IsSoundLine (goes_online w db r) (new_line r.branch r.at r.said)
  recovered-line = record { drawn = drawn-later; rises = rise-numbered 0 r.at r.said may.some }

  pub recovered-sound : IsSound (goes_online w db r)
  unfolding goes_online online-there
  recovered-sound = record {
    whole = record {
      once = (no-line, is.whole.once);
      lines = (recovered-line, lines-stay w (goes_online w db r) recovered-follows w.history is.whole.lines);
      databases = all-changed (IsWholeDatabase w) (IsWholeDatabase (goes_online w db r)) w.databases db.name db online-there is.whole.databases is.whole.different there (λ one. whole-there) recovered-others;
      different = different-changed (IsWholeDatabase w) w.databases db.name db online-there is.whole.databases is.whole.different there recovered-differs;
      media = media-stay w (goes_online w db r) recovered-follows w.media is.whole.media;
    };
    opens = all-changed (λ o. IsWholeDatabase w o × OpenBy w.history o) (OpenBy (goes_online w db r).history) w.databases db.name db online-there both is.whole.different there (λ one. open-there)
        (λ o one differ. open-stays w (goes_online w db r) recovered-follows o one.0 one.1);
    seat = is.seat;
  }
