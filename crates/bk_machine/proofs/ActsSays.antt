-- What a database says leaves a sound world.
use Rattle.std.proofs.Common.{◌≡◌, ◌⊎◌, ◌<◌, ◌≤◌, inl, inr, ℕ, ◌+◌, List, [], ◌∷◌, length, Some, refl, sym, ◌∙◌, ap, subst, arith}
use Rattle.std.specs.Prelude.{Contains}
use Rattle.std.specs.List.{AllByRecursion}
use Rattle.std.proofs.lemmas.List.Elements.{Contains-append_left, Contains-append_right, Contains-push}
use Rattle.bk_ids.specs.declared.path.Branch.{Branch}
use Rattle.bk_ids.specs.declared.record.RecoveryModel.{RecoveryModel}
use Rattle.bk_ids.specs.Path.{branch_at, last_branch}
use Rattle.bk_world.specs.declared.database.Status.TheVariants.{Online}
use Rattle.bk_world.specs.Lines.{MayGoOn, line_on, said_on, said_on_last}
use Rattle.bk_lemmas.specs.Lists.{all_both, all_mapped}
use Rattle.bk_world.specs.Records.{Deed, Logged, Said, more, numbered, database_made, table_made, begun, written, committed, rolled_back, undone, checkpointed, stamped, model_set, loaded, recovered}
use Rattle.bk_world.specs.Telling.{model}
use Rattle.bk_world.specs.BranchLaws.{branch_at-last}
use Rattle.bk_world.specs.SaidLaws.{GoesOn-said, records-said}
use Rattle.bk_world.specs.Says.{alone}
use Rattle.bk_machine.proofs.Keeping.{checkpoint-end, kept-is}
use Rattle.bk_machine.specs.JobLaws.{job-on}
use Rattle.bk_machine.specs.Acts.{gone_on, kept_after, pointed, pointed_by, says}
use Rattle.bk_machine.specs.Fits.{FitsSet}
use Rattle.bk_machine.specs.MayDo.{MaySay}
use Rattle.bk_machine.specs.Sound.{AreOpen, Differ, IsLog, IsOnce, IsOnline, IsSoundLine, IsWhole, IsWholeDatabase, OpenBy, storage_of, IsFitJob, JobIs, IsNotToCome, IsKept}
use Rattle.bk_world.specs.declared.transaction.Open.{Open}
use Rattle.bk_machine.specs.declared.job.Job.{Job}
use Rattle.bk_machine.specs.World.{World, Database, database_named, log_of, with_database}
use Rattle.bk_machine.proofs.ActsLogs.{log-of-more}
use Rattle.bk_machine.proofs.ActsStay.{Follows, database-stays, line-stays, media-stay, open-stays}
use Rattle.bk_machine.proofs.Histories.{before-or-not, counts-positive, goes_on-elsewhere, grew-said, lines-said, not_to_come-later, once-said, passed-grew, path-later, rise-said}
use Rattle.bk_machine.specs.NamedLaws.{all-changed, different-with, named-changed, of-named}

-- A database that has gone on.

-- a database with these points, this end and these open transactions
abbrev pub went : Database → ℕ → ℕ → ℕ → List Open → Database
went db kept checkpoint end transactions = record db { kept = kept; checkpoint = checkpoint; end = end; transactions = transactions }

pointed_by-is : (m : RecoveryModel) (db : Database) (n : ℕ) (deed : Deed) → (kept : ℕ) × (checkpoint : ℕ) × (pointed_by m db n deed ≡ record db { kept = kept; checkpoint = checkpoint })
pointed_by-is m db n (database_made time family branch) = (db.kept, db.checkpoint, refl)
pointed_by-is m db n (table_made time spec) = (db.kept, db.checkpoint, refl)
pointed_by-is m db n begun = (db.kept, db.checkpoint, refl)
pointed_by-is m db n (written at before c) = (db.kept, db.checkpoint, refl)
pointed_by-is m db n (committed time mark) = (db.kept, db.checkpoint, refl)
pointed_by-is m db n rolled_back = (db.kept, db.checkpoint, refl)
pointed_by-is m db n (undone at c k) = (db.kept, db.checkpoint, refl)
pointed_by-is m db n (checkpointed time) = (kept_after db m n, n, refl)
pointed_by-is m db n (stamped time set) = (db.kept, db.checkpoint, refl)
pointed_by-is m db n (model_set time other) = (db.kept, db.checkpoint, refl)
pointed_by-is m db n (loaded load) = (db.kept, db.checkpoint, refl)
pointed_by-is m db n (recovered branch) = (db.kept, db.checkpoint, refl)

pointed-is : (m : RecoveryModel) (db : Database) (rs : List Logged) → (kept : ℕ) × (checkpoint : ℕ) × (pointed m db rs ≡ record db { kept = kept; checkpoint = checkpoint })
pointed-is m db [] = (db.kept, db.checkpoint, refl)
pointed-is m db (r ∷ rs) =
    let one = pointed_by-is m db r.lsn r.deed in
    let rest = pointed-is m (pointed_by m db r.lsn r.deed) rs in
    (rest.0, rest.1, rest.2 ∙ ap (λ (d : Database). record d { kept = rest.0; checkpoint = rest.1 }) one.2)

pub gone_on-is : (m : RecoveryModel) (said : List Said) (transactions : List Open) (db : Database) → (kept : ℕ) × (checkpoint : ℕ) × (gone_on m said transactions db ≡ went db kept checkpoint (db.end + length said) transactions)
gone_on-is m said transactions db =
    let points = pointed-is m db (numbered db.end said) in
    (points.0, points.1, ap (λ (d : Database). record d { end = db.end + length said; transactions = transactions }) points.2)

-- A database of a whole world says something.
module _ (w : World) (db : Database) (said : List Said) (transactions : List Open) (whole : IsWhole w) (there : database_named w.databases db.name ≡ Some db) (may : MaySay w db said) where
  new : World
  new = says w db said transactions

  own : IsWholeDatabase w db
  own = of-named (IsWholeDatabase w) w.databases db.name db whole.databases there

  goes_on : MayGoOn w.history db.path db.end
  goes_on = (own.online may.online).goes_on

  positive : 0 < db.end
  positive = let le : 1 ≤ db.end = counts-positive 1 db.end (log_of w.history db) own.log.counts in omega (arith, le)

  pub says-follows : Follows w (says w db said transactions)
  unfolding says
  says-follows = record { instance = refl; counter = omega arith; grew = grew-said w.history db.path db.end goes_on said positive }

  -- its log, whatever its points are
  went-log : (kept checkpoint : ℕ) → log_of new.history (went db kept checkpoint (db.end + length said) transactions) ≡ more (log_of w.history db) db.end said
  unfolding new says log_of
  went-log kept checkpoint = records-said w.history db.path db.end goes_on said

  went-held : (k : ℕ) → 0 < k → k < db.end + length said → (k < db.end) ⊎ (db.end ≤ k) → ((db.status ≡ Online) × (branch_at db.path k ≡ last_branch db.path)) ⊎ Rattle.bk_machine.specs.Sound.IsPassed new.history (branch_at db.path k) k
  unfolding new says
  went-held k pos lt (inl before) = elim (own.held k pos before) [ inl last ↦ inl last | inr passed ↦ inr (passed-grew w.history (says w db said transactions).history (branch_at db.path k) k says-follows.grew passed) ]
  went-held k pos lt (inr behind) = inl (may.online, branch_at-last db.path db.end k goes_on.starts behind)

  on_end : MayGoOn new.history db.path (db.end + length said)
  unfolding new says
  on_end = GoesOn-said w.history db.path db.end goes_on said

  -- what is kept behind it, and a record at that number or behind it
  kept-below : (kept : ℕ) → (gone_on (model (log_of w.history db)) said transactions db).kept ≡ kept → kept ≤ db.end + length said
  kept-below kept same = by (kept-is (model (log_of w.history db)) db said transactions may.marks)
    where
      by : ((gone_on (model (log_of w.history db)) said transactions db).kept ≡ db.kept) ⊎ ((time : ℕ) × (said ≡ alone (checkpointed time)) × ((gone_on (model (log_of w.history db)) said transactions db).kept ≡ kept_after db (model (log_of w.history db)) db.end))
          → kept ≤ db.end + length said
      by (inl stays) = omega (arith, own.kept, stays, same)
      by (inr (time, is, moved)) = let low : kept_after db (model (log_of w.history db)) db.end ≤ db.end = checkpoint-end (model (log_of w.history db)) db own.kept in omega (arith, low, moved, same)

  holds-behind : (kept : ℕ) → (gone_on (model (log_of w.history db)) said transactions db).kept ≡ kept → (r : Logged) × Contains (more (log_of w.history db) db.end said) r × (r.begin ≡ 0) × (kept ≤ r.lsn)
  holds-behind kept same = by (kept-is (model (log_of w.history db)) db said transactions may.marks)
    where
      by : ((gone_on (model (log_of w.history db)) said transactions db).kept ≡ db.kept) ⊎ ((time : ℕ) × (said ≡ alone (checkpointed time)) × ((gone_on (model (log_of w.history db)) said transactions db).kept ≡ kept_after db (model (log_of w.history db)) db.end))
          → (r : Logged) × Contains (more (log_of w.history db) db.end said) r × (r.begin ≡ 0) × (kept ≤ r.lsn)
      by (inl stays) =
          let was = (own.online may.online).holds in
          (was.0, Contains-append_left (log_of w.history db) (numbered db.end said) was.0 was.1, was.2, omega (arith, was.3, stays, same))
      by (inr (time, is, moved)) =
          let r : Logged = record { lsn = db.end; begin = 0; deed = checkpointed time } in
          let there : Contains (numbered db.end said) r = subst (λ (ss : List Said). Contains (numbered db.end ss) r) (sym is) (Contains-push [] r) in
          let low : kept_after db (model (log_of w.history db)) db.end ≤ db.end = checkpoint-end (model (log_of w.history db)) db own.kept in
          (r, Contains-append_right (log_of w.history db) (numbered db.end said) r there, refl, omega (arith, low, moved, same))

  went-whole : (kept checkpoint : ℕ) → (gone_on (model (log_of w.history db)) said transactions db).kept ≡ kept → IsWholeDatabase new (went db kept checkpoint (db.end + length said) transactions)
  unfolding new
  went-whole kept checkpoint its =
      let was : IsOnline w.history db = own.online may.online in
      let is : IsLog db.files (more (log_of w.history db) db.end said) (db.end + length said) = log-of-more db.files (log_of w.history db) db.end said own.log may.may may.tables may.places in
      record {
        log = subst (λ rs. IsLog db.files rs (db.end + length said)) (sym (went-log kept checkpoint)) is;
        path = own.path;
        starts = all_mapped (λ (b : Branch). b.start < db.end) (λ (b : Branch). b.start < db.end + length said) (λ b lt. omega (arith, lt)) db.path own.starts;
        kept = kept-below kept its;
        drawn = path-later w new db.path says-follows.instance says-follows.counter own.drawn;
        family = not_to_come-later w new db.family says-follows.instance says-follows.counter own.family;
        job = job-on (λ (job : Job). IsNotToCome w job.set) (λ (job : Job). IsNotToCome new job.set) (λ job one. not_to_come-later w new job.set says-follows.instance says-follows.counter one) db.job own.job;
        held = λ k pos lt. went-held k pos lt (before-or-not k db.end);
        online = λ up. record {
          goes_on = on_end;
          anchor = (was.anchor.0, subst (λ rs. Contains rs was.anchor.0) (sym (went-log kept checkpoint)) (Contains-append_left (log_of w.history db) (numbered db.end said) was.anchor.0 was.anchor.1), was.anchor.2, was.anchor.3);
          holds = (let held = holds-behind kept its in (held.0, subst (λ rs. Contains rs held.0) (sym (went-log kept checkpoint)) held.1, held.2, held.3));
        };
        fits = subst (FitsSet (storage_of db) db.path) (sym (went-log kept checkpoint)) (record { storage = own.fits.storage; branches = own.fits.branches; log = may.fits });
      }

  went-open : (kept checkpoint : ℕ) → AreOpen (more (log_of w.history db) db.end said) (db.end + length said) transactions → JobIs (IsFitJob (more (log_of w.history db) db.end said) (db.end + length said) transactions) db.job → IsKept kept transactions db.job
      → OpenBy new.history (went db kept checkpoint (db.end + length said) transactions)
  went-open kept checkpoint opens fits keeps = record {
    online = λ up. subst (λ rs. AreOpen rs (db.end + length said) transactions) (sym (went-log kept checkpoint)) opens;
    offline = λ off. absurd (off may.online);
    job = subst (λ rs. JobIs (IsFitJob rs (db.end + length said) transactions) db.job) (sym (went-log kept checkpoint)) fits;
    keeps = keeps;
  }

  -- others say nothing
  other-goes : (o : Database) → IsWholeDatabase w o → Differ db o → o.status ≡ Online → MayGoOn new.history o.path o.end
  unfolding new says
  other-goes o is differ up = goes_on-elsewhere w.history o.path o.end (last_branch db.path) (numbered db.end said) (λ same. differ.branches may.online up (sym same)) (is.online up).goes_on

  changed : Database → Database
  changed = gone_on (model (log_of w.history db)) said transactions

  changed-differs : (o other : Database) → Differ o other → Differ (changed o) other
  unfolding changed
  changed-differs o other differ =
      let points = gone_on-is (model (log_of w.history db)) said transactions o in
      subst (λ d. Differ d other) (sym points.2) (record { names = differ.names; branches = differ.branches; sets = differ.sets })

  changed-named : database_named (with_database w.databases db.name changed) db.name ≡ Some (changed db)
  unfolding changed
  changed-named =
      let points = gone_on-is (model (log_of w.history db)) said transactions db in
      named-changed w.databases db.name db (gone_on (model (log_of w.history db)) said transactions) (ap (λ (d : Database). Rattle.bk_ids.specs.Name.lowered d.name) points.2) there

  -- it is found, and its log is what it was with this behind it
  pub says-found : database_named (says w db said transactions).databases db.name ≡ Some (gone_on (model (log_of w.history db)) said transactions db)
  unfolding says changed
  says-found = changed-named

  pub says-log : log_of (says w db said transactions).history (gone_on (model (log_of w.history db)) said transactions db) ≡ more (log_of w.history db) db.end said
  unfolding new
  says-log =
      let points = gone_on-is (model (log_of w.history db)) said transactions db in
      ap (log_of (says w db said transactions).history) points.2 ∙ went-log points.0 points.1

  each-line : AllByRecursion (IsSoundLine new) (said_on w.history goes_on.branch (numbered db.end said))
  unfolding new
  each-line =
      lines-said (IsSoundLine w) (IsSoundLine new) w.history goes_on.branch (numbered db.end said) (line-stays w new says-follows)
      (λ is. record {
        drawn = (line-stays w new says-follows (line_on w.history goes_on.branch) is).drawn;
        rises = rise-said 0 db.end (line_on w.history goes_on.branch).records said positive goes_on.below is.rises;
      })
      whole.lines

  lines-sound : AllByRecursion (IsSoundLine new) (said_on_last w.history (last_branch db.path) (numbered db.end said))
  lines-sound = subst (λ b. AllByRecursion (IsSoundLine new) (said_on_last w.history b (numbered db.end said))) (sym goes_on.last) each-line

  pub says-whole : IsWhole (says w db said transactions)
  unfolding says new changed
  says-whole =
      let points = gone_on-is (model (log_of w.history db)) said transactions db in record {
        once = subst (λ b. IsOnce (said_on_last w.history b (numbered db.end said))) (sym goes_on.last) (once-said w.history goes_on.branch (numbered db.end said) whole.once);
        lines = lines-sound;
        databases = all-changed (IsWholeDatabase w) (IsWholeDatabase new) w.databases db.name db changed whole.databases whole.different there
            (λ is. subst (IsWholeDatabase new) (sym points.2) (went-whole points.0 points.1 (ap (λ (d : Database). d.kept) points.2)))
            (λ o is differ. database-stays w new says-follows o (other-goes o is differ) is);
        different = different-with w.databases db.name changed changed-differs whole.different;
        media = media-stay w new says-follows w.media whole.media;
      }

  -- where these transactions are open then, all of what is open stays so
  pub says-opens : AllByRecursion (OpenBy w.history) w.databases → AreOpen (more (log_of w.history db) db.end said) (db.end + length said) transactions
      → JobIs (IsFitJob (more (log_of w.history db) db.end said) (db.end + length said) transactions) db.job → IsKept (gone_on (model (log_of w.history db)) said transactions db).kept transactions db.job
      → AllByRecursion (OpenBy (says w db said transactions).history) (says w db said transactions).databases
  unfolding says new changed
  says-opens opens are fits keeps =
      let points = gone_on-is (model (log_of w.history db)) said transactions db in
      all-changed (λ o. IsWholeDatabase w o × OpenBy w.history o) (OpenBy new.history) w.databases db.name db changed
      (all_both (IsWholeDatabase w) (OpenBy w.history) (λ o. IsWholeDatabase w o × OpenBy w.history o) (λ o one open_there. (one, open_there)) w.databases whole.databases opens) whole.different there
      (λ is. subst (OpenBy new.history) (sym points.2) (went-open points.0 points.1 are fits (subst (λ (k : ℕ). IsKept k transactions db.job) (ap (λ (d : Database). d.kept) points.2) keeps)))
      (λ o is differ. open-stays w new says-follows o is.0 is.1)
