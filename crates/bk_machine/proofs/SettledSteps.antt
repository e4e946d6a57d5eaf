-- What is pending in a database is undone by an act that may be done.
use Rattle.std.proofs.Common.{◌≡◌, ◌≤◌, ℕ, ◌+◌, Bool, true, false, not, ◌&&◌, cond, List, [], ◌∷◌, ◌++◌, length, reverse, Some, refl, sym, ◌∙◌, ap, subst, append_assoc, arith, inl}
use Rattle.std.proofs.lemmas.List.{append-nil, length-reverse}
use Rattle.std.specs.List.{AllByRecursion, AllZip}
use Rattle.std.specs.Prelude.{◌==◌}
use Rattle.bk_ids.specs.Name.{same_name}
use Rattle.bk_ids.specs.declared.record.RecoveryModel.{RecoveryModel}
use Rattle.bk_world.specs.CrashLaws.{sound-settled}
use Rattle.bk_world.specs.Cut.{end_behind, settled}
use Rattle.bk_world.specs.Lines.{log_below}
use Rattle.bk_lemmas.specs.Lists.{all_mapped, all_middle}
use Rattle.bk_world.specs.Pending.{Pending, pending}
use Rattle.bk_world.specs.ReadingLaws.{entries-settled, pending-settled}
use Rattle.bk_world.specs.Records.{Counts, Logged, Said, more, numbered}
use Rattle.bk_world.specs.Rows.{tables_of}
use Rattle.bk_world.specs.Says.{settle_said, undoing}
use Rattle.bk_world.specs.SettledLaws.{end-more, length-undoing, nothing-pends}
use Rattle.bk_world.specs.SoundLogs.{IsSound as IsSoundLog, MayFollow, NoLoadPends}
use Rattle.bk_world.specs.Telling.{model, tables}
use Rattle.bk_world.specs.declared.database.Status.TheVariants.{Online}
use Rattle.bk_machine.specs.JobLaws.{job-on}
use Rattle.bk_machine.specs.Acts.{done, gone_on, pointed, says, where_found}
use Rattle.bk_machine.specs.Built.{IsNoLoad, SaysNoLoad}
use Rattle.bk_machine.specs.Checks.{last_number}
use Rattle.bk_machine.specs.MayDo.{MayDo, MaySay, IsNoMark}
use Rattle.bk_machine.specs.NamedLaws.{apart-named}
use Rattle.bk_machine.specs.ReadyLaws.{nothing-open}
use Rattle.bk_machine.specs.Same.{SameMedia}
use Rattle.bk_machine.specs.Settled.{IsSettledTo, SettledTo, needs_settling, settled_database, settles}
use Rattle.bk_machine.specs.SettledLaws.{counts-end, media-symmetric, media-transitive, settled-same}
use Rattle.bk_machine.specs.Sound.{AreDifferent, AreNumbered, Differ, IsSound, IsWholeDatabase, IsFitJob, JobIs, LeavesStamp}
use Rattle.bk_machine.specs.UpLaws.{IsUp, is-up, may-open}
use Rattle.bk_machine.specs.declared.job.Job.{Job}
use Rattle.bk_machine.specs.World.{Database, World, database_named, log_of, with_database}
use Rattle.bk_machine.specs.statements.Restore.{is_online}
use Rattle.bk_machine.proofs.Fitting.{fits-told}
use Rattle.bk_machine.proofs.Acting.{act-reads, act-sound}
use Rattle.bk_machine.proofs.ActsSays.{says-found, says-log}
use Rattle.bk_machine.proofs.Left.{placed-undoing}
use Rattle.bk_machine.proofs.SameMedia.{media-said}

-- ---- logs

pub follow-rest : (rs a b : List Logged) → MayFollow rs (a ++ b) → MayFollow (rs ++ a) b
follow-rest rs [] b may = subst (λ log. MayFollow log b) (sym (append-nil rs)) may
follow-rest rs (r ∷ a) b may = subst (λ log. MayFollow log b) (append_assoc rs (r ∷ []) a) (follow-rest (rs ++ r ∷ []) a b may.1)

-- what undoes all that is pending may come behind a log
pub settle-follows : (rs : List Logged) (end : ℕ) → Counts 1 rs end → IsSoundLog rs → NoLoadPends rs → MayFollow rs (numbered end (settle_said (pending rs)))
unfolding settled
settle-follows rs end counted sound none =
    let all : end ≡ end_behind rs = counts-end 1 end rs counted in
    subst (λ n. MayFollow rs (numbered n (settle_said (pending rs)))) (sym all) (follow-rest [] rs (numbered (end_behind rs) (settle_said (pending rs))) (sound-settled rs sound (subst (Counts 1 rs) all counted) none))

settle-tables : (rs : List Logged) (n : ℕ) → tables (more rs n (settle_said (pending rs))) ≡ tables rs
unfolding tables
settle-tables rs n = ap tables_of (entries-settled rs n)

-- what undoes moves no point
settle-marks : (ws : List Pending) → AllByRecursion (λ (s : Said). IsNoMark s.deed) (undoing ws)
settle-marks [] = tt
settle-marks (w ∷ ws) = (tt, settle-marks ws)

pointed-undoing : (m : RecoveryModel) (db : Database) (n : ℕ) (ws : List Pending) → pointed m db (numbered n (undoing ws)) ≡ db
pointed-undoing m db n [] = refl
pointed-undoing m db n (w ∷ ws) = pointed-undoing m db (n + 1) ws

pub undoing-plain : (ws : List Pending) → AllByRecursion (λ (s : Said). IsNoLoad s.deed) (undoing ws)
undoing-plain [] = tt
undoing-plain (w ∷ ws) = (tt, undoing-plain ws)

-- nor is a load said
pub settle-plain : (w : World) (db : Database) → SaysNoLoad w (settles w db)
settle-plain w db = undoing-plain (reverse (pending (log_of w.history db)))

-- ---- databases

-- the one that changes stands in its place
in-place : (front rest : List Database) (db : Database) (change : Database → Database) → AreDifferent (front ++ db ∷ rest) → same_name db.name db.name ≡ true → with_database (front ++ db ∷ rest) db.name change ≡ front ++ change db ∷ rest
in-place [] rest db change different own = ap (λ t. cond t (change db ∷ rest) (db ∷ with_database rest db.name change)) own
in-place (d ∷ front) rest db change different own =
    let apart : Differ d db = all_middle (Differ d) front db rest different.0 in
    ap (λ t. cond t (change d ∷ (front ++ db ∷ rest)) (d ∷ with_database (front ++ db ∷ rest) db.name change)) (apart-named d.name db.name apart.names)
    ∙ ap (λ dbs. d ∷ dbs) (in-place front rest db change different.1 own)

-- pairs with others, where it changes
zip-changed : (P : Database → Type 0) (R S : Database → Database → Type 0) (dbs : List Database) (name : List ℕ) (db : Database) (change : Database → Database) → database_named dbs name ≡ Some db
    → ((new : Database) → R db new → S (change db) new) → ((old new : Database) → P old → R old new → S old new) → (ys : List Database) → AllByRecursion P dbs → AllZip R dbs ys → AllZip S (with_database dbs name change) ys
zip-changed P R S [] name db change there here others ys all each = absurd (cc)
zip-changed P R S (d ∷ dbs) name db change there here others [] all each = absurd each
zip-changed P R S (d ∷ dbs) name db change there here others (y ∷ ys) all each = by (same_name d.name name) there (λ is. zip-changed P R S dbs name db change is here others ys all.1 each.1)
  where
    rest : (ds es : List Database) → AllByRecursion P ds → AllZip R ds es → AllZip S ds es
    rest [] [] all each = tt
    rest [] (e ∷ es) all each = absurd each
    rest (o ∷ ds) [] all each = absurd each
    rest (o ∷ ds) (e ∷ es) all each = (others o e all.0 each.0, rest ds es all.1 each.1)

    by : (t : Bool) → cond t (Some d) (database_named dbs name) ≡ Some db → (database_named dbs name ≡ Some db → AllZip S (with_database dbs name change) ys) → AllZip S (cond t (change d ∷ dbs) (d ∷ with_database dbs name change)) (y ∷ ys)
    by true is later =
        let same : d ≡ db = cc in
        (subst (λ o. S (change o) y) (sym same) (here y (subst (λ o. R o y) same each.0)), rest dbs ys all.1 each.1)
    by false is later = (others d y all.0 each.0, later is)

-- ---- a database is settled

module _ (w : World) (db : Database) (sound : IsSound w) (named : database_named w.databases db.name ≡ Some db) (up : db.status ≡ Online) where
  is : IsUp w db
  is = is-up w db sound named up

  abbrev said : List Said
  said = settle_said (pending (log_of w.history db))

  end : db.end ≡ end_behind (log_of w.history db)
  end = counts-end 1 db.end (log_of w.history db) is.whole.log.counts

  settled-is : more (log_of w.history db) db.end (settle_said (pending (log_of w.history db))) ≡ settled (log_of w.history db)
  unfolding settled
  settled-is = ap (λ n. more (log_of w.history db) n (settle_said (pending (log_of w.history db)))) end

  says-it : MaySay w db (settle_said (pending (log_of w.history db)))
  says-it = record {
    online = up;
    may = settle-follows (log_of w.history db) db.end is.whole.log.counts is.whole.log.sound is.opens.loads;
    tables = subst (AreNumbered 1) (sym (settle-tables (log_of w.history db) db.end)) is.whole.log.tables;
    places = placed-undoing db.files (log_of w.history db) db.end (reverse (pending (log_of w.history db)));
    fits = fits-told (length db.groups) (log_of w.history db) (more (log_of w.history db) db.end (settle_said (pending (log_of w.history db)))) (entries-settled (log_of w.history db) db.end) is.whole.fits.log;
    marks = inl (settle-marks (reverse (pending (log_of w.history db))));
  }

  -- it says a record for each pending write, and none is open then
  left : db.end + length (settle_said (pending (log_of w.history db))) ≤ last_number
  left =
      let many : length (settle_said (pending (log_of w.history db))) ≡ length (pending (log_of w.history db)) = length-undoing (reverse (pending (log_of w.history db))) ∙ length-reverse (pending (log_of w.history db)) in
      omega (arith, is.opens.numbers, many)

  -- and a stamp may still come
  leaves : JobIs (λ (job : Job). LeavesStamp (more (log_of w.history db) db.end said) (db.end + length said) []) db.job
  leaves =
      let many : length (settle_said (pending (log_of w.history db))) ≡ length (pending (log_of w.history db)) = length-undoing (reverse (pending (log_of w.history db))) ∙ length-reverse (pending (log_of w.history db)) in
      let none : length (pending (more (log_of w.history db) db.end said)) ≡ 0 = ap length (pending-settled (log_of w.history db) db.end) in
      job-on (IsFitJob (log_of w.history db) db.end db.transactions) (λ (job : Job). LeavesStamp (more (log_of w.history db) db.end said) (db.end + length said) [])
      (λ job fit. let stamp : LeavesStamp (log_of w.history db) db.end db.transactions = fit.numbers in omega (arith, stamp, many, none)) db.job is.job

  pub settle-may : MayDo w (settles w db)
  settle-may = may-open w db said [] is says-it tt (nothing-open (more (log_of w.history db) db.end said) (db.end + length said) (pending-settled (log_of w.history db) db.end) left) leaves

  pub settle-sound : IsSound (done w (settles w db))
  settle-sound = act-sound w (settles w db) sound settle-may

  -- the world behind it
  done-is : done w (settles w db) ≡ says w db said []
  unfolding done
  done-is = ap (λ o. where_found w o (λ d. says w d said [])) named

  gone-is : gone_on (model (log_of w.history db)) said [] db ≡ settled_database w db
  unfolding settled
  gone-is =
      ap (λ (d : Database). record d { end = db.end + length said; transactions = [] }) (pointed-undoing (model (log_of w.history db)) db db.end (reverse (pending (log_of w.history db))))
      ∙ ap (λ n. record db { end = n; transactions = [] }) (ap (λ n. n + length said) end ∙ sym (end-more (log_of w.history db) (end_behind (log_of w.history db)) said))

  pub settle-found : database_named (done w (settles w db)).databases db.name ≡ Some (settled_database w db)
  settle-found =
      ap (λ (v : World). database_named v.databases db.name) done-is ∙ says-found w db said [] sound.whole named says-it ∙ ap (λ (d : Database). Some d) gone-is

  pub settle-log : log_of (done w (settles w db)).history (settled_database w db) ≡ settled (log_of w.history db)
  settle-log =
      ap (λ (v : World). log_of v.history (settled_database w db)) done-is ∙ ap (log_of (says w db said []).history) (sym gone-is)
      ∙ says-log w db said [] sound.whole named says-it ∙ settled-is

  pub settle-nothing : pending (log_of (done w (settles w db)).history (settled_database w db)) ≡ []
  settle-nothing = ap pending settle-log ∙ nothing-pends (log_of w.history db)

  -- so it needs to be settled no more
  pub settle-needs : needs_settling (done w (settles w db)).history (settled_database w db) ≡ false
  settle-needs = ap (λ (ws : List Pending). is_online db.status && not (true && length ws == 0)) settle-nothing ∙ by (is_online db.status)
    where
      by : (b : Bool) → (b && false) ≡ false
      by true = refl
      by false = refl

  -- the others are as they were
  databases-are : (done w (settles w db)).databases ≡ with_database w.databases db.name (gone_on (model (log_of w.history db)) said [])
  unfolding says
  databases-are = ap (λ (v : World). v.databases) done-is

  pub settle-place : (front rest : List Database) → w.databases ≡ front ++ db ∷ rest → (done w (settles w db)).databases ≡ front ++ settled_database w db ∷ rest
  settle-place front rest parts =
      databases-are ∙ ap (λ dbs. with_database dbs db.name (gone_on (model (log_of w.history db)) said [])) parts
      ∙ in-place front rest db (gone_on (model (log_of w.history db)) said []) (subst AreDifferent parts sound.whole.different) (Rattle.bk_world.specs.SameLaws.same_name-refl db.name)
      ∙ ap (λ d. front ++ d ∷ rest) gone-is

  pub settle-logs : AllByRecursion (λ (o : Database). log_of (done w (settles w db)).history o ≡ log_of w.history o) w.databases
  unfolding log_of
  settle-logs =
      all_mapped (IsWholeDatabase w) (λ (o : Database). log_below (done w (settles w db)).history o.path o.end ≡ log_below w.history o.path o.end)
      (λ o one. act-reads w (settles w db) sound settle-may o.path o.end one.log.counts) w.databases sound.whole.databases

  pub settle-media : SameMedia w (done w (settles w db))
  settle-media = media-said w db.name said [] sound settle-may

  -- it is settled to the same
  pub settle-keeps : (v : World) → IsSettledTo w v → IsSettledTo (done w (settles w db)) v
  settle-keeps v s = record {
    media = media-transitive (done w (settles w db)) w v (media-symmetric w (done w (settles w db)) settle-media) s.media;
    databases = subst (λ dbs. AllZip (SettledTo (done w (settles w db)) v) dbs v.databases) (sym databases-are)
        (zip-changed (λ (o : Database). log_of (done w (settles w db)).history o ≡ log_of w.history o) (SettledTo w v) (SettledTo (done w (settles w db)) v) w.databases db.name db
        (gone_on (model (log_of w.history db)) said []) named (λ new one. subst (λ d. SettledTo (done w (settles w db)) v d new) (sym gone-is) (here new one)) others v.databases settle-logs s.databases);
  }
    where
      here : (new : Database) → SettledTo w v db new → SettledTo (done w (settles w db)) v (settled_database w db) new
      here new one = record {
        same = one.same;
        end = one.end;
        online = λ same. one.online up ∙ settled-same (settled (log_of w.history db)) (nothing-pends (log_of w.history db)) ∙ sym (ap settled settle-log);
        offline = λ down. absurd (down up);
      }

      others : (old new : Database) → log_of (done w (settles w db)).history old ≡ log_of w.history old → SettledTo w v old new → SettledTo (done w (settles w db)) v old new
      others old new same one = record { same = one.same; end = one.end; online = λ up. one.online up ∙ ap settled (sym same); offline = λ down. one.offline down ∙ sym same }
