-- Between two acts of a statement or a run, in a sound world in which nothing is open.
use Rattle.std.proofs.Common.{◌≡◌, ◌≤◌, ℕ, ◌+◌, List, [], ◌∷◌, take, drop, length, refl, sym, ap, subst, arith}
use Rattle.std.specs.List.{AllByRecursion, AllZip}
use Rattle.std.proofs.lemmas.List.{append-nil}
use Rattle.bk_items.specs.declared.item.ScriptEntry.{ScriptEntry}
use Rattle.bk_world.specs.Cut.{settled}
use Rattle.bk_world.specs.Pending.{pending}
use Rattle.bk_world.specs.Records.{Logged}
use Rattle.bk_world.specs.Lines.{RecordLine, RecordLines}
use Rattle.bk_world.specs.declared.database.Status.{Status}
use Rattle.bk_world.specs.declared.database.Status.TheVariants.{Online, Standby, Down}
use Rattle.bk_machine.specs.Acts.{Act, done_all}
use Rattle.bk_machine.specs.Checks.{last_number}
use Rattle.bk_machine.specs.Crash.{CutsRun, DatabaseLeft, Leaves, LineLeft, StatusLeft, WorldLeft, cut_between, greatest_end, next_acts, open_begins}
use Rattle.bk_machine.specs.Machine.{May}
use Rattle.bk_machine.specs.Outcome.{Outcome}
use Rattle.bk_machine.specs.Run.{behind_all}
use Rattle.bk_machine.specs.Sound.{AreIdle, AreOpen, IsIdle, IsSound, IsSoundLine, IsWholeDatabase, OpenBy}
use Rattle.bk_machine.specs.Stays.{IsCutOf, IsFront}
use Rattle.bk_machine.specs.World.{Database, World, log_of, restarted}
use Rattle.bk_machine.proofs.Acting.{acts-sound}
use Rattle.bk_machine.proofs.CutRuns.{run-cut, run-leaves, run-stays}
use Rattle.bk_machine.proofs.Cutting.{OpenOwn, OpensOwn, open-before, open-done-all}
use Rattle.bk_machine.proofs.Settled.{crash-settles, whole-front}
use Rattle.bk_machine.specs.Settled.{IsSettledTo}
use Rattle.bk_machine.specs.SettledLaws.{counts-end, idle-is, settled-same}
use Rattle.bk_machine.proofs.statements.Each.{statement-does}
use Rattle.bk_machine.proofs.statements.Facts.{all-take}
use Rattle.bk_machine.specs.ReadyLaws.{nothing-pends}
use Rattle.bk_machine.proofs.statements.Running.{RunsWell, Within, may-front, within-well}

-- ---- statements

module _ (w : World) (s : ScriptEntry) (now : ℕ) (outcome : Outcome) (sound : IsSound w) (may : May w s now outcome) (k : ℕ) where
  pub front-sound : IsSound (done_all w (take k outcome.acts))
  front-sound = acts-sound w (take k outcome.acts) sound (may-front w outcome.acts k (statement-does w sound s now outcome may))

-- ---- what is left where nothing is lost

-- a line is left as it is
line-same : (line : RecordLine) (w : World) → IsSoundLine w line → LineLeft line line
line-same line w is = record { branch = refl; kept = line.records; lost = []; undoing = []; splits = sym (append-nil line.records); quiet = tt; is = sym (append-nil line.records); rises = is.rises; undoes = tt }

lines-same : (w : World) (lines : RecordLines) → AllByRecursion (IsSoundLine w) lines → AllZip LineLeft lines lines
lines-same w [] all = tt
lines-same w (line ∷ lines) all = (line-same line w all.0, lines-same w lines all.1)

module _ (before whole cut : World) (counter : ℕ) (sound : IsSound cut) (idle : AreIdle cut) where
  status-same : (db : Database) → IsIdle db → IsWholeDatabase cut db → OpenBy cut.history db → (db.status ≡ Online → IsCutOf before whole cut db)
      → (s : Status) → db.status ≡ s → StatusLeft s before whole cut (restarted counter cut) (open_begins before db) db db
  unfolding restarted
  status-same db own one opens at Online up =
      let its : AreOpen (log_of cut.history db) db.end db.transactions = opens.online up in
      let none : pending (log_of cut.history db) ≡ [] = nothing-pends (log_of cut.history db) db.end (subst (AreOpen (log_of cut.history db) db.end) own.transactions its) in
      let end : db.end ≡ 1 + length (log_of cut.history db) = counts-end 1 db.end (log_of cut.history db) one.log.counts in record {
        log = record { kept = log_of cut.history db; lost = []; splits = sym (append-nil (log_of cut.history db)); of_open = tt; quiet = tt; loads = its.loads; is = settled-same (log_of cut.history db) none };
        of_some = tt;
        end = end;
        goes_on = (one.online up).goes_on;
        bound = (let within : db.end ≤ greatest_end before whole db = (at up).end in omega (arith, within));
        numbers = (let left : db.end + length (pending (log_of cut.history db)) ≤ last_number = (at up).numbers in omega (arith, left));
      }
  status-same db own one opens at (Standby file) down = record { log = refl; end = refl }
  status-same db own one opens at Down down = record { log = refl; end = refl }

  databases-same : (dbs : List Database) → AllByRecursion IsIdle dbs → AllByRecursion (IsWholeDatabase cut) dbs → AllByRecursion (OpenBy cut.history) dbs
      → AllByRecursion (λ (db : Database). db.status ≡ Online → IsCutOf before whole cut db) dbs → AllZip (DatabaseLeft before whole cut (restarted counter cut)) dbs dbs
  databases-same [] own one opens at = tt
  databases-same (db ∷ dbs) own one opens at =
      (record { same = idle-is db own.0; log = status-same db own.0 one.0 opens.0 at.0 db.status refl }, databases-same dbs own.1 one.1 opens.1 at.1)

  world-same : AllByRecursion (λ (db : Database). db.status ≡ Online → IsCutOf before whole cut db) cut.databases → cut.counter ≤ counter → counter ≤ cut.counter + 1024 → WorldLeft before whole cut (restarted counter cut)
  unfolding restarted
  world-same at no_less no_more = record {
    instance = refl;
    no_less = no_less;
    no_more = no_more;
    lines = lines-same cut cut.history sound.whole.lines;
    others = λ branch none. refl;
    databases = databases-same cut.databases idle sound.whole.databases sound.opens at;
    media = refl;
    standbys = refl;
    backups = refl;
    restores = refl;
    marks = refl;
    session = refl;
    sessions = refl;
    closed = refl;
  }

-- ---- runs

module _ (old : World) (outcomes : List Outcome) (n k : ℕ) (sound : IsSound old) (run : RunsWell old outcomes) where
  here : Within old outcomes n
  here = within-well old outcomes n sound run

  pub between-sound : IsSound (cut_between old outcomes n k)
  between-sound = acts-sound (behind_all old (take n outcomes)) (take k (next_acts (drop n outcomes))) here.sound (may-front (behind_all old (take n outcomes)) (next_acts (drop n outcomes)) k here.well.may)

  -- what is open there is of what was open before the statement, or of the statement itself
  pub between-open : AllByRecursion (OpenOwn (behind_all old (take n outcomes))) (cut_between old outcomes n k).databases
  between-open =
      let before : World = behind_all old (take n outcomes) in
      let acts : List Act = next_acts (drop n outcomes) in
      open-done-all before before (take k acts) here.sound (may-front before acts k here.well.may) (all-take (OpensOwn before) k acts here.well.opens) (open-before before here.sound.whole.different)

  -- a run is cut there
  cuts : (least : ℕ) → least ≤ n → n ≤ length outcomes → CutsRun old outcomes least (behind_all old (take n outcomes)) (cut_between old outcomes n k) (done_all (behind_all old (take n outcomes)) (next_acts (drop n outcomes)))
  cuts least enough within = record {
    done = n;
    enough = enough;
    within = within;
    acts = k;
    records = 0;
    quiet = tt;
    is_before = refl;
    is_cut = ap (done_all (behind_all old (take n outcomes))) (sym (append-nil (take k (next_acts (drop n outcomes)))));
    is_whole = refl;
  }

  pub between-leaves : (least counter : ℕ) → AreIdle (cut_between old outcomes n k) → least ≤ n → n ≤ length outcomes → (cut_between old outcomes n k).counter ≤ counter → counter ≤ (cut_between old outcomes n k).counter + 1024 → Leaves old outcomes least (restarted counter (cut_between old outcomes n k))
  between-leaves least counter idle enough within no_less no_more =
      let before : World = behind_all old (take n outcomes) in
      let whole : World = done_all before (next_acts (drop n outcomes)) in record {
        before = before;
        cut = cut_between old outcomes n k;
        whole = whole;
        cuts = cuts least enough within;
        world = world-same before whole (cut_between old outcomes n k) counter between-sound idle
            (run-cut old outcomes least before (cut_between old outcomes n k) whole sound run (cuts least enough within)) no_less no_more;
      }

  -- where nothing is lost, a crash may leave the world there, with all undone that is pending in it
  pub between-settled : (least counter : ℕ) → least ≤ n → n ≤ length outcomes → (cut_between old outcomes n k).counter ≤ counter → counter ≤ (cut_between old outcomes n k).counter + 1024
      → (left : World) × Leaves old outcomes least left × (left.counter ≡ counter) × IsSettledTo (cut_between old outcomes n k) left
  between-settled least counter enough within no_less no_more =
      let before : World = behind_all old (take n outcomes) in
      let cut : World = cut_between old outcomes n k in
      let whole : World = done_all before (next_acts (drop n outcomes)) in
      let its : CutsRun old outcomes least before cut whole = cuts least enough within in
      let rest = run-stays old outcomes least before cut whole sound run its (log_of cut.history) counter (whole-front before cut between-sound) no_less no_more in
      (rest.0, record { before = before; cut = cut; whole = whole; cuts = its; world = rest.1 }, rest.2, crash-settles before whole cut rest.0 between-sound.whole rest.1 rest.3)

  -- for any fronts of its logs there, behind which only what was open is lost, a crash may leave a world in which they are settled
  pub between-fronts : (least counter : ℕ) (kept : Database → List Logged) → least ≤ n → n ≤ length outcomes
      → AllByRecursion (λ (db : Database). db.status ≡ Online → IsFront (behind_all old (take n outcomes)) (cut_between old outcomes n k) db (kept db)) (cut_between old outcomes n k).databases
      → (cut_between old outcomes n k).counter ≤ counter → counter ≤ (cut_between old outcomes n k).counter + 1024
      → (left : World) × Leaves old outcomes least left × (left.counter ≡ counter)
      × AllZip (λ (now new : Database). now.status ≡ Online → log_of left.history new ≡ settled (kept now)) (cut_between old outcomes n k).databases left.databases
  between-fronts least counter kept enough within fronts =
      run-leaves old outcomes least (behind_all old (take n outcomes)) (cut_between old outcomes n k) (done_all (behind_all old (take n outcomes)) (next_acts (drop n outcomes))) sound run (cuts least enough within) kept counter fronts
