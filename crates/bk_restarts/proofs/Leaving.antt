-- Files that hold what a crash leaves inside of a statement stand for a world that a crash may leave.
use Rattle.std.proofs.Common.{◌≡◌, ℕ, true, false, List, [], ◌∷◌, ◌++◌, inr, map, sym, ap, subst, ◌∙◌}
use Rattle.std.specs.Prelude.{◌≢◌}
use Rattle.std.specs.List.{AllByRecursion, AllZip}
use Rattle.bk_archive.specs.MediaLaws.{media-same}
use Rattle.bk_device.specs.Disk.{Files}
use Rattle.bk_engine.specs.Loading.{PendsInOrder, Stands}
use Rattle.bk_engine.specs.Rows.{rows_in}
use Rattle.bk_engine.specs.Stands.{Covers}
use Rattle.bk_hosted.specs.Fronts.{AreFronts, IsFrontOf, SameRows, Waits, settling}
use Rattle.bk_hosted.specs.Hosted.{Hosted, Hosts, database_of, is_up}
use Rattle.bk_engine.specs.Hosting.{LosesWaiting}
use Rattle.bk_lemmas.specs.Lists.{all_mapped}
use Rattle.bk_machine.specs.Crash.{open_begins}
use Rattle.bk_machine.specs.Outcome.{Outcome}
use Rattle.bk_machine.specs.Same.{SameMedia}
use Rattle.bk_machine.specs.Sound.{IsSound}
use Rattle.bk_machine.specs.statements.Restore.{is_online}
use Rattle.bk_machine.specs.World.{World}
use Rattle.bk_msdb.specs.Msdb.{Shows}
use Rattle.bk_restarts.proofs.Cuts.{OpensAt}
use Rattle.bk_restarts.proofs.Logs.{PendsUp, hosted-pend}
use Rattle.bk_restarts.proofs.Runs.{IsCuttable, cuts-there, opens-there}
use Rattle.bk_restarts.specs.Crashes.{LeavesFrom}
use Rattle.bk_world.specs.declared.database.Status.TheVariants.{Online}
use Rattle.bk_world.specs.declared.msdb.BackupRow.{BackupRow}
use Rattle.bk_world.specs.declared.msdb.MarkRow.{MarkRow}
use Rattle.bk_world.specs.declared.msdb.RestoreRow.{RestoreRow}
use Rattle.bk_world.specs.declared.transaction.Open.{Open}
use Rattle.bk_world.specs.Cut.{is_among}
use Rattle.bk_world.specs.Records.{Logged}
use Rattle.bk_world.specs.SoundLogs.{NoLoadPends}

-- ---- fronts

-- what waits may be lost
abbrev pub FrontLaw : Type 0
FrontLaw = (begins : List ℕ) (h : Hosted) (records lost : List Logged) → h.records ≡ records ++ lost → AllByRecursion (Waits h.transactions) lost → AllByRecursion (λ (t : Open). is_among begins t.begin ≡ true) h.transactions
    → (is_up h ≡ true → NoLoadPends records) → (is_up h ≡ false → h.transactions ≡ []) → IsFrontOf begins h (record h { records = records })

-- what a crash leaves of a database is a front of it, behind which what was open is lost
front-of : FrontLaw → (before : World) (h front : Hosted) → OpensAt before (database_of h) → PendsUp front → LosesWaiting h front → IsFrontOf (open_begins before (database_of h)) h front
front-of law before h front opens pends loses =
    subst (IsFrontOf (open_begins before (database_of h)) h) (sym loses.same)
    (law (open_begins before (database_of h)) h front.records loses.lost loses.splits loses.waits opens.among (λ up. (pends (ap is_up loses.same ∙ up)).loads) (λ down. opens.idle (offline down)))
  where
    offline : is_up h ≡ false → h.points.status ≢ Online
    offline down on = let up : is_up h ≡ true = ap is_online on in cc

all-fronts : FrontLaw → (before : World) (hosted fronts : List Hosted) → AllByRecursion (OpensAt before) (map database_of hosted) → AllByRecursion PendsUp fronts → AllZip LosesWaiting hosted fronts → AreFronts before hosted fronts
all-fronts law before [] [] opens pends loses = tt
all-fronts law before [] (front ∷ fronts) opens pends loses = absurd loses
all-fronts law before (h ∷ hosted) [] opens pends loses = absurd loses
all-fronts law before (h ∷ hosted) (front ∷ fronts) opens pends loses = (front-of law before h front opens.0 pends.0 loses.0, all-fronts law before hosted fronts opens.1 pends.1 loses.1)

-- ---- worlds

-- the rows of msdb, as their file shows them
rows-same : (cut left : World) → SameRows cut left → rows_in cut ≡ rows_in left
unfolding rows_in
rows-same cut left same =
    ap (λ (bs : List BackupRow). record { backups = bs; restores = cut.restores; marks = cut.marks }) (sym same.backups)
    ∙ ap (λ (rs : List RestoreRow). record { backups = left.backups; restores = rs; marks = cut.marks }) (sym same.restores)
    ∙ ap (λ (ms : List MarkRow). record { backups = left.backups; restores = left.restores; marks = ms }) (sym same.marks)

-- the world in which these are settled is one for which the files stand
left-stands : (number : ℕ) (cut left : World) (image : Files) → (covers : Covers cut image) → IsSound left → left.closed ≡ false → left.counter ≡ covers.own.counter → Hosts left (map settling covers.left.0) → SameMedia cut left → SameRows cut left → Stands number image left
left-stands number cut left image covers sound still counter hosts media rows = record {
  sound = sound;
  own = covers.own;
  instance = media.instance ∙ covers.instance;
  counter = counter;
  hosted = covers.left.0;
  pends = all_mapped PendsUp PendsInOrder (λ h pends up. (pends up).rise) covers.left.0 (hosted-pend covers.own image covers.left.0 covers.left.2);
  hosts = hosts;
  holds = inr covers.left.2;
  media = media-same cut left covers.own.making image media covers.media;
  rows = subst (Shows image) (rows-same cut left rows) covers.rows;
  finished = λ closed. absurd (cc);
}

pub leaves-from : FrontLaw → (number : ℕ) (old : World) (outcomes : List Outcome) → IsCuttable old outcomes → LeavesFrom number old outcomes
leaves-from law number old outcomes run least n image enough within is =
    let covers = is.covers in
    let fronts : List Hosted = covers.left.0 in
    let opens = subst (AllByRecursion (OpensAt _)) covers.hosts.same (opens-there old outcomes run least n enough within is.done is.records) in
    let left = run.fronts least _ _ _ covers.hosted fronts covers.own.counter (cuts-there old outcomes run least n enough within is.done is.records) covers.hosts
    (all-fronts law _ covers.hosted fronts opens (hosted-pend covers.own image fronts covers.left.2) covers.left.1) covers.no_less covers.no_more in
    (left.0, left.1, left-stands number _ left.0 image covers (run.sound_left least left.0 left.1) left.1.world.closed left.2 left.3 left.4 left.5)
