-- RESTORE DATABASE as it is planned.
use Rattle.std.proofs.Common.{◌≡◌, ℕ, ◌+◌, true, false, ◌||◌, List, [], length, Option, None, Some, Result, Ok, Err, refl, sym, ◌∙◌, ap, subst}
use Rattle.std.specs.Prelude.{◌∷◌, IfOk, filter, max, min, nat_le, not}
use Rattle.std.specs.Str.{bytes_eq}
use Rattle.bk_header.specs.Conditions.{IsHeader}
use Rattle.bk_hosted.specs.Hosted.{bringing_up}
use Rattle.bk_ids.specs.Name.{lowered}
use Rattle.bk_ids.specs.declared.guid.Guid.{Guid}
use Rattle.bk_items.specs.declared.item.RestoredUnits.{RestoredUnits}
use Rattle.bk_items.specs.declared.item.ScriptEntry.{ScriptEntry}
use Rattle.bk_items.specs.declared.item.ScriptItem.TheVariants as script
use Rattle.bk_items.specs.declared.options.RestoreOptions.{RestoreOptions}
use Rattle.bk_machine.specs.Acts.{Act, Recovery, drawn, latest, replaced}
use Rattle.bk_machine.specs.CheckLaws.{not-refused, passed, second-false}
use Rattle.bk_machine.specs.Checks.{different_paths, limit, most_branches, free_paths, others, outside, paths_of, refuse_if, used_up}
use Rattle.bk_machine.specs.declared.history_row.HistoryRow.TheVariants.{Restore}
use Rattle.bk_machine.specs.Machine.{May}
use Rattle.bk_machine.specs.MayDo.{MayDoAll}
use Rattle.bk_machine.specs.NamedLaws.{name-of-named}
use Rattle.bk_machine.specs.Outcome.{refused}
use Rattle.bk_machine.specs.SetAtLaws.{set-in}
use Rattle.bk_machine.specs.Sound.{IsSound, IsSoundSet, SetIn, files_of_set}
use Rattle.bk_machine.specs.World.{World, Database, database_named}
use Rattle.bk_machine.specs.statements.Restore.{DoesRestore, Recovers, check_family, check_moves, check_number, check_restore, check_room, check_set, check_tail, check_unused, disk_path, is_recovery, moved, name_known, position_of, restored_row, set_at, restored_whole, set_paths, whole_restore}
use Rattle.bk_shown.specs.Shown.{ArePlaced, LogKeeps}
use Rattle.bk_world.specs.declared.database.FileSpec.{FileSpec}
use Rattle.bk_world.specs.declared.header.Header.{Header}
use Rattle.bk_world.specs.declared.msdb.RestoreKind.TheVariants.{Set}
use Rattle.bk_world.specs.declared.msdb.RestoreRow.{RestoreRow}
use Rattle.bk_world.specs.declared.rule.Rule.{Rule}
use Rattle.bk_world.specs.declared.rule.Limit.TheVariants.{Lsn}
use Rattle.bk_world.specs.declared.rule.Rule.TheVariants.{LimitReached, NotBuilt, PathFull}
use Rattle.bk_world.specs.Lines.{log_below}
use Rattle.bk_world.specs.Medium.{medium_at}
use Rattle.bk_world.specs.Pending.{Pending, pending}
use Rattle.bk_world.specs.Records.{Counts, Logged}
use Rattle.bk_world.specs.SoundLogs.{IsSound as IsSoundLog, NoLoadPends}
use Rattle.bk_world.specs.Telling.{time}
use Rattle.bk_kept.specs.declared.kept.Kept.{Kept}
use Rattle.bk_plans.specs.declared.parts.Plan.{Plan}
use Rattle.bk_plans.specs.declared.parts.Plan.TheVariants.{Refused}
use Rattle.bk_plans.specs.declared.refusal.Refusal.{Refusal}
use Rattle.bk_plans.specs.declared.refusal.Refusal.TheVariants.{Broken, NoMemory}
use Rattle.bk_plans.specs.Checking.{IsRefused}
use Rattle.bk_kept.specs.Keeps.{Sees}
use Rattle.bk_plans.specs.Planned.{IsRefusedBy}
use Rattle.bk_plans.specs.Planning.{KeepsRow, Plans}
use Rattle.bk_media_plans.proofs.Recoveries.{recovery_of}
use Rattle.bk_media_plans.specs.declared.restore_plan.RestorePlan.{RestorePlan}
use Rattle.bk_media_plans.specs.declared.restore_plan.RestorePlan.TheVariants as restore
use Rattle.bk_media_plans.specs.Found.{Found, FindsSet, IsFit, KeepsFound, moved_set}
use Rattle.bk_media_plans.specs.RestorePlans.{AreNotedRestore, AreOfRestore, KeepsRestore, KeepsSet, PlansRestore}
use Rattle.bk_media_plans.specs.Restoring.{IsOfRestore, IsRefusedRestore, LeavesRecovery, RestoresWhole, is_built, row_by}
use Rattle.bk_media_plans.proofs.FoundSets.{keeps-found, keeps-set, set-pending, set-placed, set-tables}
use Rattle.bk_plans.specs.PlanLaws.{DoWhatTheyMay, comes-found, comes-refused, plans-refused, plans-refusal}

-- The set.

-- a set on a medium of a sound world is sound
abbrev pub SetsSound : Type 0
SetsSound = (w : World) (path : List ℕ) (header : Header) → IsSound w → SetIn w path header → IsSoundSet w header

-- the laws of worlds and logs
pub record Laws : Type 0 where
  pub sets : SetsSound
  pub may : DoWhatTheyMay
  pub recovers : (rs : List Logged) (end : ℕ) (branch : Guid) → Counts 1 rs end → IsSoundLog rs → NoLoadPends rs → Recovers rs (recovery_of end branch (pending rs))
  pub keeps : (files : List FileSpec) (rs : List Logged) (end : ℕ) → Counts 1 rs end → IsSoundLog rs → ArePlaced files [] rs → LogKeeps rs end

-- Checks.

-- A set that passed its checks: no other database has the path of one of its files, and numbers are left.
record Passes (w : World) (name : List ℕ) (header : Header) : Type 0 where
  unused : free_paths (paths_of (others w.databases name)) (set_paths header) ≡ Ok tt
  left : (used_up header.last || used_up w.counter) ≡ false

room-passes : (w : World) (name : List ℕ) (header taken : Header) → check_room w name header ≡ Ok taken → Passes w name header
unfolding check_room
room-passes w name header taken e =
    let free = passed (free_paths (paths_of (others w.databases name)) (set_paths header)) _ taken e in
    let different = passed (different_paths [] (set_paths header)) _ taken free.then in
    let path = passed (refuse_if (nat_le most_branches (length header.path)) PathFull) _ taken different.then in
    let numbers = passed (limit (used_up header.last || used_up w.counter)) _ taken path.then in
    record {
      unused = free.is;
      left = not-refused (used_up header.last || used_up w.counter) (LimitReached Lsn) numbers.found numbers.is;
    }

set-passes : (w : World) (name : List ℕ) (options : RestoreOptions) (header taken : Header) → check_set w name options header ≡ Ok taken → Passes w name (moved options.moves header)
unfolding check_set
set-passes w name options header taken e =
    let own = passed (check_unused (database_named w.databases name)) _ taken e in
    let family = passed (check_family (database_named w.databases name) options.replace header) _ taken own.then in
    let moves = passed (check_moves header options.moves) _ taken family.then in
    let tail = passed (check_tail w (database_named w.databases name) options.replace) _ taken moves.then in
    let number = passed (check_number w.databases (database_named w.databases name)) _ taken tail.then in
    room-passes w name (moved options.moves header) taken number.then

-- the databases of other names are the same under the name that is known
others-known : (dbs : List Database) (asked : List ℕ) → others dbs (name_known (database_named dbs asked) asked) ≡ others dbs asked
others-known dbs asked = by (database_named dbs asked) refl
  where
    by : (o : Option Database) → database_named dbs asked ≡ o → others dbs (name_known o asked) ≡ others dbs asked
    by None is = refl
    by (Some db) is = ap (λ (name : List ℕ). filter (λ (d : Database). not (bytes_eq (lowered d.name) name)) dbs) (name-of-named dbs asked db is)

module _ (line : ℕ) (name : List ℕ) (units : RestoredUnits) (disk : Option (List ℕ)) (options : RestoreOptions) where
  not-built : (w : World) → is_built name units disk options ≡ false → check_restore w line name units disk options ≡ Err (NotBuilt line)
  unfolding check_restore
  not-built w is = rw is refl

  -- so it is refused, at each moment
  pub unbuilt-refused : (w : World) (now : ℕ) → is_built name units disk options ≡ false → May w (record { item = script.RestoreDatabase name units disk options; line = line }) now (refused (NotBuilt line))
  unfolding May
  unbuilt-refused w now is = comes-refused (check_restore w line name units disk options) (DoesRestore w name options now) (NotBuilt line) (not-built w is)

  built-inside : (w : World) (refusal : Refusal) → is_built name units disk options ≡ true → IsRefused refusal (outside w) → IsRefused refusal (check_restore w line name units disk options)
  unfolding check_restore
  built-inside w (Broken rule) is inside = rw (is, inside) refl
  built-inside w NoMemory is inside = tt

  built-none : (w : World) (rule : Rule) → is_built name units disk options ≡ true → outside w ≡ Ok tt → set_at (position_of options.file) (medium_at w.media (disk_path disk)) ≡ Err rule → check_restore w line name units disk options ≡ Err rule
  unfolding check_restore
  built-none w rule is out none = rw (is, out, none) refl

  built-checked : (w : World) (header : Header) → is_built name units disk options ≡ true → outside w ≡ Ok tt → set_at (position_of options.file) (medium_at w.media (disk_path disk)) ≡ Ok header
      → check_restore w line name units disk options ≡ check_set w name options header
  unfolding check_restore
  built-checked w header is out there = rw (is, out, there) refl

-- The row.

-- the row that is made is the machine's where a set is finished at the last time in its log
same-row : (w : World) (now : ℕ) (name : List ℕ) (options : RestoreOptions) (header : Header) → header.finish ≡ time (log_below w.history header.path header.last) → row_by now name options header ≡ restored_row w now name options header
unfolding restored_row
same-row w now name options header finish =
    ap (λ (t : ℕ). record { time = max (min now latest) t; database = name; set = header.set; kind = Set header.kind; replace = options.replace; recovery = is_recovery options.ending; stop = None }) finish

-- The plan.

module _ (k : Kept) (line now : ℕ) (name : List ℕ) (units : RestoredUnits) (disk : Option (List ℕ)) (options : RestoreOptions) where
  -- the statement
  abbrev asked : ScriptEntry
  asked = record { item = script.RestoreDatabase name units disk options; line = line }

  -- a restore that is refused
  restore-refused : (found : Result Found Rule) (rule : Rule) → Plans k (FindsSet (position_of options.file) disk found) asked now (Refused rule) → PlansRestore k (FindsSet (position_of options.file) disk found) options found asked now (restore.Refused rule)
  restore-refused found rule plans = record { outcome = plans.outcome; replies = plans.replies; may = plans.may; acts = plans.acts }

  refusal-plan : (found : Result Found Rule) (refusal : Refusal) (plan : RestorePlan) → IsRefusedRestore refusal plan → ((p : Plan) → IsRefusedBy refusal p → Plans k (FindsSet (position_of options.file) disk found) asked now p)
      → PlansRestore k (FindsSet (position_of options.file) disk found) options found asked now plan
  refusal-plan found (Broken rule) plan is plans = subst (PlansRestore k (FindsSet (position_of options.file) disk found) options found asked now) (sym is) (restore-refused found rule (plans (Refused rule) refl))
  refusal-plan found NoMemory plan is plans = absurd is

  pub inside-plan : (found : Result Found Rule) (refusal : Refusal) (plan : RestorePlan) → is_built name units disk options ≡ true → IsRefusedRestore refusal plan → ((w : World) → Sees w k → IsRefused refusal (outside w))
      → PlansRestore k (FindsSet (position_of options.file) disk found) options found asked now plan
  unfolding May
  inside-plan found refusal plan is by refuses = refusal-plan found refusal plan by
      (λ p by. plans-refusal k (FindsSet (position_of options.file) disk found) asked now (λ w. check_restore w line name units disk options) refusal p by
      (λ w sound sees known. built-inside line name units disk options w refusal is (refuses w sees)) (λ w rule e. comes-refused (check_restore w line name units disk options) (DoesRestore w name options now) rule e))

  none-then : (rule : Rule) → is_built name units disk options ≡ true → ((w : World) → Sees w k → outside w ≡ Ok tt) → Plans k (FindsSet (position_of options.file) disk (Err rule)) asked now (Refused rule)
  unfolding May
  none-then rule is out = plans-refused k (FindsSet (position_of options.file) disk (Err rule)) asked now rule
      (λ w sound sees known. comes-refused (check_restore w line name units disk options) (DoesRestore w name options now) rule (built-none line name units disk options w rule is (out w sees) known.is))

  pub none-plan : (found : Result Found Rule) (rule : Rule) → found ≡ Err rule → is_built name units disk options ≡ true → ((w : World) → Sees w k → outside w ≡ Ok tt)
      → PlansRestore k (FindsSet (position_of options.file) disk found) options found asked now (restore.Refused rule)
  none-plan found rule e is out =
      subst (λ (f : Result Found Rule). PlansRestore k (FindsSet (position_of options.file) disk f) options f asked now (restore.Refused rule)) (sym e) (restore-refused (Err rule) rule (none-then rule is out))

  pub refused-plan : (set : Found) (refusal : Refusal) (plan : RestorePlan) → is_built name units disk options ≡ true → ((w : World) → Sees w k → outside w ≡ Ok tt) → IsRefusedRestore refusal plan
      → ((w : World) → Sees w k → IsRefused refusal (check_set w name options set.header)) → PlansRestore k (FindsSet (position_of options.file) disk (Ok set)) options (Ok set) asked now plan
  unfolding May
  refused-plan set refusal plan is out by refuses = refusal-plan (Ok set) refusal plan by
      (λ p by. plans-refusal k (FindsSet (position_of options.file) disk (Ok set)) asked now (λ w. check_restore w line name units disk options) refusal p by
      (λ w sound sees known. subst (IsRefused refusal) (sym (built-checked line name units disk options w set.header is (out w sees) known.is)) (refuses w sees))
      (λ w rule e. comes-refused (check_restore w line name units disk options) (DoesRestore w name options now) rule e))

  module _ (set : Found) (to : List ℕ) (branch : Guid) (last : ℕ) (row : RestoreRow) (built : is_built name units disk options ≡ true) (out : (w : World) → Sees w k → outside w ≡ Ok tt) (laws : Laws)
      (passes : (w : World) → Sees w k → check_set w name options set.header ≡ Ok (moved options.moves set.header)) (of : IsOfRestore k name (moved_set options.moves set) to branch last) (row_is : row ≡ row_by now to options (moved options.moves set.header)) where
    -- the set as it is restored
    abbrev header : Header
    header = moved options.moves set.header

    -- what the recovery says
    abbrev its : Recovery
    its = recovery_of set.header.last branch of.ends.writes

    -- the log of the set's path
    abbrev log : World → List Logged
    log w = log_below w.history set.header.path set.header.last

    its-set : (w : World) → IsSound w → FindsSet (position_of options.file) disk (Ok set) w → IsSoundSet w set.header
    its-set w sound known = laws.sets w (disk_path disk) set.header sound (set-in w (disk_path disk) (position_of options.file) set.header known.is)

    its-writes : (w : World) → IsSound w → FindsSet (position_of options.file) disk (Ok set) w → of.ends.writes ≡ pending (log w)
    its-writes w sound known =
        let sound_set = its-set w sound known in
        of.ends.are (files_of_set set.header) (log w) set.header.first set.header.last sound_set.log.counts sound_set.log.sound (set-placed w set known.carries) (set-pending w set known.carries sound_set)

    its-recovers : (w : World) → IsSound w → FindsSet (position_of options.file) disk (Ok set) w → Recovers (log w) its
    its-recovers w sound known =
        let sound_set = its-set w sound known in
        let kept = laws.keeps (files_of_set set.header) (log w) set.header.last sound_set.log.counts sound_set.log.sound (set-placed w set known.carries) in
        subst (λ ws. Recovers (log w) (recovery_of set.header.last branch ws)) (sym (its-writes w sound known)) (laws.recovers (log w) set.header.last branch sound_set.log.counts sound_set.log.sound kept.loads)

    its-branch : (w : World) → Sees w k → branch ≡ drawn w w.counter
    its-branch w sees =
        let next : record { high = k.number; low = k.counter } ≡ drawn w w.counter = λ x. record { high = sym sees.number x; low = sym sees.counter x } in
        of.branch_is ∙ next

    -- its row is the machine's
    its-row : (w : World) → IsSound w → FindsSet (position_of options.file) disk (Ok set) w → row ≡ restored_row w now to options header
    its-row w sound known = row_is ∙ same-row w now to options header (its-set w sound known).finish

    its-outcome : (w : World) → IsSound w → Sees w k → FindsSet (position_of options.file) disk (Ok set) w
        → restored_whole to header its row ≡ restored_whole (name_known (database_named w.databases name) name) header its (restored_row w now (name_known (database_named w.databases name) name) options header)
    its-outcome w sound sees known =
        ap (restored_whole to header its) (its-row w sound known) ∙ ap (λ (n : List ℕ). restored_whole n header its (restored_row w now n options header)) (of.known w sees)

    may-restore : (w : World) → IsSound w → Sees w k → FindsSet (position_of options.file) disk (Ok set) w → May w asked now (restored_whole to header its row)
    unfolding May
    may-restore w sound sees known =
        let checked : check_restore w line name units disk options ≡ Ok header =
        built-checked line name units disk options w set.header built (out w sees) known.is ∙ passes w sees in
        comes-found (check_restore w line name units disk options) (DoesRestore w name options now) header (restored_whole to header its row) checked (
          its,
          refl,
          its-branch w sees,
          its-recovers w sound known,
          its-outcome w sound sees known,
        )

    its-passes : (w : World) → Sees w k → Passes w name header
    its-passes w sees = set-passes w name options set.header header (passes w sees)

    -- no other database has the path of one of its files
    its-unused : (w : World) → Sees w k → free_paths (paths_of (others w.databases to)) (set_paths header) ≡ Ok tt
    its-unused w sees =
        let same : others w.databases to ≡ others w.databases name = ap (others w.databases) (of.known w sees) ∙ others-known w.databases name in
        ap (λ (dbs : List Database). free_paths (paths_of dbs) (set_paths header)) same ∙ (its-passes w sees).unused

    -- the acts that bring it up, and all of its acts
    abbrev bringing : List Act
    bringing = replaced to header ∷ bringing_up to header its

    acts-may : (w : World) → IsSound w → Sees w k → FindsSet (position_of options.file) disk (Ok set) w → MayDoAll w (whole_restore to header its row)
    acts-may w sound sees known = laws.may w asked now (restored_whole to header its row) sound (may-restore w sound sees known)

    brings-up : (w : World) → IsSound w → Sees w k → FindsSet (position_of options.file) disk (Ok set) w → AreOfRestore w (moved_set options.moves set) to branch last bringing
    brings-up w sound sees known =
        let writes : of.ends.writes ≡ pending (log w) = its-writes w sound known in
        let may : MayDoAll w (whole_restore to header its row) = acts-may w sound sees known in
        record {
          are = ap (λ ws. replaced to header ∷ bringing_up to header (recovery_of set.header.last branch ws)) writes;
          may = (may.0, (may.1.0, (may.1.1.0, tt)));
          last_is = of.ends.last_is ∙ ap (λ (ws : List Pending). set.header.last + length ws) writes;
          tables_are = set-tables w set known.carries;
          unused = its-unused w sees;
          draws = second-false (used_up header.last) (used_up w.counter) (its-passes w sees).left;
        }

    acts-are : (w : World) → IsSound w → Sees w k → FindsSet (position_of options.file) disk (Ok set) w → AreNotedRestore w now options (moved_set options.moves set) to branch last row (whole_restore to header its row)
    acts-are w sound sees known = record {
      bringing = bringing;
      of = brings-up w sound sees known;
      are = refl;
      row_is = its-row w sound known;
    }

  pub whole-plan : (set : Found) (plan : RestorePlan) → is_built name units disk options ≡ true → ((w : World) → Sees w k → outside w ≡ Ok tt) → Laws
      → ((w : World) → Sees w k → check_set w name options set.header ≡ Ok (moved options.moves set.header)) → RestoresWhole k name now options (moved_set options.moves set) plan
      → PlansRestore k (FindsSet (position_of options.file) disk (Ok set)) options (Ok set) asked now plan
  whole-plan set (restore.BringsUp to branch last _ row) built out laws passes (same, is, row_is) =
      subst (λ (h : Header). PlansRestore k (FindsSet (position_of options.file) disk (Ok set)) options (Ok set) asked now (restore.BringsUp to branch last h row)) (sym same) (record {
        outcome = restored_whole to (moved options.moves set.header) (recovery_of set.header.last branch is.ends.writes) row;
        replies = refl;
        may = λ w sound sees known. may-restore set to branch last row built out laws passes is row_is w sound sees known;
        acts = λ w sound sees known. acts-are set to branch last row built out laws passes is row_is w sound sees known;
      })
  whole-plan set (restore.Refused rule) built out laws passes is = absurd is

-- A set that is found in a sound world leaves numbers for its recovery.

pub leaves-recovery : SetsSound → (position : ℕ) (disk : Option (List ℕ)) (set : Found) (w : World) → IsSound w → FindsSet position disk (Ok set) w → LeavesRecovery set.log set.header.last
leaves-recovery sets position disk set w sound known =
    let sound_set : IsSoundSet w set.header = sets w (disk_path disk) set.header sound (set-in w (disk_path disk) (position) set.header known.is) in
    record {
      files = files_of_set set.header;
      log = log_below w.history set.header.path set.header.last;
      first = set.header.first;
      counts = sound_set.log.counts;
      sound = sound_set.log.sound;
      placed = set-placed w set known.carries;
      holds = set-pending w set known.carries sound_set;
      numbers = sound_set.numbers;
    }

-- and it keeps what every set keeps
pub kept-found : SetsSound → (position : ℕ) (disk : Option (List ℕ)) (set : Found) (w : World) → IsSound w → FindsSet position disk (Ok set) w → KeepsFound set
kept-found sets position disk set w sound known = keeps-found w set known.carries (sets w (disk_path disk) set.header sound (set-in w (disk_path disk) (position) set.header known.is))

-- What its plan keeps.

-- two things that hold of a plan, if there is one
pub with-both : {T E : Type 0} (P Q : T → Type 0) (r : Result T E) → IfOk r P → IfOk r Q → IfOk r (λ x. P x × Q x)
with-both P Q (Ok x) p q = (p, q)
with-both P Q (Err e) p q = tt

pub keeps-restore : (k : Kept) (asked : List ℕ) (now : ℕ) (options : RestoreOptions) (set : Found) (plan : RestorePlan) → RestoresWhole k asked now options (moved_set options.moves set) plan → IsFit (moved_set options.moves set)
    → KeepsRestore options (Ok set) plan
keeps-restore _ _ now options set (restore.Refused rule) whole fits = tt
keeps-restore _ _ now options set (restore.BringsUp name branch last _ row) (same, of, row_is) fits = record {
  is_moved = same;
  is_header = subst IsHeader (sym same) fits.header;
  room = subst (λ (h : Header). KeepsSet h set.tables) (sym same) (keeps-set (moved_set options.moves set) fits.keeps);
  keeps_row = subst (λ (r : RestoreRow). KeepsRow (Restore r)) (sym row_is) tt;
}

pub refused-keeps : (options : RestoreOptions) (found : Result Found Rule) (refusal : Refusal) (plan : RestorePlan) → IsRefusedRestore refusal plan → KeepsRestore options found plan
refused-keeps options found (Broken rule) plan is = subst (KeepsRestore options found) (sym is) tt
refused-keeps options found NoMemory plan is = absurd is
