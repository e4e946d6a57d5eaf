-- RESTORE DATABASE takes over a set of a medium, and recovers it at its end.
use Rattle.std.proofs.Common.{◌≡◌, ◌<◌, ◌≤◌, inr, ℕ, min, Bool, true, false, List, [], length, Option, None, Some, refl, sym, subst, arith}
use Rattle.std.specs.Prelude.{◌&&◌, ◌||◌, is_none, nat_le, not, Ok}
use Rattle.std.specs.List.{list_all}
use Rattle.std.proofs.Math.Nat.{min-le_right}
use Rattle.std.proofs.lemmas.Bool.Decides.{nat_tests}
use Rattle.bk_items.specs.declared.item.RestoredUnits.{RestoredUnits}
use Rattle.bk_items.specs.declared.options.FileMove.{FileMove}
use Rattle.bk_items.specs.declared.options.RestoreOptions.{RestoreOptions}
use Rattle.bk_world.specs.declared.database.State.TheVariants as state
use Rattle.bk_world.specs.declared.header.Header.{Header}
use Rattle.bk_world.specs.declared.msdb.RestoreRow.{RestoreRow}
use Rattle.bk_world.specs.declared.rule.Limit.TheVariants.{Lsn}
use Rattle.bk_world.specs.declared.rule.Rule.TheVariants.{LimitReached, NotBuilt, PathFull}
use Rattle.bk_world.specs.Lines.{log_below}
use Rattle.bk_world.specs.Medium.{medium, medium_at, readable}
use Rattle.bk_world.specs.Records.{Logged}
use Rattle.bk_world.specs.SoundLogs.{NoLoadPends}
use Rattle.bk_lemmas.specs.Tests.{first_false}
use Rattle.bk_machine.specs.Acts.{Recovery, done, drawn, taken_over, units_in}
use Rattle.bk_machine.specs.Checks.{different_paths, free_paths, is_name, is_path, kept_numbers, limit, most_branches, others, outside, paths_of, refuse_if, used_up}
use Rattle.bk_machine.specs.MayDo.{MayDoAll}
use Rattle.bk_machine.specs.Sound.{IsSound, IsSoundSet, SetIn, files_of_set}
use Rattle.bk_machine.specs.World.{World, Database, database_named, log_to, with_new_database}
use Rattle.bk_machine.specs.statements.Restore.{DoesRestore, Recovers, base_of, check_family, check_moves, check_number, check_restore, check_room, check_set, check_tail, check_unused, disk_path, is_move, is_plain, is_recovery, is_whole_restore, lists_none, moved, name_known, position_of, restored_row, restored_whole, set_at, set_paths, whole_restore}
use Rattle.bk_machine.specs.Built.{IsBuilt, IsBuiltLog, IsBuiltReading, IsBuiltSlot}
use Rattle.bk_machine.specs.Outcome.{Outcome}
use Rattle.bk_machine.proofs.Happened.{of-medium}
use Rattle.bk_machine.proofs.Left.{of-contained}
use Rattle.bk_machine.proofs.LeftNumbers.{below-kept}
use Rattle.bk_machine.specs.MovedLaws.{moved-built, moved-sound}
use Rattle.bk_machine.proofs.Recovering.{no-load-pends, recovers, recovery}
use Rattle.bk_machine.proofs.statements.Facts.{Facts, NoMedium, facts-of}
use Rattle.bk_machine.proofs.Histories.{counts-positive}
use Rattle.bk_machine.specs.NamedLaws.{named-changed}
use Rattle.bk_machine.proofs.Sets.{set-sound}
use Rattle.bk_machine.specs.SetAtLaws.{set-in}
use Rattle.bk_machine.specs.CheckLaws.{not-refused, passed}
use Rattle.bk_machine.specs.FindingLaws.{found-new}
use Rattle.bk_machine.specs.ReadyLaws.{holds-of}

-- ---- the set

-- the numbers of a set aren't used up, and its path has room for a branch
record HasRoom (header : Header) : Type 0 where
  low : used_up header.last ≡ false
  branches : length header.path < most_branches

room-of : (w : World) (name : List ℕ) (header found : Header) → check_room w name header ≡ Ok found → (header ≡ found) × HasRoom header
unfolding check_room
room-of w name header found e =
    let one = passed (free_paths (paths_of (others w.databases name)) (set_paths header)) _ found e in
    let two = passed (different_paths [] (set_paths header)) _ found one.then in
    let three = passed (refuse_if (nat_le most_branches (length header.path)) PathFull) _ found two.then in
    let four = passed (limit (used_up header.last || used_up w.counter)) _ found three.then in
    let last = four.then in
    let same : header ≡ found = cc in
    let short : nat_le most_branches (length header.path) ≡ false = not-refused (nat_le most_branches (length header.path)) PathFull three.found three.is in (
      same,
      record {
        low = first_false (used_up header.last) (used_up w.counter) (not-refused (used_up header.last || used_up w.counter) (LimitReached Lsn) four.found four.is);
        branches = grind (arith, nat_tests, short);
      },
    )

set-of : (w : World) (name : List ℕ) (options : RestoreOptions) (set found : Header) → check_set w name options set ≡ Ok found → (moved options.moves set ≡ found) × HasRoom (moved options.moves set)
unfolding check_set
set-of w name options set found e =
    let one = passed (check_unused (database_named w.databases name)) _ found e in
    let two = passed (check_family (database_named w.databases name) options.replace set) _ found one.then in
    let three = passed (check_moves set options.moves) _ found two.then in
    let four = passed (check_tail w (database_named w.databases name) options.replace) _ found three.then in
    let five = passed (check_number w.databases (database_named w.databases name)) _ found four.then in
    room-of w name (moved options.moves set) found five.then

-- ---- the moves

whole-first : (a b c : Bool) → not (a && b && c) ≡ false → a ≡ true
whole-first true b c e = refl
whole-first false b c e = absurd cc

both-second : (a b : Bool) → (a && b) ≡ true → b ≡ true
both-second true b e = e
both-second false b e = absurd cc

fourth : (a b c d : Bool) → (a && b && c && d) ≡ true → d ≡ true
fourth true true true d e = e
fourth true true false d e = absurd cc
fourth true false c d e = absurd cc
fourth false b c d e = absurd cc

whole-moves : (units : RestoredUnits) (disk : Option (List ℕ)) (options : RestoreOptions) → is_whole_restore units disk options ≡ true → list_all is_move options.moves ≡ true
whole-moves units None options e = absurd cc
whole-moves units (Some disk) options e = fourth (is_recovery options.ending) (is_none options.stop) (not options.partial) (list_all is_move options.moves) (both-second (lists_none units) (is_plain options) e)

-- ---- what was found: a set of the medium, and what it is restored as

record IsFound (w : World) (path : List ℕ) (moves : List FileMove) (header : Header) : Type 0 where
  set : Header
  there : SetIn w path set
  moves_fit : list_all is_move moves ≡ true
  is : moved moves set ≡ header
  room : HasRoom header

found : (w : World) (line : ℕ) (name : List ℕ) (units : RestoredUnits) (disk : Option (List ℕ)) (options : RestoreOptions) (header : Header) → check_restore w line name units disk options ≡ Ok header
    → IsFound w (disk_path disk) options.moves header
unfolding check_restore
found w line name units disk options header e =
    let one = passed (refuse_if (not (is_whole_restore units disk options && is_name name && is_path (disk_path disk))) (NotBuilt line)) _ header e in
    let out = passed (outside w) _ header one.then in
    let two = passed (set_at (position_of options.file) (medium_at w.media (disk_path disk))) _ header out.then in
    let its = set-of w name options two.found header two.then in
    let whole : is_whole_restore units disk options ≡ true =
    whole-first (is_whole_restore units disk options) (is_name name) (is_path (disk_path disk))
    (not-refused (not (is_whole_restore units disk options && is_name name && is_path (disk_path disk))) (NotBuilt line) one.found one.is) in record {
      set = two.found;
      there = set-in w (disk_path disk) (position_of options.file) two.found two.is;
      moves_fit = whole-moves units disk options whole;
      is = its.0;
      room = subst HasRoom its.0 its.1;
    }

-- ---- the parts

-- what is taken over, with its files restored
taken : List ℕ → Header → Database
taken name header = record (taken_over name header) { units = units_in (state.Restoring (base_of header) header.last) (taken_over name header).units }

-- a set that is sound may be taken over by any name
restores : (w : World) (name : List ℕ) (header : Header) (r : Recovery) (row : RestoreRow) → IsSoundSet w header → r.at ≡ header.last → r.branch ≡ drawn w w.counter → Recovers (log_below w.history header.path header.last) r → HasRoom header
    → MayDoAll w (whole_restore name header r row)
unfolding done taken log_to
restores w name header r row set at branch recovers room =
    let positive : 1 ≤ header.last = counts-positive 1 header.last (log_below w.history header.path header.last) set.log.counts in
    let lower : header.last < kept_numbers = below-kept header.last room.low in
    let few : length r.said ≤ 4194304 = (let most : min r.at 4194304 ≤ 4194304 = min-le_right r.at 4194304 in omega (arith, most, recovers.few)) in (
      set,
      (
        tt,
        (
          holds-of _ (taken name header) _
              (named-changed (with_new_database w.databases (taken_over name header)) name (taken_over name header) _ refl (found-new w.databases (taken_over name header)))
              (record {
                down = refl;
                some = omega (arith, positive, at);
                within = omega (arith, at);
                branch = branch;
                recovers = subst (λ n. Recovers (log_below w.history header.path n) r) (sym at) recovers;
                numbers = omega (arith, at, lower, few);
                room = room.branches;
              }),
          (tt, tt),
        ),
      ),
    )

-- ---- what is proved of it

-- in a world of logs without loads, a set on a medium has such a log
set-built : (w : World) (path : List ℕ) (header : Header) → IsBuilt w → SetIn w path header → IsBuiltLog (files_of_set header) (log_below w.history header.path header.last)
set-built w path header built there = of-contained (IsBuiltSlot w) there.0 (readable header) (of-medium (IsBuiltReading w) w.media path (medium there.0) built.media there.1) there.2

module _ (w : World) (line : ℕ) (name : List ℕ) (units : RestoredUnits) (disk : Option (List ℕ)) (options : RestoreOptions) (header : Header) (e : check_restore w line name units disk options ≡ Ok header) where
  its : IsFound w (disk_path disk) options.moves header
  its = found w line name units disk options header e

  sound-as : IsSound w → IsSoundSet w header
  sound-as sound = subst (IsSoundSet w) its.is (moved-sound options.moves w its.set its.moves_fit (set-sound w (disk_path disk) its.set sound its.there))

  built-as : IsBuilt w → IsBuiltLog (files_of_set header) (log_below w.history header.path header.last)
  built-as built =
      subst (λ (h : Header). IsBuiltLog (files_of_set h) (log_below w.history h.path h.last)) its.is
      (moved-built options.moves w its.set (set-built w (disk_path disk) its.set built its.there))

  pub facts : (now : ℕ) (outcome : Outcome) → DoesRestore w name options now header outcome → Facts w NoMedium outcome
  facts now outcome (r, at, branch, recovers, is) = facts-of w _ outcome is (record {
    writes = (tt, (tt, (tt, (tt, tt))));
    refused = λ rule no. absurd cc;
    well = λ sound. record {
      may = restores w (name_known (database_named w.databases name) name) header r (restored_row w now (name_known (database_named w.databases name) name) options header) (sound-as sound) at branch recovers its.room;
      opens = (tt, (tt, (tt, (tt, tt))));
      own = (tt, (tt, (tt, (tt, tt))));
      numbers = (tt, (tt, (tt, (tt, tt))));
      ends = inr (inr (name_known (database_named w.databases name) name, header, _, header.last, r, _, refl));
      plain = λ built. (built-as built, (tt, (tt, (tt, tt))));
    };
  })

  -- there is a recovery to which it may come
  pub comes : (now : ℕ) → IsSound w → IsBuilt w → (outcome : Outcome) × DoesRestore w name options now header outcome
  comes now sound built =
      let set : IsSoundSet w header = sound-as sound in
      let log : IsBuiltLog (files_of_set header) (log_below w.history header.path header.last) = built-as built in
      let rs : List Logged = log_below w.history header.path header.last in
      let none : NoLoadPends rs = no-load-pends rs log.loads in
      let r : Recovery = recovery rs header.last (drawn w w.counter) set.log.counts set.log.sound none in (
        restored_whole (name_known (database_named w.databases name) name) header r (restored_row w now (name_known (database_named w.databases name) name) options header),
        (r, refl, refl, recovers rs header.last (drawn w w.counter) set.log.counts set.log.sound none, refl),
      )
