-- The statements on rows: a new row gets a place in its group, and one that is there is written where it lies.
use Rattle.std.proofs.Common.{◌≡◌, inr, ℕ, true, false, List, Option, None, Some, refl, sym, ◌∙◌, ap, subst}
use Rattle.std.specs.Prelude.{◌==◌, ◌&&◌, Bool, Ok, is_some}
use Rattle.std.specs.List.{AllByRecursion}
use Rattle.bk_ids.specs.declared.record.Place.{Place}
use Rattle.bk_items.specs.declared.rows.RowStatement.{RowStatement}
use Rattle.bk_items.specs.declared.rows.RowStatement.TheVariants.{Insert, Update, Delete, Select, BulkInsert}
use Rattle.bk_world.specs.HomeLaws.{homed}
use Rattle.bk_lemmas.specs.Lists.{all_mapped}
use Rattle.bk_world.specs.LastLaws.{last-dropped, last-none, value-last, value_last}
use Rattle.bk_world.specs.Pending.{Pending, changes_of, of_transaction, pending}
use Rattle.bk_world.specs.RowLaws.{rise-rows, row-changed}
use Rattle.bk_world.specs.Places.{homes, last_of, place_behind, place_of}
use Rattle.bk_world.specs.Records.{Logged, RowId, id_of, is_row}
use Rattle.bk_world.specs.Telling.{row_at, rows, seen}
use Rattle.bk_world.specs.declared.reply.Reply.TheVariants.{Counted}
use Rattle.bk_world.specs.declared.rule.Rule.TheVariants.{DuplicateKey, GroupFull, LimitReached}
use Rattle.bk_world.specs.declared.rule.Limit.TheVariants.{Lsn, Writes}
use Rattle.bk_machine.specs.Built.{FreeCell, IsBuilt, IsBuiltLog}
use Rattle.bk_machine.specs.CheckLaws.{comes-to, is-none, not-refused, passed}
use Rattle.bk_machine.specs.Checks.{limit, refuse_if, used_up}
use Rattle.bk_machine.specs.NamedLaws.{of-named}
use Rattle.bk_machine.specs.Outcome.{Outcome, answered}
use Rattle.bk_machine.specs.UpLaws.{IsUp}
use Rattle.bk_machine.specs.Seen.{visible, visible_by}
use Rattle.bk_machine.specs.Sound.{IsSound}
use Rattle.bk_machine.specs.TargetLaws.{IsTarget, is-target, target-up}
use Rattle.bk_world.specs.declared.transaction.Open.{Open}
use Rattle.bk_machine.specs.World.{World, Database, log_of, transaction_of}
use Rattle.bk_machine.specs.statements.Delete.{check_delete, DoesDelete}
use Rattle.bk_machine.specs.statements.Insert.{check_insert, DoesInsert}
use Rattle.bk_machine.specs.statements.Rows.{RowsMay}
use Rattle.bk_machine.specs.statements.Select.{check_select, DoesSelect}
use Rattle.bk_machine.specs.statements.Target.{DoesChange, DoesWrite, MayPlace, Target, check_key, check_lock, check_table, check_value, check_write, group_name, has_all_writes, holder, is_full_for, sees_key, unlocked_by, writes_row}
use Rattle.bk_machine.specs.statements.Update.{check_update, DoesUpdate}
use Rattle.bk_machine.proofs.Room.{room-where}
use Rattle.bk_machine.proofs.statements.Facts.{Facts, NoMedium, comes-by, facts-answered, facts-of, facts-refused}
use Rattle.bk_machine.proofs.statements.Writing.{own-place, row-facts}

-- ---- what was checked

-- no other session's transaction has written the row
was-free : (o : Option Open) (u : Unit {0}) → unlocked_by o ≡ Ok u → o ≡ None
was-free None u e = refl
was-free (Some t) u e = absurd cc

-- INSERT: no row of this key is there, it isn't locked, there may be more writes, numbers aren't used up, and there is room for one
record IsNewRow (w : World) (name : List ℕ) (key : ℕ) (to : Target) : Type 0 where
  its : IsTarget w name to
  free : holder w to.database (to.table.number, key) ≡ None
  new : sees_key w to key ≡ false
  few : has_all_writes w to ≡ false
  low : used_up to.database.end ≡ false
  room : is_full_for w to key ≡ false

is-new-row : (w : World) (table : List ℕ) (key : ℕ) (value : List ℕ) (to : Target) → check_insert w table key value ≡ Ok to → IsNewRow w table key to
unfolding check_insert
is-new-row w table key value to e =
    let one = passed (check_table w table) _ to e in
    let two = passed (check_value value) _ to one.then in
    let lock = passed (check_lock w one.found key) _ to two.then in
    let three = passed (refuse_if (sees_key w one.found key) (DuplicateKey key)) _ to lock.then in
    let four = passed (check_key key) _ to three.then in
    let writes = passed (refuse_if (has_all_writes w one.found) (LimitReached Writes)) _ to four.then in
    let five = passed (limit (used_up one.found.database.end)) _ to writes.then in
    let six = passed (refuse_if (is_full_for w one.found key) (GroupFull (group_name one.found.database one.found.table.group))) _ to five.then in
    let last = six.then in
    let same : one.found ≡ to = cc in
    subst (IsNewRow w table key) same (record {
      its = is-target w table one.found one.is;
      free = was-free (holder w one.found.database (one.found.table.number, key)) lock.found lock.is;
      new = not-refused (sees_key w one.found key) (DuplicateKey key) three.found three.is;
      few = not-refused (has_all_writes w one.found) (LimitReached Writes) writes.found writes.is;
      low = not-refused (used_up one.found.database.end) (LimitReached Lsn) five.found five.is;
      room = not-refused (is_full_for w one.found key) (GroupFull (group_name one.found.database one.found.table.group)) six.found six.is;
    })

-- UPDATE and DELETE
record IsOldRow (w : World) (name : List ℕ) (key : ℕ) (to : Target) : Type 0 where
  its : IsTarget w name to
  free : holder w to.database (to.table.number, key) ≡ None
  few : (sees_key w to key && has_all_writes w to) ≡ false
  low : (sees_key w to key && used_up to.database.end) ≡ false

is-written : (w : World) (name : List ℕ) (key : ℕ) (asked to : Target) → IsTarget w name asked → check_write w asked key ≡ Ok to → IsOldRow w name key to
is-written w name key asked to its e =
    let lock = passed (check_lock w asked key) _ to e in
    let one = passed (check_key key) _ to lock.then in
    let writes = passed (refuse_if (sees_key w asked key && has_all_writes w asked) (LimitReached Writes)) _ to one.then in
    let two = passed (limit (sees_key w asked key && used_up asked.database.end)) _ to writes.then in
    let last = two.then in
    let same : asked ≡ to = cc in
    subst (IsOldRow w name key) same (record {
      its = its;
      free = was-free (holder w asked.database (asked.table.number, key)) lock.found lock.is;
      few = not-refused (sees_key w asked key && has_all_writes w asked) (LimitReached Writes) writes.found writes.is;
      low = not-refused (sees_key w asked key && used_up asked.database.end) (LimitReached Lsn) two.found two.is;
    })

is-updated : (w : World) (table : List ℕ) (key : ℕ) (value : List ℕ) (to : Target) → check_update w table key value ≡ Ok to → IsOldRow w table key to
unfolding check_update
is-updated w table key value to e =
    let one = passed (check_table w table) _ to e in
    let two = passed (check_value value) _ to one.then in
    is-written w table key one.found to (is-target w table one.found one.is) two.then

is-deleted : (w : World) (table : List ℕ) (key : ℕ) (to : Target) → check_delete w table key ≡ Ok to → IsOldRow w table key to
unfolding check_delete
is-deleted w table key to e =
    let one = passed (check_table w table) _ to e in
    is-written w table key one.found to (is-target w table one.found one.is) one.then

-- ---- one row

-- a row that is committed lies somewhere
lies-home : (rs : List Logged) (id : RowId) (before : List ℕ) → row_at (rows rs id.0) id.1 ≡ Some before → (at : Place) × (homes rs id ≡ Some at)
lies-home rs id before there = by (homes rs id) refl
  where
    by : (o : Option Place) → homes rs id ≡ o → (at : Place) × (homes rs id ≡ Some at)
    by None is = let wrong : true ≡ false = sym (ap is_some there) ∙ (homed rs id ∙ ap is_some is) in absurd cc
    by (Some at) is = (at, is)

-- where nobody has written a row, a transaction sees it as it is committed
seen-home : (rs : List Logged) (id : RowId) (o : Option Open) → last_of id (pending rs) ≡ None → row_at (visible_by rs o id.0) id.1 ≡ row_at (rows rs id.0) id.1
unfolding seen
seen-home rs id None none = refl
seen-home rs id (Some t) none =
    let nobody : AllByRecursion (λ (w : Pending). is_row (id_of w.change) id ≡ false) (pending rs) = last-none id (pending rs) none in
    let its : last_of id (of_transaction t.begin (pending rs)) ≡ None =
    last-dropped id (λ (w : Pending). w.begin == t.begin) (pending rs)
    (all_mapped (λ (w : Pending). is_row (id_of w.change) id ≡ false) (λ (w : Pending). is_row (id_of w.change) id ≡ true → (w.begin == t.begin) ≡ false) (λ w no yes. let wrong : true ≡ false = sym yes ∙ no in absurd cc) (pending rs) nobody) in
    row-changed id.0 id.1 (rows rs id.0) (changes_of (of_transaction t.begin (pending rs))) (rise-rows rs id.0)
    ∙ value-last id (of_transaction t.begin (pending rs)) (row_at (rows rs id.0) id.1)
    ∙ ap (λ l. value_last l (row_at (rows rs id.0) id.1)) its

-- a row that is seen lies somewhere
lies : (rs : List Logged) (id : RowId) (o : Option Open) (before : List ℕ) → row_at (visible_by rs o id.0) id.1 ≡ Some before → (at : Place) × (place_of rs id ≡ Some at)
unfolding place_of
lies rs id o before there = by (last_of id (pending rs)) refl
  where
    by : (l : Option Pending) → last_of id (pending rs) ≡ l → (at : Place) × (place_behind (last_of id (pending rs)) (homes rs id) ≡ Some at)
    by (Some w) is = (w.place, ap (λ l. place_behind l (homes rs id)) is)
    by None none =
        let home : (at : Place) × (homes rs id ≡ Some at) = lies-home rs id before (sym (seen-home rs id o none) ∙ there) in
        (home.0, ap (λ l. place_behind l (homes rs id)) none ∙ home.1)

-- of two tests that don't both hold, the second doesn't where the first does
second-not : (a b : Bool) → (a && b) ≡ false → a ≡ true → b ≡ false
second-not true b e is = e
second-not false b e is = absurd cc

module _ (w : World) (table : List ℕ) (key : ℕ) (to : Target) where
  -- one that is new
  new-facts : IsNewRow w table key to → (value : List ℕ) (now : ℕ) (outcome : Outcome) → DoesInsert w key value now to outcome → Facts w NoMedium outcome
  new-facts row value now outcome (at, place, is) =
      facts-of w _ outcome is (row-facts w table to row.its key None (Some value) now row.free row.few at place (is-none (row_at (visible w to.database to.table) key) row.new) row.low)

  -- one that is there, or isn't
  change-facts : IsOldRow w table key to → (value : Option (List ℕ)) (now : ℕ) (outcome : Outcome) → DoesWrite w key value now to outcome → Facts w NoMedium outcome
  change-facts row value now outcome does = by (row_at (visible w to.database to.table) key) refl does
    where
      by : (o : Option (List ℕ)) → row_at (visible w to.database to.table) key ≡ o → DoesChange w key value now to o outcome → Facts w NoMedium outcome
      by None is e = facts-of w _ outcome e (facts-answered w (Counted 0))
      by (Some before) is (at, place, e) =
          let few : has_all_writes w to ≡ false = second-not (sees_key w to key) (has_all_writes w to) row.few (ap is_some is) in
          let low : used_up to.database.end ≡ false = second-not (sees_key w to key) (used_up to.database.end) row.low (ap is_some is) in
          facts-of w _ outcome e (row-facts w table to row.its key (Some before) value now row.free few at place is low)

module _ (w : World) (table : List ℕ) (to : Target) (its : IsTarget w table to) (key : ℕ) (sound : IsSound w) (built : IsBuilt w) where
  its-up : IsUp w to.database
  its-up = target-up w table to sound its

  -- where its group isn't full there is a place that it may get
  new-place : is_full_for w to key ≡ false → (at : Place) × MayPlace w to (to.table.number, key) at
  new-place room = by (place_of (log_of w.history to.database) (to.table.number, key)) refl
    where
      log : IsBuiltLog to.database.files (log_of w.history to.database)
      log = of-named (λ (db : Database). IsBuiltLog db.files (log_of w.history db)) w.databases to.database.name to.database built.databases its-up.named

      by : (o : Option Place) → place_of (log_of w.history to.database) (to.table.number, key) ≡ o → (at : Place) × MayPlace w to (to.table.number, key) at
      by None none =
          let found : FreeCell (log_of w.history to.database) to.database.files to.table.group =
          room-where to.database.files (log_of w.history to.database) to.database.end its-up.whole.log log to.table.group (to.table.number, key) none room in
          (found.at, record { place = inr (none, found.free); cell = found.cell })
      by (Some at) there = (at, own-place w table to its-up its built key at there)

  new-comes : is_full_for w to key ≡ false → (value : List ℕ) (now : ℕ) → (outcome : Outcome) × DoesInsert w key value now to outcome
  new-comes room value now = let at : (p : Place) × MayPlace w to (to.table.number, key) p = new-place room in (writes_row w to at.0 None key (Some value) now, (at.0, at.1, refl))

  change-comes : (value : Option (List ℕ)) (now : ℕ) → (outcome : Outcome) × DoesWrite w key value now to outcome
  unfolding visible
  change-comes value now = by (row_at (visible w to.database to.table) key) refl
    where
      by : (o : Option (List ℕ)) → row_at (visible w to.database to.table) key ≡ o → (outcome : Outcome) × DoesChange w key value now to o outcome
      by None is = (answered (Counted 0), refl)
      by (Some before) is =
          let at : (p : Place) × (place_of (log_of w.history to.database) (to.table.number, key) ≡ Some p) = lies (log_of w.history to.database) (to.table.number, key) (transaction_of to.database.transactions w.session) before is in
          (writes_row w to at.0 (Some before) key value now, (at.0, own-place w table to its-up its built key at.0 at.1, refl))

-- ---- each statement

pub facts : (w : World) (line : ℕ) (table : List ℕ) (statement : RowStatement) (now : ℕ) (outcome : Outcome) → RowsMay w line table statement now outcome → Facts w NoMedium outcome
facts w line table (Insert key value) now = comes-to (Facts w NoMedium) (check_insert w table key value) (DoesInsert w key value now) (facts-refused w)
    (λ to e. new-facts w table key to (is-new-row w table key value to e) value now)
facts w line table (Update key value) now = comes-to (Facts w NoMedium) (check_update w table key value) (DoesUpdate w key value now) (facts-refused w)
    (λ to e. change-facts w table key to (is-updated w table key value to e) (Some value) now)
facts w line table (Delete key) now = comes-to (Facts w NoMedium) (check_delete w table key) (DoesDelete w key now) (facts-refused w) (λ to e. change-facts w table key to (is-deleted w table key to e) None now)
facts w line table (Select key) now = comes-to (Facts w NoMedium) (check_select w table) (DoesSelect w key) (facts-refused w) (λ to e o is. facts-of w _ o is (facts-answered w _))
facts w line table (BulkInsert first count value) now = λ outcome is. facts-of w _ outcome is (facts-refused w _)

pub comes : (w : World) (line : ℕ) (table : List ℕ) (statement : RowStatement) (now : ℕ) → IsSound w → IsBuilt w → (outcome : Outcome) × RowsMay w line table statement now outcome
comes w line table (Insert key value) now sound built = comes-by (check_insert w table key value) (DoesInsert w key value now)
    (λ to e. let row : IsNewRow w table key to = is-new-row w table key value to e in new-comes w table to row.its key sound built row.room value now)
comes w line table (Update key value) now sound built = comes-by (check_update w table key value) (DoesUpdate w key value now)
    (λ to e. change-comes w table to (is-updated w table key value to e).its key sound built (Some value) now)
comes w line table (Delete key) now sound built = comes-by (check_delete w table key) (DoesDelete w key now) (λ to e. change-comes w table to (is-deleted w table key to e).its key sound built None now)
comes w line table (Select key) now sound built = comes-by (check_select w table) (DoesSelect w key) (λ to e. (_, refl))
comes w line table (BulkInsert first count value) now sound built = (_, refl)
