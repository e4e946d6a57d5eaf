-- What is kept stays what the log says, with one record more.
use Rattle.std.proofs.Common.{◌≡◌, ◌≤◌, ℕ, ◌+◌, Bool, true, false, not, cond, List, [], ◌∷◌, ◌++◌, map, length, Option, Some, None, refl, sym, ◌∙◌, ap, subst, arith}
use Rattle.std.specs.Prelude.{◌==◌, ◌&&◌, is_some}
use Rattle.std.specs.List.{filter, AllByRecursion}
use Rattle.std.specs.Ordering.{nat_cmp}
use Rattle.std.specs.BTreeMap.{is_at}
use Rattle.std.specs.Map.{lookup}
use Rattle.std.proofs.lemmas.Bool.{eqb-true}
use Rattle.std.proofs.lemmas.List.{append-nil, map-append}
use Rattle.bk_groups.specs.Groups.{group_of, place_of as space_place}
use Rattle.bk_ids.specs.declared.record.Place.{Place}
use Rattle.bk_ids.specs.declared.record.Mark.{Mark}
use Rattle.bk_ids.specs.declared.record.Rec.{Rec}
use Rattle.bk_undo.specs.Spelled.{body_of, spelled}
use Rattle.bk_world.specs.Entry.{RowChange}
use Rattle.bk_world.specs.HomeLaws.{homed}
use Rattle.bk_world.specs.LastLaws.{is_its, value-last, value_last}
use Rattle.bk_lemmas.specs.Lists.{all_mapped, all_middle, filter_passed}
use Rattle.bk_world.specs.Pending as log
use Rattle.bk_world.specs.Pending.{Pending, changes_of, of_others, of_transaction, pending_after}
use Rattle.bk_world.specs.Places.{homes, homes_after, last_of, place_of}
use Rattle.bk_world.specs.ReadingLaws.{rows-commit}
use Rattle.bk_world.specs.Records.{Counts, Deed, Logged, RowId, database_made, table_made, begun, written, committed, rolled_back, undone, checkpointed, stamped, model_set, loaded, recovered, id_of, is_row}
use Rattle.bk_world.specs.RowLaws.{rise-rows, row-changed, value_behind}
use Rattle.bk_world.specs.SoundLogs.{MayCome}
use Rattle.bk_world.specs.Telling as telling
use Rattle.bk_world.specs.Telling.{row_at, seen}
use Rattle.bk_world.specs.declared.database.FileSpec.{FileSpec}
use Rattle.bk_world.specs.declared.database.TableSpec.{TableSpec}
use Rattle.bk_shown.specs.Rows.{KeepsRows, value_among}
use Rattle.bk_shown.specs.Shown.{IsNext, IsPlaced, LogKeeps, OneWriter, Shows, ShowsRows, group_among, lies_at, pending_of}
use Rattle.bk_shown.specs.Steps.{Commits, MakesTable, TakesBody, Undoes, WritesRow, is_it, model_behind, row_numbered, time_behind}
use Rattle.bk_shown.specs.Writes.{HaveEntries, has_write, own_of, row_of}
use Rattle.bk_shown.specs.declared.shown.Shown.{Shown}
use Rattle.bk_shown.specs.declared.shown.Written.{Written}
use Rattle.bk_shown.proofs.Agree.{lies-commit, lies-undone, lies-write}
use Rattle.bk_shown.proofs.Keeps.{keeps-more}
use Rattle.bk_shown.proofs.Lists.{filter-mapped, filter-same, filter-there, one-numbered}
use Rattle.bk_shown.proofs.Mirrors.{found-mirror, has-mirror, others-mirror, own-mirror, value-mirror}
use Rattle.bk_shown.specs.Readings as reading
use Rattle.bk_shown.specs.Readings.{made_by, model-with, pending-with, place-with, placed-more, rows-with, tables-with, time-with, with}
use Rattle.bk_shown.proofs.Tables.{group-more, none-numbered}
use Rattle.bk_shown.proofs.Waiting.{entries-left, entries-more, entries-others}

-- where nothing passes a test, all fail it
filter-all : {X : Type 0} (p : X → Bool) (xs : List X) → filter p xs ≡ [] → filter (λ x. not (p x)) xs ≡ xs
filter-all p [] e = refl
filter-all {X} p (x ∷ xs) e = by (p x) e (λ rest. filter-all p xs rest)
  where
    by : (t : Bool) → cond t (x ∷ filter p xs) (filter p xs) ≡ [] → (filter p xs ≡ [] → filter (λ y. not (p y)) xs ≡ xs) → cond (not t) (x ∷ filter (λ y. not (p y)) xs) (filter (λ y. not (p y)) xs) ≡ x ∷ xs
    by true e rest = absurd (cc)
    by false e rest = ap (λ (ys : List X). x ∷ ys) (rest e)

pub place-is : (rs : List Logged) (id : RowId) → place_of rs id ≡ lies_at (log.pending rs) (homes rs) id
unfolding place_of
place-is rs id = refl

-- the rows that a transaction sees, one by one
pub seen-is : (rs : List Logged) (begin : ℕ) (id : RowId) → row_at (seen rs begin id.0) id.1 ≡ value_behind id (changes_of (of_transaction begin (log.pending rs))) (row_at (telling.rows rs id.0) id.1)
unfolding seen
seen-is rs begin id = row-changed id.0 id.1 (telling.rows rs id.0) (changes_of (of_transaction begin (log.pending rs))) (rise-rows rs id.0)

module _ (files : List FileSpec) (rs : List Logged) (n begin : ℕ) (old new : Shown) (kept : ShowsRows files rs old) where
  same-tables : (d : Deed) → made_by d ≡ [] → telling.tables rs ≡ telling.tables (with rs n begin d)
  same-tables d none = sym (tables-with rs n begin d ∙ ap (λ made. telling.tables rs ++ made) none ∙ append-nil (telling.tables rs))

  same-groups : (d : Deed) → made_by d ≡ [] → new.groups.tables ≡ old.groups.tables → (number : ℕ) → group_of new.groups number ≡ group_among (telling.tables (with rs n begin d)) number
  same-groups d none tables number =
      ap (λ entries. lookup (is_at (nat_cmp number)) entries) tables ∙ kept.groups number ∙ ap (λ made. group_among made number) (same-tables d none)

  same-rows : (d : Deed) → (reading.Commits rs n begin d → ⊥) → ((id : RowId) → value_among new.rows id ≡ value_among old.rows id) → (id : RowId) → value_among new.rows id ≡ row_at (telling.rows (with rs n begin d) id.0) id.1
  same-rows d silent rows id = rows id ∙ kept.rows id ∙ ap (λ es. row_at es id.1) (sym (rows-with rs n begin d silent id.0))

  old-place : (id : RowId) → space_place old.groups id.0 id.1 ≡ lies_at (log.pending rs) (homes rs) id
  old-place id = kept.places id ∙ place-is rs id

  -- a record that changes nothing of rows
  quiet : (d : Deed) → pending_after (log.pending rs) n begin d ≡ log.pending rs → ((id : RowId) → homes_after (log.pending rs) (homes rs) begin d id ≡ homes rs id) → made_by d ≡ []
      → (reading.Commits rs n begin d → ⊥) → new ≡ old → ShowsRows files (with rs n begin d) new
  quiet d same_pending same_homes none silent is = record {
    tables = ap (λ (s : Shown). s.tables.items) is ∙ kept.tables ∙ same-tables d none;
    rows = same-rows d silent (λ id. ap (λ (s : Shown). value_among s.rows id) is);
    pending = ap (λ (s : Shown). map pending_of s.written.items) is ∙ kept.pending ∙ sym (pending-with rs n begin d ∙ same_pending);
    entries = subst (λ (s : Shown). HaveEntries s.rows s.written.items) (sym is) kept.entries;
    places = λ id. ap (λ (s : Shown). space_place s.groups id.0 id.1) is ∙ old-place id
        ∙ sym (place-with rs n begin d id ∙ ap (λ ws. lies_at ws (homes_after (log.pending rs) (homes rs) begin d) id) same_pending
        ∙ ap (λ home. Rattle.bk_world.specs.Places.place_behind (last_of id (log.pending rs)) home) (same_homes id));
    rooms = ap (λ (s : Shown). s.groups.rooms) is ∙ kept.rooms;
    groups = same-groups d none (ap (λ (s : Shown). s.groups.tables) is);
  }

  shows-write : (at : Place) (before : Option (List ℕ)) (c : RowChange)
      → WritesRow (record { lsn = n; begin = begin; place = at; table = c.table; key = c.key; before = before; value = c.value }) old new → ShowsRows files (with rs n begin (written at before c)) new
  shows-write at before c w = record {
    tables = w.same.tables ∙ kept.tables ∙ same-tables (written at before c) refl;
    rows = same-rows (written at before c) (λ never. never) w.rows.values;
    pending = ap (map pending_of) w.written ∙ map-append pending_of old.written.items (its ∷ []) ∙ ap (λ ws. ws ++ pending_of its ∷ []) kept.pending ∙ sym (pending-with rs n begin (written at before c));
    entries = subst (HaveEntries new.rows) (sym w.written) (entries-more old.rows new.rows old.written.items its w.rows.entries kept.entries);
    places = λ id. w.groups.places id ∙ ap (λ place. cond (is_row (row_of its) id) (Some at) place) (old-place id)
        ∙ sym (place-with rs n begin (written at before c) id ∙ lies-write (log.pending rs) (pending_of its) (homes rs) id);
    rooms = w.groups.rooms ∙ kept.rooms;
    groups = same-groups (written at before c) refl w.groups.tables;
  }
    where
      its : Written
      its = record { lsn = n; begin = begin; place = at; table = c.table; key = c.key; before = before; value = c.value }

  shows-commit : (time : ℕ) (mark : Option Mark) → LogKeeps rs n → Commits begin old new → ShowsRows files (with rs n begin (committed time mark)) new
  shows-commit time mark keeps c = record {
    tables = c.same.tables ∙ kept.tables ∙ same-tables (committed time mark) refl;
    rows = rows_are;
    pending = ap (map pending_of) c.written ∙ others-mirror begin old.written.items ∙ ap (of_others begin) kept.pending ∙ sym (pending-with rs n begin (committed time mark));
    entries = subst (HaveEntries new.rows) (sym c.written) (entries-others begin old.rows new.rows old.written.items single c.entries kept.entries);
    places = λ id. c.groups.places id ∙ place_at id;
    rooms = c.groups.rooms ∙ kept.rooms;
    groups = same-groups (committed time mark) refl c.groups.tables;
  }
    where
      own : List Pending
      own = of_transaction begin (log.pending rs)

      single : (id : RowId) → OneWriter (map pending_of old.written.items) id
      single id = subst (λ (ws : List Pending). OneWriter ws id) (sym kept.pending) (keeps.places.single id)

      mine : map pending_of (own_of begin old.written.items) ≡ of_transaction begin (log.pending rs)
      mine = own-mirror begin old.written.items ∙ ap (of_transaction begin) kept.pending

      behind : (id : RowId) → value_among new.rows id ≡ value_behind id (changes_of (of_transaction begin (log.pending rs))) (row_at (telling.rows rs id.0) id.1)
      behind id =
          c.rows id ∙ value-mirror id (own_of begin old.written.items) (value_among old.rows id)
          ∙ ap (λ ws. value_behind id (changes_of ws) (value_among old.rows id)) mine
          ∙ ap (value_behind id (changes_of (of_transaction begin (log.pending rs)))) (kept.rows id)

      rows_are : (id : RowId) → value_among new.rows id ≡ row_at (telling.rows (with rs n begin (committed time mark)) id.0) id.1
      rows_are id = behind id ∙ sym (seen-is rs begin id) ∙ ap (λ es. row_at es id.1) (sym (rows-commit rs n begin time mark id.0))

      last_value : (id : RowId) → value_among new.rows id ≡ value_last (last_of id (of_transaction begin (log.pending rs))) (row_at (telling.rows rs id.0) id.1)
      last_value id = behind id ∙ value-last id (of_transaction begin (log.pending rs)) (row_at (telling.rows rs id.0) id.1)

      has_own : (id : RowId) → has_write (own_of begin old.written.items) id ≡ is_some (last_of id (of_transaction begin (log.pending rs)))
      has_own id = has-mirror id (own_of begin old.written.items) ∙ ap (λ ws. is_some (last_of id ws)) mine

      place_at : (id : RowId) → cond (has_write (own_of begin old.written.items) id && not (is_some (value_among new.rows id))) None (space_place old.groups id.0 id.1)
          ≡ place_of (with rs n begin (committed time mark)) id
      place_at id =
          ap (λ t. cond (t && not (is_some (value_among new.rows id))) None (space_place old.groups id.0 id.1)) (has_own id)
          ∙ ap (λ v. cond (is_some (last_of id (of_transaction begin (log.pending rs))) && not (is_some v)) None (space_place old.groups id.0 id.1)) (last_value id)
          ∙ ap (λ place. cond (is_some (last_of id (of_transaction begin (log.pending rs))) && not (is_some (value_last (last_of id (of_transaction begin (log.pending rs))) (row_at (telling.rows rs id.0) id.1)))) None place) (old-place id)
          ∙ sym (place-with rs n begin (committed time mark) id
          ∙ lies-commit begin (log.pending rs) (homes rs) id (row_at (telling.rows rs id.0) id.1) (keeps.places.single id))

  abbrev less : ℕ → List Pending
  less k = filter (λ v. not (v.begin == begin && v.lsn == k)) (log.pending rs)

  shows-undone : (at : Place) (c : RowChange) (k : ℕ) → LogKeeps rs n → MayCome rs n begin (undone at c k) → Undoes k old new → ShowsRows files (with rs n begin (undone at c k)) new
  shows-undone at c k keeps may u = record {
    tables = u.same.tables ∙ kept.tables ∙ same-tables (undone at c k) refl;
    rows = same-rows (undone at c k) (λ never. never) u.rows.values;
    pending = are_pending ∙ sym (pending-with rs n begin (undone at c k));
    entries = subst (HaveEntries new.rows) (sym u.written)
        (entries-left old.rows new.rows (λ (v : Written). not (v.lsn == k)) old.written.items (subst (λ (ws : List Written). KeepsRows (λ id. not (has_write ws id)) old.rows new.rows) u.written u.rows) kept.entries);
    places = λ id. u.groups.places id ∙ place_at id;
    rooms = u.groups.rooms ∙ kept.rooms;
    groups = same-groups (undone at c k) refl u.groups.tables;
  }
    where
      w : Pending
      w = may.write

      stands : (front back : List Pending) × (log.pending rs ≡ front ++ may.write ∷ back)
      stands = filter-there (λ v. v.begin == begin) (log.pending rs) may.before may.write [] may.last

      each : AllByRecursion (λ v. v.lsn ≡ k → v ≡ may.write) (log.pending rs)
      each = all_mapped (λ v. v.lsn ≡ may.write.lsn → v ≡ may.write) (λ v. v.lsn ≡ k → v ≡ may.write) (λ v one e. one (e ∙ may.number)) (log.pending rs)
          (one-numbered (log.pending rs) stands.0 may.write stands.1 keeps.lie.rise stands.2)

      its_begin : (may.write.begin == begin) ≡ true
      its_begin = all_middle (λ v. (v.begin == begin) ≡ true) may.before may.write []
          (subst (AllByRecursion (λ v. (v.begin == begin) ≡ true)) may.last (filter_passed (λ v. v.begin == begin) (log.pending rs)))

      -- the number alone tells the write
      tests : (v : Pending) → (v.lsn ≡ k → v ≡ may.write) → not (v.lsn == k) ≡ not (v.begin == begin && v.lsn == k)
      tests v one = by (v.lsn == k) refl
        where
          by : (t : Bool) → (v.lsn == k) ≡ t → not t ≡ not (v.begin == begin && t)
          by true is = ap (λ b. not (b && true)) (sym (ap (λ (x : Pending). x.begin == begin) (one (eqb-true _ _ is)) ∙ its_begin))
          by false isnt = none (v.begin == begin)
            where
              none : (b : Bool) → true ≡ not (b && false)
              none true = refl
              none false = refl

      are_pending : map pending_of new.written.items ≡ less k
      are_pending =
          ap (map pending_of) u.written ∙ filter-mapped pending_of (λ v. not (v.lsn == k)) old.written.items
          ∙ ap (filter (λ v. not (v.lsn == k))) kept.pending
          ∙ filter-same (λ v. not (v.lsn == k)) (λ v. not (v.begin == begin && v.lsn == k)) (log.pending rs)
          (all_mapped (λ v. v.lsn ≡ k → v ≡ may.write) (λ v. not (v.lsn == k) ≡ not (v.begin == begin && v.lsn == k)) tests (log.pending rs) each)

      found : row_numbered old.written.items k ≡ Some (id_of may.write.change)
      found = found-mirror old.written.items k may.write stands.0 stands.1 (kept.pending ∙ stands.2) (sym may.number)
          (subst (AllByRecursion (λ v. v.lsn ≡ k → v ≡ may.write)) (sym kept.pending) each)

      place_at : (id : RowId) → cond ((is_it (row_numbered old.written.items k) id && not (has_write new.written.items id)) && not (is_some (value_among new.rows id))) None (space_place old.groups id.0 id.1)
          ≡ place_of (with rs n begin (undone at c k)) id
      place_at id =
          ap (λ o. cond ((is_it o id && not (has_write new.written.items id)) && not (is_some (value_among new.rows id))) None (space_place old.groups id.0 id.1)) found
          ∙ ap (λ b. cond ((is_its id may.write && not b) && not (is_some (value_among new.rows id))) None (space_place old.groups id.0 id.1)) (has-mirror id new.written.items ∙ ap (λ ws. is_some (last_of id ws)) are_pending)
          ∙ ap (λ v. cond ((is_its id may.write && not (is_some (last_of id (less k)))) && not (is_some v)) None (space_place old.groups id.0 id.1)) (u.rows.values id ∙ kept.rows id)
          ∙ ap (λ place. cond ((is_its id may.write && not (is_some (last_of id (less k)))) && not (is_some (row_at (telling.rows rs id.0) id.1))) None place) (old-place id)
          ∙ sym (place-with rs n begin (undone at c k) id
          ∙ lies-undone begin k (log.pending rs) may.write (homes rs) keeps.places each id (row_at (telling.rows rs id.0) id.1) (homed rs id))

  shows-table : (time : ℕ) (spec : TableSpec) → LogKeeps rs n → spec.number ≡ length (telling.tables rs) + 1 → MakesTable spec old new → ShowsRows files (with rs n begin (table_made time spec)) new
  shows-table time spec keeps number m = record {
    tables = m.tables ∙ ap (λ made. made ++ spec ∷ []) kept.tables ∙ sym (tables-with rs n begin (table_made time spec));
    rows = same-rows (table_made time spec) (λ never. never) (λ id. ap (λ values. value_among values id) m.rows);
    pending = ap (map pending_of) m.written ∙ kept.pending ∙ sym (pending-with rs n begin (table_made time spec));
    entries = subst (λ rows. HaveEntries rows new.written.items) (sym m.rows) (subst (HaveEntries old.rows) (sym m.written) kept.entries);
    places = λ id. ap (λ places. lookup (is_at (Rattle.bk_groups.specs.Groups.row_cmp id)) places) m.groups.places ∙ old-place id ∙ sym (place-with rs n begin (table_made time spec) id);
    rooms = m.groups.rooms ∙ kept.rooms;
    groups = λ t. m.groups.tables t ∙ ap (λ group. cond (t == spec.number) (Some spec.group) group) (kept.groups t)
        ∙ sym (group-more (telling.tables rs) spec none t) ∙ ap (λ made. group_among made t) (sym (tables-with rs n begin (table_made time spec)));
  }
    where
      above : length (telling.tables rs) + 1 ≤ spec.number
      above = omega (arith, number)

      none : Rattle.std.specs.List.find (λ (s : TableSpec). s.number == spec.number) (telling.tables rs) ≡ None
      none = none-numbered 1 (telling.tables rs) spec.number keeps.numbers above

  -- model and time are as they were
  record SameTimes : Type 0 where
    pub model : new.model ≡ old.model
    pub time : new.time ≡ old.time

  spells : (at : Place) (before : Option (List ℕ)) (c : RowChange) → IsPlaced files (telling.tables rs) (written at before c) → TakesBody n begin (body_of (written at before c)) old new
      → WritesRow (record { lsn = n; begin = begin; place = at; table = c.table; key = c.key; before = before; value = c.value }) old new
  spells at before c placed t = t c.table c.key before c.value (record { fits = placed.0; old_is = refl; new_is = refl })

  shows-rows : (d : Deed) → LogKeeps rs n → MayCome rs n begin d → IsPlaced files (telling.tables rs) d → TakesBody n begin (body_of d) old new → ShowsRows files (with rs n begin d) new
  shows-rows (table_made time spec) keeps may placed t = shows-table time spec keeps placed.0 t
  shows-rows (written at before c) keeps may placed t = shows-write at before c (spells at before c placed t)
  shows-rows (committed time mark) keeps may placed t = shows-commit time mark keeps t
  shows-rows (undone at c k) keeps may placed t = shows-undone at c k keeps may t
  shows-rows (loaded load) keeps may placed t = absurd placed
  shows-rows rolled_back keeps may placed t = quiet rolled_back (filter-all (λ w. w.begin == begin) (log.pending rs) may) (λ id. refl) refl (λ never. never) t
  shows-rows (database_made time family branch) keeps may placed t = quiet (database_made time family branch) refl (λ id. refl) refl (λ never. never) t
  shows-rows begun keeps may placed t = quiet begun refl (λ id. refl) refl (λ never. never) t
  shows-rows (checkpointed time) keeps may placed t = quiet (checkpointed time) refl (λ id. refl) refl (λ never. never) t
  shows-rows (stamped time set) keeps may placed t = quiet (stamped time set) refl (λ id. refl) refl (λ never. never) t
  shows-rows (model_set time model) keeps may placed t = quiet (model_set time model) refl (λ id. refl) refl (λ never. never) t
  shows-rows (recovered branch) keeps may placed t = quiet (recovered branch) refl (λ id. refl) refl (λ never. never) t

  times-same : (d : Deed) → IsPlaced files (telling.tables rs) d → TakesBody n begin (body_of d) old new → SameTimes
  times-same (table_made time spec) placed t = record { model = t.model; time = t.time }
  times-same (written at before c) placed t = let w = spells at before c placed t in record { model = w.same.model; time = w.same.time }
  times-same (committed time mark) placed t = record { model = t.same.model; time = t.same.time }
  times-same (undone at c k) placed t = record { model = t.same.model; time = t.same.time }
  times-same (loaded load) placed t = absurd placed
  times-same rolled_back placed t = record { model = ap (λ (s : Shown). s.model) t; time = ap (λ (s : Shown). s.time) t }
  times-same (database_made time family branch) placed t = record { model = ap (λ (s : Shown). s.model) t; time = ap (λ (s : Shown). s.time) t }
  times-same begun placed t = record { model = ap (λ (s : Shown). s.model) t; time = ap (λ (s : Shown). s.time) t }
  times-same (checkpointed time) placed t = record { model = ap (λ (s : Shown). s.model) t; time = ap (λ (s : Shown). s.time) t }
  times-same (stamped time set) placed t = record { model = ap (λ (s : Shown). s.model) t; time = ap (λ (s : Shown). s.time) t }
  times-same (model_set time model) placed t = record { model = ap (λ (s : Shown). s.model) t; time = ap (λ (s : Shown). s.time) t }
  times-same (recovered branch) placed t = record { model = ap (λ (s : Shown). s.model) t; time = ap (λ (s : Shown). s.time) t }

pub counts-length : (m : ℕ) (rs : List Logged) (n : ℕ) → Counts m rs n → n ≡ length rs + m
counts-length m [] n c = omega (arith, c)
counts-length m (r ∷ rs) n c = let rest : n ≡ length rs + (m + 1) = counts-length (m + 1) rs n c.1 in omega (arith, rest)

-- the number of the next record is the end
pub next-number : (files : List FileSpec) (rs : List Logged) (r : Logged) (s : Shown) → Shows files rs s → IsNext files rs r → r.lsn ≡ s.«end»
next-number files rs r s shows next = next.number ∙ sym (counts-length 1 rs s.«end» shows.log.counts)

pub taken : (files : List FileSpec) (rs : List Logged) (r : Logged) (given : Rec) (old mid : Shown) → Shows files rs old → IsNext files rs r → given ≡ spelled r
    → TakesBody given.lsn given.begin given.body old mid
    → Shows files (rs ++ r ∷ []) (record mid { model = model_behind given.body mid.model; time = time_behind given.body mid.time; «end» = old.«end» + 1 })
taken files rs r given old mid shows next is takes =
    subst (λ (g : Rec). Shows files (rs ++ r ∷ []) (record mid { model = model_behind g.body mid.model; time = time_behind g.body mid.time; «end» = old.«end» + 1 })) (sym is)
    (record {
      files_are = shows.files_are;
      log = subst (LogKeeps (rs ++ r ∷ [])) (ap (λ (k : ℕ). k + 1) number) (keeps-more files rs r.lsn r.begin r.deed next.placed next.may keeps);
      placed = placed-more files [] rs r shows.placed next.placed;
      kept = record { tables = kept.tables; rows = kept.rows; pending = kept.pending; entries = kept.entries; places = kept.places; rooms = kept.rooms; groups = kept.groups };
      model = ap (model_behind (body_of r.deed)) (times.model ∙ shows.model) ∙ sym (model-with rs r.lsn r.begin r.deed);
      time = ap (time_behind (body_of r.deed)) (times.time ∙ shows.time) ∙ sym (time-with rs r.lsn r.begin r.deed);
    })
  where
    number : r.lsn ≡ old.«end»
    number = next-number files rs r old shows next

    keeps : LogKeeps rs r.lsn
    keeps = subst (LogKeeps rs) (sym number) shows.log

    body : TakesBody r.lsn r.begin (body_of r.deed) old mid
    body = subst (λ (g : Rec). TakesBody g.lsn g.begin g.body old mid) is takes

    kept : ShowsRows files (rs ++ r ∷ []) mid
    kept = shows-rows files rs r.lsn r.begin old mid shows.kept r.deed keeps next.may next.placed body

    times : SameTimes files rs r.lsn r.begin old mid shows.kept
    times = times-same files rs r.lsn r.begin old mid shows.kept r.deed next.placed body
