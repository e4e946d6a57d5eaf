-- A row is committed exactly where it has a home.
use Rattle.std.proofs.Common.{◌≡◌, ℕ, List, [], ◌∷◌, ◌++◌, Option, Some, None, refl, ◌∙◌, ap}
use Rattle.std.specs.Prelude.{is_some, if◌then◌else◌}
use Rattle.bk_ids.specs.declared.record.Place.{Place}
use Rattle.bk_world.specs.Rows.{Rows, rows_of, rows_changed}
use Rattle.bk_world.specs.Records.{Deed, Logged, RowId, begun, checkpointed, committed, database_made, model_set, loaded, recovered, rolled_back, stamped, table_made, undone, written}
use Rattle.bk_world.specs.Pending.{Pending, changes_of, of_transaction, pending_after}
use Rattle.bk_world.specs.Telling.{entries, entries_from, entry_of, row_at, rows}
use Rattle.bk_world.specs.Places.{home_behind, homes, homes_after, homes_from, last_of}
use Rattle.bk_world.specs.RowLaws.{RowsRise, rise-changed, row-changed}
use Rattle.bk_world.specs.LastLaws.{value-last, value_last}

homed-from : (id : RowId) (ws : List Pending) (hs : RowId → Option Place) (start : Rows) (rs : List Logged) → RowsRise start → is_some (row_at start id.1) ≡ is_some (hs id)
    → is_some (row_at (rows_of id.0 start (entries_from ws rs)) id.1) ≡ is_some (homes_from ws hs rs id)
homed-from id ws hs start [] rise same = same
homed-from id ws hs start (r ∷ rs) rise same = by r.deed (λ hs2 start2. homed-from id (pending_after ws r.lsn r.begin r.deed) hs2 start2 rs)
  where
    after : List Pending
    after = pending_after ws r.lsn r.begin r.deed

    both : (l : Option Pending) (v : Option (List ℕ)) (home : Option Place) → is_some v ≡ is_some home → is_some (value_last l v) ≡ is_some (home_behind l home)
    both None v home e = e
    both (Some w) v home e = there w.change.value
      where
        there : (x : Option (List ℕ)) → is_some x ≡ is_some (if is_some x then Some w.place else None)
        there None = refl
        there (Some x) = refl

    by : (d : Deed) → ((hs2 : RowId → Option Place) (start2 : Rows) → RowsRise start2 → is_some (row_at start2 id.1) ≡ is_some (hs2 id)
        → is_some (row_at (rows_of id.0 start2 (entries_from (pending_after ws r.lsn r.begin r.deed) rs)) id.1) ≡ is_some (homes_from (pending_after ws r.lsn r.begin r.deed) hs2 rs id))
        → is_some (row_at (rows_of id.0 start (entry_of ws r.lsn r.begin d ++ entries_from (pending_after ws r.lsn r.begin r.deed) rs)) id.1) ≡ is_some (homes_from (pending_after ws r.lsn r.begin r.deed) (homes_after ws hs r.begin d) rs id)
    by (committed time mark) go =
        let cs = changes_of (of_transaction r.begin ws) in
        go (homes_after ws hs r.begin (committed time mark)) (rows_changed id.0 start cs) (rise-changed id.0 start cs rise)
        (ap is_some (row-changed id.0 id.1 start cs rise ∙ value-last id (of_transaction r.begin ws) (row_at start id.1)) ∙ both (last_of id (of_transaction r.begin ws)) (row_at start id.1) (hs id) same)
    by (database_made time family branch) go = go hs start rise same
    by (table_made time spec) go = go hs start rise same
    by begun go = go hs start rise same
    by (written at before c) go = go hs start rise same
    by rolled_back go = go hs start rise same
    by (undone at c n) go = go hs start rise same
    by (checkpointed time) go = go hs start rise same
    by (stamped time set) go = go hs start rise same
    by (model_set time model) go = go hs start rise same
    by (loaded load) go = go hs start rise same
    by (recovered branch) go = go hs start rise same

pub homed : (rs : List Logged) (id : RowId) → is_some (row_at (rows rs id.0) id.1) ≡ is_some (homes rs id)
unfolding rows entries homes
homed rs id = homed-from id [] (λ i. None) [] rs tt refl
