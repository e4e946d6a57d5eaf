-- What a log says with one record more.
use Rattle.std.proofs.Common.{◌≡◌, ℕ, ◌+◌, List, [], ◌∷◌, ◌++◌, Option, sym, ◌∙◌, ap, subst, append_assoc}
use Rattle.std.proofs.lemmas.List.{append-nil}
use Rattle.bk_ids.specs.declared.record.Place.{Place}
use Rattle.bk_ids.specs.declared.record.RecoveryModel.TheVariants.{Full}
use Rattle.bk_undo.specs.Spelled.{body_of}
use Rattle.bk_world.specs.Entry.{plain_entry}
use Rattle.bk_world.specs.Entry as entry
use Rattle.bk_world.specs.Entry.{Entry, nothing}
use Rattle.bk_world.specs.FoldLaws.{model_of-more, rows_of-more, tables_of-more, time_of-more}
use Rattle.bk_world.specs.Pending.{of_transaction, pending, pending_after}
use Rattle.bk_world.specs.Places.{homes, homes_after, place_of}
use Rattle.bk_world.specs.ReadingLaws.{entries-more, homes-more, pending-more}
use Rattle.bk_world.specs.Records.{Counts, Deed, Logged, RowId, database_made, table_made, begun, written, committed, rolled_back, undone, checkpointed, stamped, model_set, loaded, recovered}
use Rattle.bk_world.specs.Rows.{model_of, rows_of, tables_of, time_of}
use Rattle.bk_world.specs.SoundLogs.{MayCome, MayFollow}
use Rattle.bk_world.specs.Telling as telling
use Rattle.bk_world.specs.Telling.{commit_entry, entries, entry_of, rows}
use Rattle.bk_world.specs.declared.database.FileSpec.{FileSpec}
use Rattle.bk_world.specs.declared.database.TableSpec.{TableSpec}
use Rattle.bk_shown.specs.Shown.{ArePlaced, IsPlaced, lies_at}
use Rattle.bk_shown.specs.Steps.{model_behind, time_behind}

pub counts-more : (m : ℕ) (rs : List Logged) (n : ℕ) (r : Logged) → Counts m rs n → r.lsn ≡ n → Counts m (rs ++ r ∷ []) (n + 1)
counts-more m [] n r c e = (e ∙ sym c, ap (λ k. k + 1) c)
counts-more m (s ∷ rs) n r c e = (c.0, counts-more (m + 1) rs n r c.1 e)

pub follow-more : (front rs : List Logged) (r : Logged) → MayFollow front rs → MayCome (front ++ rs) r.lsn r.begin r.deed → MayFollow front (rs ++ r ∷ [])
follow-more front [] r f may = (subst (λ (l : List Logged). MayCome l r.lsn r.begin r.deed) (append-nil front) may, tt)
follow-more front (s ∷ rs) r f may = (f.0, follow-more (front ++ s ∷ []) rs r f.1 (subst (λ (l : List Logged). MayCome l r.lsn r.begin r.deed) (sym (append_assoc front (s ∷ []) rs)) may))

pub placed-more : (files : List FileSpec) (front rs : List Logged) (r : Logged) → ArePlaced files front rs → IsPlaced files (telling.tables (front ++ rs)) r.deed → ArePlaced files front (rs ++ r ∷ [])
placed-more files front [] r all placed = (subst (λ (l : List Logged). IsPlaced files (telling.tables l) r.deed) (append-nil front) placed, tt)
placed-more files front (s ∷ rs) r all placed =
    (all.0, placed-more files (front ++ s ∷ []) rs r all.1 (subst (λ (l : List Logged). IsPlaced files (telling.tables l) r.deed) (sym (append_assoc front (s ∷ []) rs)) placed))

-- the table that a record makes
abbrev pub made_by : Deed → List TableSpec
made_by (table_made time spec) = spec ∷ []
made_by _ = []

module _ (rs : List Logged) (n begin : ℕ) where
  abbrev pub with : Deed → List Logged
  with d = rs ++ (record { lsn = n; begin = begin; deed = d }) ∷ []

  pub pending-with : (d : Deed) → pending (with d) ≡ pending_after (pending rs) n begin d
  pending-with d = pending-more rs ((record { lsn = n; begin = begin; deed = d }) ∷ [])

  pub homes-with : (d : Deed) → homes (with d) ≡ homes_after (pending rs) (homes rs) begin d
  homes-with d = homes-more rs ((record { lsn = n; begin = begin; deed = d }) ∷ [])

  pub place-with : (d : Deed) (id : RowId) → place_of (with d) id ≡ lies_at (pending_after (pending rs) n begin d) (homes_after (pending rs) (homes rs) begin d) id
  unfolding place_of
  place-with d id = ap (λ ws. lies_at ws (homes (with d)) id) (pending-with d) ∙ ap (λ (hs : RowId → Option Place). lies_at (pending_after (pending rs) n begin d) hs id) (homes-with d)

  entries-with : (d : Deed) → entries (with d) ≡ entries rs ++ entry_of (pending rs) n begin d
  entries-with d = entries-more rs ((record { lsn = n; begin = begin; deed = d }) ∷ []) ∙ ap (λ es. entries rs ++ es) (append-nil (entry_of (pending rs) n begin d))

  pub tables-with : (d : Deed) → telling.tables (with d) ≡ telling.tables rs ++ made_by d
  unfolding telling.tables
  tables-with d = ap tables_of (entries-with d) ∙ by d
    where
      none : tables_of (entries rs ++ []) ≡ tables_of (entries rs) ++ []
      none = ap tables_of (append-nil (entries rs)) ∙ sym (append-nil (tables_of (entries rs)))

      by : (d : Deed) → tables_of (entries rs ++ entry_of (pending rs) n begin d) ≡ tables_of (entries rs) ++ made_by d
      by (database_made time family branch) = tables_of-more (entries rs) (plain_entry n time (entry.model_set Full))
      by (table_made time spec) = tables_of-more (entries rs) (plain_entry n time (entry.table_made spec))
      by (committed time mark) = tables_of-more (entries rs) (commit_entry (of_transaction begin (pending rs)) n time mark)
      by (checkpointed time) = tables_of-more (entries rs) (plain_entry n time nothing)
      by (stamped time set) = tables_of-more (entries rs) (plain_entry n time nothing)
      by (model_set time model) = tables_of-more (entries rs) (plain_entry n time (entry.model_set model))
      by begun = none
      by (written at before c) = none
      by rolled_back = none
      by (undone at c k) = none
      by (loaded load) = none
      by (recovered branch) = none

  -- whether a record commits
  abbrev pub Commits : Deed → Type 0
  Commits (committed time mark) = Unit {0}
  Commits _ = ⊥

  pub rows-with : (d : Deed) → (Commits d → ⊥) → (table : ℕ) → rows (with d) table ≡ rows rs table
  unfolding rows
  rows-with d quiet table = ap (rows_of table []) (entries-with d) ∙ by d quiet
    where
      none : rows_of table [] (entries rs ++ []) ≡ rows_of table [] (entries rs)
      none = ap (rows_of table []) (append-nil (entries rs))

      by : (d : Deed) → (Commits d → ⊥) → rows_of table [] (entries rs ++ entry_of (pending rs) n begin d) ≡ rows_of table [] (entries rs)
      by (database_made time family branch) quiet = rows_of-more table [] (entries rs) (plain_entry n time (entry.model_set Full))
      by (table_made time spec) quiet = rows_of-more table [] (entries rs) (plain_entry n time (entry.table_made spec))
      by (committed time mark) quiet = absurd (quiet tt)
      by (checkpointed time) quiet = rows_of-more table [] (entries rs) (plain_entry n time nothing)
      by (stamped time set) quiet = rows_of-more table [] (entries rs) (plain_entry n time nothing)
      by (model_set time model) quiet = rows_of-more table [] (entries rs) (plain_entry n time (entry.model_set model))
      by begun quiet = none
      by (written at before c) quiet = none
      by rolled_back quiet = none
      by (undone at c k) quiet = none
      by (loaded load) quiet = none
      by (recovered branch) quiet = none

  pub model-with : (d : Deed) → telling.model (with d) ≡ model_behind (body_of d) (telling.model rs)
  unfolding telling.model
  model-with d = ap (model_of Full) (entries-with d) ∙ by d
    where
      none : model_of Full (entries rs ++ []) ≡ model_of Full (entries rs)
      none = ap (model_of Full) (append-nil (entries rs))

      by : (d : Deed) → model_of Full (entries rs ++ entry_of (pending rs) n begin d) ≡ model_behind (body_of d) (model_of Full (entries rs))
      by (database_made time family branch) = model_of-more Full (entries rs) (plain_entry n time (entry.model_set Full))
      by (table_made time spec) = model_of-more Full (entries rs) (plain_entry n time (entry.table_made spec))
      by (committed time mark) = model_of-more Full (entries rs) (commit_entry (of_transaction begin (pending rs)) n time mark)
      by (checkpointed time) = model_of-more Full (entries rs) (plain_entry n time nothing)
      by (stamped time set) = model_of-more Full (entries rs) (plain_entry n time nothing)
      by (model_set time model) = model_of-more Full (entries rs) (plain_entry n time (entry.model_set model))
      by begun = none
      by (written at before c) = none
      by rolled_back = none
      by (undone at c k) = none
      by (loaded load) = none
      by (recovered branch) = none

  pub time-with : (d : Deed) → telling.time (with d) ≡ time_behind (body_of d) (telling.time rs)
  unfolding telling.time
  time-with d = ap (time_of 0) (entries-with d) ∙ by d
    where
      none : time_of 0 (entries rs ++ []) ≡ time_of 0 (entries rs)
      none = ap (time_of 0) (append-nil (entries rs))

      by : (d : Deed) → time_of 0 (entries rs ++ entry_of (pending rs) n begin d) ≡ time_behind (body_of d) (time_of 0 (entries rs))
      by (database_made time family branch) = time_of-more 0 (entries rs) (plain_entry n time (entry.model_set Full))
      by (table_made time spec) = time_of-more 0 (entries rs) (plain_entry n time (entry.table_made spec))
      by (committed time mark) = time_of-more 0 (entries rs) (commit_entry (of_transaction begin (pending rs)) n time mark)
      by (checkpointed time) = time_of-more 0 (entries rs) (plain_entry n time nothing)
      by (stamped time set) = time_of-more 0 (entries rs) (plain_entry n time nothing)
      by (model_set time model) = time_of-more 0 (entries rs) (plain_entry n time (entry.model_set model))
      by begun = none
      by (written at before c) = none
      by rolled_back = none
      by (undone at c k) = none
      by (loaded load) = none
      by (recovered branch) = none
