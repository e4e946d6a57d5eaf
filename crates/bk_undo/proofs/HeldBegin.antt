-- A transaction of one row is its begin, its write and its commit.
use Rattle.std.proofs.Common.{◌≡◌, ℕ, ◌+◌, List, [], ◌++◌, Option, None, sym, ◌∙◌, ap, append_assoc}
use Rattle.std.specs.Prelude.{◌==◌}
use Rattle.std.specs.List.{filter, AllByRecursion}
use Rattle.std.proofs.lemmas.List.{append-nil}
use Rattle.bk_ids.specs.declared.record.Place.{Place}
use Rattle.bk_world.specs.Entry.{RowChange}
use Rattle.bk_world.specs.Rows.{rows_of}
use Rattle.bk_world.specs.Records.{Logged, RowId, more, numbered}
use Rattle.bk_undo.specs.Cells.{Stored}
use Rattle.bk_world.specs.Pending.{pending}
use Rattle.bk_world.specs.Telling.{entries, row_at, rows}
use Rattle.bk_world.specs.Places.{homes, last_of, place_behind, place_of}
use Rattle.bk_world.specs.Says.{begin_said, commit_said, single_said, write_said}
use Rattle.bk_undo.specs.Holds.{Holds}
use Rattle.bk_world.specs.ReadingLaws.{entries-more, homes-more, pending-more}

-- the three parts, one after the other
pub single-is : (rs : List Logged) (n : ℕ) (at : Place) (before : Option (List ℕ)) (c : RowChange) (time : ℕ)
    → more rs n (single_said n at before c time) ≡ more (more (more rs n (begin_said n)) (n + 1) (write_said n at before c)) ((n + 1) + 1) (commit_said n time None)
single-is rs n at before c time =
    ap (λ rest. rest) (sym (append_assoc rs (numbered n (begin_said n)) (numbered (n + 1) (write_said n at before c) ++ numbered ((n + 1) + 1) (commit_said n time None))))
    ∙ sym (append_assoc (more rs n (begin_said n)) (numbered (n + 1) (write_said n at before c)) (numbered ((n + 1) + 1) (commit_said n time None)))

module _ (rs : List Logged) (n : ℕ) where
  begun : List Logged
  begun = more rs n (begin_said n)

  same_entries : entries (more rs n (begin_said n)) ≡ entries rs
  same_entries = entries-more rs (numbered n (begin_said n)) ∙ append-nil (entries rs)

  same_pending : pending (more rs n (begin_said n)) ≡ pending rs
  same_pending = pending-more rs (numbered n (begin_said n))

  same_rows : (table : ℕ) → rows (more rs n (begin_said n)) table ≡ rows rs table
  unfolding rows
  same_rows table = ap (rows_of table []) same_entries

  same_place : (id : RowId) → place_of (more rs n (begin_said n)) id ≡ place_of rs id
  unfolding place_of
  same_place id = ap (λ ws. place_behind (last_of id ws) (homes (more rs n (begin_said n)) id)) same_pending
      ∙ ap (λ (hs : RowId → Option Place). place_behind (last_of id (pending rs)) (hs id)) (homes-more rs (numbered n (begin_said n)))

  -- what is stored stays where a transaction begins
  pub holds-begin : (s : Stored) → Holds rs s → Holds (more rs n (begin_said n)) s
  holds-begin s h = record {
    tied = h.tied;
    pending = h.pending ∙ ap (Rattle.std.specs.Prelude.map Rattle.bk_undo.specs.Holds.cell_write) (sym same_pending);
    rows = λ id. h.rows id ∙ ap (λ es. row_at es id.1) (sym (same_rows id.0));
    places = λ id. h.places id ∙ sym (same_place id);
    homes = λ id at e. h.homes id at (sym (ap (λ (hs : RowId → Option Place). hs id) (homes-more rs (numbered n (begin_said n)))) ∙ e);
  }
