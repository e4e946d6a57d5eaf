-- What one entry more shows: tables, rows, the last model and time.
use Rattle.std.proofs.Common.{◌≡◌, ℕ, List, [], ◌∷◌, ◌++◌, refl, sym, ◌∙◌, ap, append_assoc}
use Rattle.std.proofs.lemmas.List.{append-nil}
use Rattle.bk_world.specs.Entry.{Entry}
use Rattle.bk_ids.specs.declared.record.RecoveryModel.{RecoveryModel}
use Rattle.bk_world.specs.Rows.{Rows, rows_of, rows_after, tables_of, table_of, model_of, model_after, time_of}

pub rows_of-more : (table : ℕ) (rows : Rows) (es : List Entry) (e : Entry) → rows_of table rows (es ++ e ∷ []) ≡ rows_after table (rows_of table rows es) e.change
rows_of-more table rows [] e = refl
rows_of-more table rows (first ∷ es) e = rows_of-more table (rows_after table rows first.change) es e

pub tables_of-more : (es : List Entry) (e : Entry) → tables_of (es ++ e ∷ []) ≡ tables_of es ++ table_of e.change
tables_of-more [] e = append-nil (table_of e.change)
tables_of-more (first ∷ es) e = ap (λ more. table_of first.change ++ more) (tables_of-more es e) ∙ sym (append_assoc (table_of first.change) (tables_of es) (table_of e.change))

pub model_of-more : (model : RecoveryModel) (es : List Entry) (e : Entry) → model_of model (es ++ e ∷ []) ≡ model_after (model_of model es) e.change
model_of-more model [] e = refl
model_of-more model (first ∷ es) e = model_of-more (model_after model first.change) es e

pub time_of-more : (time : ℕ) (es : List Entry) (e : Entry) → time_of time (es ++ e ∷ []) ≡ e.time
time_of-more time [] e = refl
time_of-more time (first ∷ es) e = time_of-more first.time es e
