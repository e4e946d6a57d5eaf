-- What a log tells with a table, a checkpoint, a stamp or a row's transaction behind it.
use Rattle.std.proofs.Common.{◌≡◌, ◌<◌, ℕ, ◌+◌, List, [], ◌∷◌, ◌++◌, length, Option, ◌∙◌, ap, arith}
use Rattle.std.specs.List.{AllByRecursion}
use Rattle.std.proofs.lemmas.List.{append-nil}
use Rattle.bk_ids.specs.declared.guid.Guid.{Guid}
use Rattle.bk_ids.specs.declared.record.Place.{Place}
use Rattle.bk_ids.specs.declared.record.RecoveryModel.TheVariants.{Full}
use Rattle.bk_world.specs.declared.database.TableSpec.{TableSpec}
use Rattle.bk_world.specs.Entry as entry
use Rattle.bk_world.specs.Entry.{Entry, RowChange}
use Rattle.bk_world.specs.Entry.{plain_entry}
use Rattle.bk_world.specs.FoldLaws.{model_of-more, tables_of-more, time_of-more}
use Rattle.bk_world.specs.Pending.{pending}
use Rattle.bk_world.specs.ReadingLaws.{entries-more, entries-single, pending-more}
use Rattle.bk_world.specs.Records.{Logged, checkpointed, more, numbered, stamped, table_made}
use Rattle.bk_world.specs.Rows.{model_of, tables_of, time_of}
use Rattle.bk_world.specs.Says.{alone, begin_said, single_said, write_said}
use Rattle.bk_world.specs.Telling.{entries, model, tables, time}
use Rattle.bk_machine.specs.Sound.{AreNumbered}

-- one table more has the next number
pub numbered-more : (n : ℕ) (made : List TableSpec) (t : TableSpec) → AreNumbered n made → t.number ≡ n + length made → AreNumbered n (made ++ t ∷ [])
numbered-more n [] t all is = let none : List TableSpec = [] in let same : t.number ≡ n = omega (arith, is) in (same, tt)
numbered-more n (first ∷ made) t all is = (all.0, numbered-more (n + 1) made t all.1 (omega (arith, is)))

pub tables-made : (rs : List Logged) (n at : ℕ) (t : TableSpec) → tables (more rs n (alone (table_made at t))) ≡ tables rs ++ t ∷ []
unfolding tables
tables-made rs n at t =
    ap tables_of (entries-more rs (numbered n (alone (table_made at t)))) ∙ tables_of-more (entries rs) (plain_entry n at (entry.table_made t))

-- a log with one record behind it that changes nothing
pub record TellsOn (rs new : List Logged) (at : ℕ) : Type 0 where
  pub tables : tables new ≡ tables rs
  pub model : model new ≡ model rs
  pub time : time new ≡ at
  pub pending : pending new ≡ pending rs

tells-on : (rs new : List Logged) (n at : ℕ) → entries new ≡ entries rs ++ plain_entry n at entry.nothing ∷ [] → pending new ≡ pending rs → TellsOn rs new at
unfolding tables model time
tells-on rs new n at told same = record {
  tables = ap tables_of told ∙ tables_of-more (entries rs) (plain_entry n at entry.nothing) ∙ append-nil (tables_of (entries rs));
  model = ap (model_of Full) told ∙ model_of-more Full (entries rs) (plain_entry n at entry.nothing);
  time = ap (time_of 0) told ∙ time_of-more 0 (entries rs) (plain_entry n at entry.nothing);
  pending = same;
}

pub tells-checkpoint : (rs : List Logged) (n at : ℕ) → TellsOn rs (more rs n (alone (checkpointed at))) at
tells-checkpoint rs n at =
    tells-on rs (more rs n (alone (checkpointed at))) n at (entries-more rs (numbered n (alone (checkpointed at)))) (pending-more rs (numbered n (alone (checkpointed at))))

pub tells-stamp : (rs : List Logged) (n at : ℕ) (set : Guid) → TellsOn rs (more rs n (alone (stamped at set))) at
tells-stamp rs n at set =
    tells-on rs (more rs n (alone (stamped at set))) n at (entries-more rs (numbered n (alone (stamped at set)))) (pending-more rs (numbered n (alone (stamped at set))))

-- a row's transaction makes no table
pub tables-single : (rs : List Logged) (n : ℕ) (at : Place) (before : Option (List ℕ)) (c : RowChange) (now : ℕ) → AllByRecursion (λ w. w.begin < n) (pending rs) → tables (more rs n (single_said n at before c now)) ≡ tables rs
unfolding tables
tables-single rs n at before c now new =
    ap tables_of (entries-single rs n at before c now new) ∙ tables_of-more (entries rs) _ ∙ append-nil (tables_of (entries rs))

-- nor does a write
pub tables-written : (rs : List Logged) (n begin : ℕ) (at : Place) (before : Option (List ℕ)) (c : RowChange) → tables (more rs n (write_said begin at before c)) ≡ tables rs
unfolding tables
tables-written rs n begin at before c = ap tables_of (entries-more rs (numbered n (write_said begin at before c)) ∙ append-nil (entries rs))

-- nor does its begin
pub tables-begun : (rs : List Logged) (n : ℕ) → tables (more rs n (begin_said n)) ≡ tables rs
unfolding tables
tables-begun rs n = ap tables_of (entries-more rs (numbered n (begin_said n)) ∙ append-nil (entries rs))
