-- Tables, recovery model and last time at the end of a log, from those as of a number and the records from there on.
use Rattle.std.specs.Prelude.{◌≡◌, ℕ, List, [], ◌∷◌, ◌++◌, map, None}
use Rattle.bk_ids.specs.declared.record.Body.{Body}
use Rattle.bk_ids.specs.declared.record.Body.TheVariants.{Table}
use Rattle.bk_record.specs.Log.{IsLog}
use Rattle.bk_shown.specs.Steps.{model_behind, time_behind}
use Rattle.bk_undo.specs.Spelled.{spelled}
use Rattle.bk_world.specs.declared.database.TableSpec.{TableSpec}
use Rattle.bk_world.specs.Records.{Logged}
use Rattle.bk_world.specs.Telling as telling
use Rattle.bk_store.specs.declared.recent.Recent.{Recent}

-- the tables behind a record
abbrev pub tables_behind : Body → List TableSpec → List TableSpec
tables_behind (Table time number name group) before = before ++ (record { number = number; name = name; group = group }) ∷ []
tables_behind _ before = before

-- what a record makes of them
pub record Takes (body : Body) (old new : Recent) : Type 0 where
  pub tables : new.tables.items ≡ tables_behind body old.tables.items
  pub model : new.model ≡ model_behind body old.model
  pub time : new.time ≡ time_behind body old.time

-- they are what a log's records say
pub record Says (rs : List Logged) (r : Recent) : Type 0 where
  pub tables : r.tables.items ≡ telling.tables rs
  pub model : r.model ≡ telling.model rs
  pub time : r.time ≡ telling.time rs

-- These bytes spell the end of a log, and the records before it say this.
pub record SaysFront (rs : List Logged) (bytes : List ℕ) (r : Recent) : Type 0 where
  pub front : List Logged
  pub left : List Logged
  pub splits : rs ≡ front ++ left
  pub spells : IsLog bytes (map spelled left) None
  pub says : Says front r
