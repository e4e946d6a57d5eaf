-- Databases of which a store's note alone tells.
use Rattle.std.specs.Prelude.{◌≡◌, ◌++◌, ℕ, List}
use Rattle.bk_known.specs.declared.known.Known.{Known}
use Rattle.bk_known.specs.Known.{IsKnown, known_bytes}
use Rattle.bk_store.specs.Told.{IsNoted, Told}
use Rattle.bk_world.specs.Cut.{end_behind}

-- A description and a note tell of this database: tables, model and time are as of its end.
pub record IsParked (known : Known) (note : List ℕ) (told : Told) : Type 0 where
  pub noted : IsNoted known told
  pub same : told.note ≡ note
  pub from : known.as_of.from ≡ end_behind told.records

-- these bytes spell a description and a note behind it
pub record Spells (bytes : List ℕ) (known : Known) (note : List ℕ) : Type 0 where
  pub spelled : IsKnown known
  pub are : bytes ≡ known_bytes known ++ note
