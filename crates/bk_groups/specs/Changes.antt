-- What the calls change.
use Rattle.std.specs.Prelude.{◌≡◌, ℕ, ◌==◌, ◌&&◌, Option, Some, if◌then◌else◌}
use Rattle.bk_ids.specs.declared.record.Place.{Place}
use Rattle.bk_groups.specs.Groups.{Space, place_of, group_of}

-- a row has this place, or none, and nothing else changes
pub record SetsPlace (old new : Space) (table key : ℕ) (at : Option Place) : Type 0 where
  pub rooms : new.rooms ≡ old.rooms
  pub tables : new.tables ≡ old.tables
  pub places : (t k : ℕ) → place_of new t k ≡ (if t == table && k == key then at else place_of old t k)

-- there is one more table, and nothing else changes
pub record AddsTable (old new : Space) (table group : ℕ) : Type 0 where
  pub rooms : new.rooms ≡ old.rooms
  pub places : new.places ≡ old.places
  pub tables : (t : ℕ) → group_of new t ≡ (if t == table then Some group else group_of old t)
