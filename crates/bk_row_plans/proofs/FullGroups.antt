-- What the machine's laws say of rows and room in the files of a log.
use Rattle.std.proofs.Common.{◌≡◌, ℕ, false, List, [], ◌∷◌, Some, None}
use Rattle.std.specs.List.{find}
use Rattle.std.specs.Prelude.{◌==◌}
use Rattle.bk_ids.specs.declared.record.Place.{Place}
use Rattle.bk_machine.specs.Built.{FreeCell, LiesWell}
use Rattle.bk_machine.specs.Room.{is_full}
use Rattle.bk_world.specs.Places.{place_of}
use Rattle.bk_world.specs.Records.{Logged, RowId}
use Rattle.bk_world.specs.Telling.{tables}
use Rattle.bk_world.specs.declared.database.FileSpec.{FileSpec}
use Rattle.bk_world.specs.declared.database.TableSpec.{TableSpec}

-- what the machine's laws say of a log in files
pub record FullWhere (files : List FileSpec) (rs : List Logged) : Type 0 where
  pub lies : (id : RowId) (at : Place) → place_of rs id ≡ Some at → LiesWell files (tables rs) id at
  pub room : (group : ℕ) (id : RowId) → place_of rs id ≡ None → is_full rs files group (id ∷ []) ≡ false → FreeCell rs files group
  pub free : (group : ℕ) (id : RowId) → place_of rs id ≡ None → FreeCell rs files group → is_full rs files group (id ∷ []) ≡ false
  pub own : (id : RowId) (at : Place) (t : TableSpec) → place_of rs id ≡ Some at → find (λ (m : TableSpec). m.number == id.0) (tables rs) ≡ Some t → is_full rs files t.group (id ∷ []) ≡ false
