-- Room: how many rows the files of a filegroup take.
-- SQL Server: "Database Files and Filegroups". That a row takes one of 504 cells of an extent is this project's own.
use Rattle.std.specs.Prelude.{◌≡◌, false, ℕ, ◌+◌, ◌*◌, ◌==◌, ◌&&◌, Bool, List, [], ◌∷◌, ◌++◌, length, map, flat_map, filter, nat_lt, if◌then◌else◌}
use Rattle.std.specs.List.{list_any}
use Rattle.bk_world.specs.declared.database.FileSpec.{FileSpec}
use Rattle.bk_world.specs.declared.database.TableSpec.{TableSpec}
use Rattle.bk_world.specs.Pending.{Pending, pending}
use Rattle.bk_world.specs.Records.{Logged, RowId, id_of, is_row}
use Rattle.bk_world.specs.Telling.{rows, tables}

abbrev pub has_row : RowId → List RowId → Bool
has_row id ids = list_any (is_row id) ids

-- each of some rows is there once
abbrev pub AreOnce : List RowId → Type 0
AreOnce [] = Unit {0}
AreOnce (id ∷ ids) = (has_row id ids ≡ false) × AreOnce ids

-- some rows, each once
abbrev pub each_once : List RowId → List RowId
each_once [] = []
each_once (id ∷ ids) = if has_row id ids then each_once ids else id ∷ each_once ids

-- the row is of a table of a group
abbrev pub in_group : List TableSpec → ℕ → RowId → Bool
in_group made group id = list_any (λ (t : TableSpec). t.number == id.0 && t.group == group) made

-- the rows of a group that are committed, and those that are written and not committed
abbrev pub group_rows : List Logged → ℕ → List RowId
group_rows rs group =
    flat_map (λ (t : TableSpec). map (λ row. (t.number, row.0)) (rows rs t.number)) (filter (λ (t : TableSpec). t.group == group) (tables rs))
    ++ filter (in_group (tables rs) group) (map (λ (w : Pending). id_of w.change) (pending rs))

-- the extents of a group's files
abbrev pub group_extents : List FileSpec → ℕ → ℕ
group_extents [] group = 0
group_extents (f ∷ files) group = if f.group == group then f.extents + group_extents files group else group_extents files group

-- rows of a statement don't fit into their group beside those that it has
unfoldable pub is_full : List Logged → List FileSpec → ℕ → List RowId → Bool
is_full rs files group ids = nat_lt (504 * group_extents files group) (length (each_once (ids ++ group_rows rs group)))
