-- Where rows lie: a row keeps its cell until it is gone by a commit.
-- That a row has one cell is this project's own.
use Rattle.std.specs.Prelude.{◌≢◌, ◌<◌, ◌≤◌, ℕ, ◌+◌, ◌*◌, ◌≡◌, List, [], ◌∷◌, Option, Some, None, is_some, if◌then◌else◌, ◌==◌}
use Rattle.std.specs.List.{find}
use Rattle.bk_ids.specs.declared.record.Place.{Place}
use Rattle.bk_world.specs.declared.database.FileSpec.{FileSpec}
use Rattle.bk_world.specs.Records.{Deed, Logged, RowId, committed, id_of, is_row}
use Rattle.bk_world.specs.Pending.{Pending, pending_after, pending, of_transaction}

-- the later one, where there is one
abbrev pub later : Option Pending → Option Pending → Option Pending
later (Some w) first = Some w
later None first = first

-- the last of some writes that is of this row
abbrev pub last_of : RowId → List Pending → Option Pending
last_of id [] = None
last_of id (w ∷ ws) = later (last_of id ws) (if is_row (id_of w.change) id then Some w else None)

-- where a row lies once this write, its last one, is committed: a row that is gone lies nowhere
abbrev pub home_behind : Option Pending → Option Place → Option Place
home_behind None home = home
home_behind (Some w) home = if is_some w.change.value then Some w.place else None

-- where a row lies with this write, its last one, pending
abbrev pub place_behind : Option Pending → Option Place → Option Place
place_behind None home = home
place_behind (Some w) home = Some w.place

abbrev pub homes_after : List Pending → (RowId → Option Place) → ℕ → Deed → RowId → Option Place
homes_after ws homes begin (committed time mark) = λ id. home_behind (last_of id (of_transaction begin ws)) (homes id)
homes_after ws homes begin _ = homes

abbrev pub homes_from : List Pending → (RowId → Option Place) → List Logged → RowId → Option Place
homes_from ws homes [] = homes
homes_from ws homes (r ∷ rs) = homes_from (pending_after ws r.lsn r.begin r.deed) (homes_after ws homes r.begin r.deed) rs

-- where committed rows lie
unfoldable pub homes : List Logged → RowId → Option Place
homes rs = homes_from [] (λ id. None) rs

-- where a row lies
unfoldable pub place_of : List Logged → RowId → Option Place
place_of rs id = place_behind (last_of id (pending rs)) (homes rs id)

-- no row lies here
abbrev pub IsFreePlace : List Logged → Place → Type 0
IsFreePlace rs at = (id : RowId) → place_of rs id ≢ Some at

-- a cell of a data page of a file of the group
pub record IsCellOf (files : List FileSpec) (group : ℕ) (at : Place) : Type 0 where
  pub file : FileSpec
  pub there : find (λ (f : FileSpec). f.number == at.file) files ≡ Some file
  pub of_group : file.group ≡ group
  pub from : 8 ≤ at.page
  pub below : at.page < 8 + 8 * file.extents
  pub slot : at.slot < 63
