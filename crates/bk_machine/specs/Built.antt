-- What worlds keep besides, as long as no statement says a minimal load: then each statement comes to an outcome.
use Rattle.std.specs.Prelude.{◌≡◌, ◌≢◌, ℕ, ◌==◌, List, [], ◌∷◌, Some}
use Rattle.std.specs.List.{AllByRecursion, find}
use Rattle.bk_ids.specs.declared.record.Place.{Place}
use Rattle.bk_world.specs.declared.database.FileSpec.{FileSpec}
use Rattle.bk_world.specs.declared.database.TableSpec.{TableSpec}
use Rattle.bk_world.specs.Lines.{log_below}
use Rattle.bk_world.specs.Medium.{Slot, Reading, readable, damaged, no_set, not_media, medium}
use Rattle.bk_world.specs.Places.{IsCellOf, IsFreePlace}
use Rattle.bk_world.specs.Records.{Deed, Logged, RowId, Said, loaded}
use Rattle.bk_machine.specs.Acts.{Act, done, logged, set_sealed, replaced}
use Rattle.bk_machine.specs.Sound.{files_of_set}
use Rattle.bk_machine.specs.World.{World, Database, log_of}

-- each file has a number of its own
abbrev pub AreFilesApart : List FileSpec → Type 0
AreFilesApart [] = Unit {0}
AreFilesApart (f ∷ files) = AllByRecursion (λ (g : FileSpec). g.number ≢ f.number) files × AreFilesApart files

-- a record of no minimal load
abbrev pub IsNoLoad : Deed → Type 0
IsNoLoad (loaded load) = ⊥
IsNoLoad _ = Unit {0}

-- a log that no load was said in, beside files of different numbers
pub record IsBuiltLog (files : List FileSpec) (rs : List Logged) : Type 0 where
  pub apart : AreFilesApart files
  pub loads : AllByRecursion (λ (r : Logged). IsNoLoad r.deed) rs

abbrev pub IsBuiltSlot : World → Slot → Type 0
IsBuiltSlot w (readable header) = IsBuiltLog (files_of_set header) (log_below w.history header.path header.last)
IsBuiltSlot w (damaged stored found) = Unit {0}
IsBuiltSlot w no_set = Unit {0}

abbrev pub IsBuiltReading : World → Reading → Type 0
IsBuiltReading w not_media = Unit {0}
IsBuiltReading w (medium slots) = AllByRecursion (IsBuiltSlot w) slots

-- a world of such logs
pub record IsBuilt (w : World) : Type 0 where
  pub databases : AllByRecursion (λ (db : Database). IsBuiltLog db.files (log_of w.history db)) w.databases
  pub media : AllByRecursion (λ (m : List ℕ × Reading). IsBuiltReading w m.1) w.media

-- a row lies in a cell of its table's group
pub record LiesWell (files : List FileSpec) (made : List TableSpec) (id : RowId) (at : Place) : Type 0 where
  pub table : TableSpec
  pub there : find (λ (m : TableSpec). m.number == id.0) made ≡ Some table
  pub cell : IsCellOf files table.group at

-- a cell of a group in which no row lies
pub record FreeCell (rs : List Logged) (files : List FileSpec) (group : ℕ) : Type 0 where
  pub at : Place
  pub cell : IsCellOf files group at
  pub free : IsFreePlace rs at

-- What an act says is no load, and a set that it seals or takes over has such a log.
abbrev pub SaysNoLoad : World → Act → Type 0
SaysNoLoad w (logged name said transactions) = AllByRecursion (λ (s : Said). IsNoLoad s.deed) said
SaysNoLoad w (set_sealed path header) = IsBuiltLog (files_of_set header) (log_below w.history header.path header.last)
SaysNoLoad w (replaced name header) = IsBuiltLog (files_of_set header) (log_below w.history header.path header.last)
SaysNoLoad w _ = Unit {0}

-- so do several acts, one after another
abbrev pub SayNoLoad : World → List Act → Type 0
SayNoLoad w [] = Unit {0}
SayNoLoad w (act ∷ acts) = SaysNoLoad w act × SayNoLoad (done w act) acts
