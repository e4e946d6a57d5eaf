-- Which files a call on an instance's stores touched: the instance's own, and those of stores.
use Rattle.std.proofs.Common.{◌⊎◌, ℕ, List, map, inl, inr, subst, sym}
use Rattle.bk_device.specs.Calls.{ChangesNothing}
use Rattle.bk_device.specs.Compose.{effect_none, effect_of_nothing, effect_widen}
use Rattle.bk_device.specs.Disk.{Disk, Files}
use Rattle.bk_device.specs.Effects.{Effect}
use Rattle.bk_facts.specs.declared.facts.DataFile.{DataFile}
use Rattle.bk_filling.specs.Removing.{IsPart}
use Rattle.bk_master.specs.Master.{IsOwn as IsOfMaster}
use Rattle.bk_reopening.specs.Opening.{TouchesDatabase}
use Rattle.bk_paged.specs.Names.{IsOwn}
use Rattle.bk_segments.specs.Files.{IsOwn as IsOfLog}
use Rattle.bk_side.specs.Names.{data_file, side_file, IsOwn as IsOfSide}
use Rattle.bk_stores.specs.AddLaws.{named-at}
use Rattle.bk_stores.specs.Stores.{IsOurs, TouchesOurs, at_paths}

-- nothing was done
pub none-touched : (a : Disk) → TouchesOurs a a
none-touched a = effect_none a (λ image mine. tt)

-- nothing was changed
pub nothing-touched : {a b : Disk} → ChangesNothing a b → TouchesOurs a b
nothing-touched call = effect_of_nothing (λ image mine. tt) call

-- files were touched that are ours
pub ours-touched : {own : List ℕ → Type 0} {P : Files → Type 0} {a b : Disk} → ((name : List ℕ) → own name → IsOurs name) → Effect own P a b → TouchesOurs a b
ours-touched ours effect = effect_widen ours (λ image here left. tt) effect

-- the instance's own
pub master-touched : {P : Files → Type 0} {a b : Disk} → Effect IsOfMaster P a b → TouchesOurs a b
master-touched effect = ours-touched (λ name own. inl own) effect

-- those of a store
pub own-touched : (db : ℕ) (files : List DataFile) {P : Files → Type 0} {a b : Disk} → Effect (IsOwn db files) P a b → TouchesOurs a b
own-touched db files effect = ours-touched (λ name own. inr (db, files, own)) effect

-- whichever its data files are
pub database-touched : {a b : Disk} (db : ℕ) → TouchesDatabase db a b → TouchesOurs a b
database-touched db touches = ours-touched (λ name own. inr (db, own.0, own.1)) touches

-- a part of a store with data files at these paths is one of its names
pub part-ours : (db : ℕ) (paths : List (List ℕ)) (name : List ℕ) → IsPart db (map data_file paths) name → IsOurs name
part-ours db paths name part = inr (db, at_paths paths, subst (λ (ns : List (List ℕ)). IsOfLog db name ⊎ IsOfSide (side_file db) ns name) (sym (named-at paths)) part)

-- its parts
pub parts-touched : (db : ℕ) (paths : List (List ℕ)) {P : Files → Type 0} {a b : Disk} → Effect (IsPart db (map data_file paths)) P a b → TouchesOurs a b
parts-touched db paths effect = ours-touched (part-ours db paths) effect
