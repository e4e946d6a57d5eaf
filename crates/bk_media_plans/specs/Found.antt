-- A set of a medium, as it is read for a restore.
use Rattle.std.specs.Prelude.{◌≡◌, ◌≤◌, ℕ, List, length, Option, Result, Ok, Err}
use Rattle.bk_body.specs.Body.{Body}
use Rattle.bk_body.specs.Conditions.{IsBody}
use Rattle.bk_carried.specs.Carried.{Carries}
use Rattle.bk_header.specs.Conditions.{IsHeader, KeepsConditions}
use Rattle.bk_items.specs.declared.options.FileMove.{FileMove}
use Rattle.bk_machine.specs.Checks.{Checked}
use Rattle.bk_machine.specs.World.{World}
use Rattle.bk_machine.specs.statements.CreateTable.{most_tables}
use Rattle.bk_machine.specs.statements.Restore.{disk_path, moved, set_at}
use Rattle.bk_world.specs.declared.database.TableSpec.{TableSpec}
use Rattle.bk_world.specs.declared.header.Header.{Header}
use Rattle.bk_world.specs.declared.rule.Rule.{Rule}
use Rattle.bk_world.specs.Lines.{RecordLines}
use Rattle.bk_world.specs.Medium.{medium_at}

-- A set of a medium: its header, the tables of its database, and its log.
pub record Found : Type 0 where
  pub header : Header
  pub tables : List TableSpec
  pub log : List ℕ

-- it, under another header
abbrev pub under : Header → Found → Found
under header set = record set { header = header }

-- it, as it is restored: with its files at the paths to which they are moved
abbrev pub moved_set : List FileMove → Found → Found
moved_set moves set = under (moved moves set.header) set

-- what every set keeps of a header and its tables
pub record KeepsFound (set : Found) : Type 0 where
  pub header : KeepsConditions set.header
  pub few : length set.tables ≤ most_tables

-- it keeps that, and its header has a spelling
pub record IsFit (set : Found) : Type 0 where
  pub header : IsHeader set.header
  pub keeps : KeepsFound set

-- A set has this header, these tables and this log, and holds what its path shows.
pub record IsSetOf (lines : RecordLines) (set : Found) : Type 0 where
  pub body : Body
  pub is_body : IsBody body
  pub header_is : body.header ≡ set.header
  pub tables_are : body.tables ≡ set.tables
  pub log_is : body.log ≡ set.log
  pub carries : Carries lines body

-- the header of the set that was found on a medium, or the rule by which it is refused
abbrev pub header_of : Result Found Rule → Checked Header
header_of (Ok set) = Ok set.header
header_of (Err rule) = Err rule

-- a set that was found holds what its path shows
abbrev pub IsCarriedSet : World → Result Found Rule → Type 0
IsCarriedSet w (Ok set) = IsSetOf w.history set
IsCarriedSet w (Err rule) = Unit {0}

-- what was found at a position of the medium at a path is what the machine finds there
pub record FindsSet (position : ℕ) (disk : Option (List ℕ)) (found : Result Found Rule) (w : World) : Type 0 where
  pub is : set_at position (medium_at w.media (disk_path disk)) ≡ header_of found
  pub carries : IsCarriedSet w found
