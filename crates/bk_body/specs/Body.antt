-- What a backup set holds. SQL Server: "Media Sets, Media Families, and Backup Sets".
use Rattle.std.specs.Prelude.{ℕ, List}
use Rattle.bk_world.specs.declared.database.TableSpec.{TableSpec}
use Rattle.bk_world.specs.declared.header.Header.{Header}

-- an extent of a data file: the file's number, its own, and its eight pages
pub record Extent : Type 0 where
  pub file : ℕ
  pub extent : ℕ
  pub bytes : List ℕ

-- a set: its header, the tables of the database, data extents, and the bytes of its log records
pub record Body : Type 0 where
  pub header : Header
  pub tables : List TableSpec
  pub extents : List Extent
  pub log : List ℕ
