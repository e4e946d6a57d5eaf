-- What a database's note holds before that of the layer above: its name, its family in 16 bytes, its branches behind their number of two bytes, groups, files and log; then a number in
-- eight bytes, and as the records below it say tables, each its number in four bytes, its name and its group in one, behind their number of two bytes, the recovery model in one byte
-- and the last time in eight.
use Rattle.std.specs.Prelude.{◌≡◌, ◌<◌, ◌≤◌, ◌^◌, ℕ, List, ◌++◌, length, Some}
use Rattle.std.specs.List.{AllByRecursion, flat_map}
use Rattle.bk_bytes.specs.Codec.{Codec, IsString, number, string, followed, converted, counted}
use Rattle.bk_bytes.specs.Field.{bytes_of}
use Rattle.bk_fields.specs.Guids.{IsGuid, guid_bytes, guid_form}
use Rattle.bk_fields.specs.Models.{model_bytes, model_form}
use Rattle.bk_header.specs.Reading.{IsBranch, branch_form}
use Rattle.bk_header.specs.Spelling.{branch_bytes, text_bytes}
use Rattle.bk_ids.specs.declared.path.Branch.{Branch}
use Rattle.bk_world.specs.declared.database.Storage.{Storage}
use Rattle.bk_world.specs.declared.database.TableSpec.{TableSpec}
use Rattle.bk_known.specs.declared.known.AsOf.{AsOf}
use Rattle.bk_known.specs.declared.known.DatabaseSpec.{DatabaseSpec}
use Rattle.bk_known.specs.declared.known.Known.{Known}
use Rattle.bk_storage.specs.Storage.{IsStorage, KeepsStorage, storage_bytes, storage_form}

-- ---- its spelling

abbrev pub path_bytes : List Branch → List ℕ
path_bytes path = bytes_of 2 (length path) ++ flat_map branch_bytes path

abbrev pub table_bytes : TableSpec → List ℕ
table_bytes t = bytes_of 4 t.number ++ (text_bytes t.name ++ bytes_of 1 t.group)

abbrev pub tables_bytes : List TableSpec → List ℕ
tables_bytes tables = bytes_of 2 (length tables) ++ flat_map table_bytes tables

abbrev pub database_bytes : DatabaseSpec → List ℕ
database_bytes spec = text_bytes spec.name ++ (guid_bytes spec.family ++ (path_bytes spec.path ++ storage_bytes spec.storage))

abbrev pub as_of_bytes : AsOf → List ℕ
as_of_bytes a = bytes_of 8 a.from ++ (tables_bytes a.tables ++ (model_bytes a.model ++ bytes_of 8 a.time))

abbrev pub known_bytes : Known → List ℕ
known_bytes known = database_bytes known.spec ++ as_of_bytes known.as_of

-- ---- which have a spelling

pub record IsTable (t : TableSpec) : Type 0 where
  pub number : t.number < 2 ^ 32
  pub name : IsString 1 64 t.name
  pub group : t.group < 2 ^ 8

pub record IsDatabase (spec : DatabaseSpec) : Type 0 where
  pub name : IsString 1 64 spec.name
  pub family : IsGuid spec.family
  pub path : (length spec.path < 256 ^ 2) × AllByRecursion IsBranch spec.path
  pub storage : IsStorage spec.storage

pub record IsAsOf (a : AsOf) : Type 0 where
  pub from : a.from < 2 ^ 64
  pub tables : (length a.tables < 256 ^ 2) × AllByRecursion IsTable a.tables
  pub time : a.time < 2 ^ 64

pub record IsKnown (known : Known) : Type 0 where
  pub spec : IsDatabase known.spec
  pub as_of : IsAsOf known.as_of

-- a storage that a note has room for: at most 8 groups and 16 data files
pub record FitsNote (s : Storage) : Type 0 where
  pub keeps : KeepsStorage s
  pub groups : length s.groups ≤ 8
  pub files : length s.files ≤ 16

-- what it keeps beside its types: at most 64 branches and 64 tables
pub record KeepsKnown (known : Known) : Type 0 where
  pub path : length known.spec.path ≤ 64
  pub storage : FitsNote known.spec.storage
  pub tables : length known.as_of.tables ≤ 64

-- ---- how it is read

unfoldable pub table_form : Codec TableSpec
table_form = converted (followed (number 4) (λ _. followed (string 1 64) (λ _. number 1)))
    (λ x. Some (record { number = x.0; name = x.1.0; group = x.1.1 }))
    (λ t. (t.number, (t.name, t.group)))
    IsTable

unfoldable pub database_form : Codec DatabaseSpec
database_form = converted (followed (string 1 64) (λ _. followed guid_form (λ _. followed (counted 2 branch_form) (λ _. storage_form))))
    (λ x. Some (record { name = x.0; family = x.1.0; path = x.1.1.0; storage = x.1.1.1 }))
    (λ spec. (spec.name, (spec.family, (spec.path, spec.storage))))
    IsDatabase

unfoldable pub as_of_form : Codec AsOf
as_of_form = converted (followed (number 8) (λ _. followed (counted 2 table_form) (λ _. followed model_form (λ _. number 8))))
    (λ x. Some (record { from = x.0; tables = x.1.0; model = x.1.1.0; time = x.1.1.1 }))
    (λ a. (a.from, (a.tables, (a.model, a.time))))
    IsAsOf

unfoldable pub known_form : Codec Known
known_form = converted (followed database_form (λ _. as_of_form))
    (λ x. Some (record { spec = x.0; as_of = x.1 }))
    (λ known. (known.spec, known.as_of))
    IsKnown

-- the bytes begin with this, and the note of the layer above is behind it
abbrev pub Tells : List ℕ → Known → List ℕ → Type 0
Tells bytes known note = known_form.reading bytes ≡ Some (known, note)
