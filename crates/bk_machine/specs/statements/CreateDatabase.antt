-- CREATE DATABASE, with its files, its filegroups and its log. SQL Server: CREATE DATABASE (Transact-SQL).
use Rattle.std.specs.Prelude.{◌≡◌, ℕ, ◌+◌, ◌*◌, ◌/◌, max, min, Bool, true, not, ◌||◌, ◌&&◌, nat_le, nat_lt, List, [], ◌∷◌, ◌++◌, length, map, take, codes, Option, Some, None, is_some, Ok, Err, if◌then◌else◌}
use Rattle.std.specs.Fmt.Cut.{floor_char_boundary}
use Rattle.std.specs.List.{find, list_all, list_any}
use Rattle.std.specs.Option.{option_map}
use Rattle.std.specs.Str.{bytes_eq}
use Rattle.bk_ids.specs.Name.{same_name}
use Rattle.bk_items.specs.declared.item.NewFile.{NewFile}
use Rattle.bk_items.specs.declared.item.NewGroup.{NewGroup}
use Rattle.bk_items.specs.declared.item.Size.{Size}
use Rattle.bk_items.specs.declared.item.SizeUnit.{SizeUnit}
use Rattle.bk_items.specs.declared.item.SizeUnit.TheVariants as unit
use Rattle.bk_world.specs.declared.database.FileSpec.{FileSpec}
use Rattle.bk_world.specs.declared.database.Storage.{Storage}
use Rattle.bk_world.specs.declared.reply.Reply.TheVariants.{Done}
use Rattle.bk_world.specs.declared.rule.Limit.TheVariants as which
use Rattle.bk_world.specs.declared.rule.Rule.TheVariants.{DatabaseExists, FileInUse, LimitReached, NotBuilt}
use Rattle.bk_machine.specs.Acts.{created, drawn, latest}
use Rattle.bk_machine.specs.Checks.{Checked, ◌>>=◌, refuse_if, outside, limit, used_up, is_name, is_path, is_system, most_databases, paths_of, has_path}
use Rattle.bk_machine.specs.Files.{extents_in, most_extents, most_files}
use Rattle.bk_machine.specs.Outcome.{Outcome, in_one}
use Rattle.bk_machine.specs.World.{World, Database, database_named}
use Rattle.bk_machine.specs.statements.CreateTable.{most_groups}

-- Files.

-- the extents of 64 KB that a size takes; it is in MB where it has no unit
abbrev pub size_extents : ℕ → Option SizeUnit → ℕ
size_extents n None = 16 * n
size_extents n (Some unit.Kb) = (n + 63) / 64
size_extents n (Some unit.Mb) = 16 * n
size_extents n (Some unit.Gb) = 16384 * n
size_extents n (Some unit.Extents) = n

-- the extents of a file: at least one, and 128 where it has no size
abbrev pub extents_of : Option Size → ℕ
extents_of None = 128
extents_of (Some size) = max 1 (size_extents size.count size.unit)

-- a file of a filegroup, under this number
abbrev pub file_spec : ℕ → ℕ → NewFile → FileSpec
file_spec number group f = record { number = number; group = group; extents = extents_of f.size; name = f.name; path = f.path }

-- the files of a filegroup, from this number on
abbrev pub files_in : ℕ → ℕ → List NewFile → List FileSpec
files_in number group [] = []
files_in number group (f ∷ files) = file_spec number group f ∷ files_in (number + 1) group files

-- those of several filegroups
abbrev pub files_of : ℕ → ℕ → List NewGroup → List FileSpec
files_of number group [] = []
files_of number group (g ∷ groups) = files_in number group g.files ++ files_of (number + length g.files) (group + 1) groups

-- the files of PRIMARY: where none is named, one that has the database's name, and that as its path
abbrev pub primary_files : List ℕ → List NewFile → List NewFile
primary_files name [] = (record { name = name; path = name; size = None }) ∷ []
primary_files name (f ∷ files) = f ∷ files

unfoldable pub new_files : List ℕ → List NewFile → List NewGroup → List FileSpec
new_files name primary groups = files_in 1 0 (primary_files name primary) ++ files_of (length (primary_files name primary) + 1) 1 groups

-- Filegroups.

abbrev pub new_groups : List NewGroup → List (List ℕ)
new_groups groups = codes "PRIMARY" ∷ map (λ (g : NewGroup). g.name) groups

-- The log.

-- the longest front of a text that has at most n bytes and ends between characters
abbrev pub text_front : ℕ → List ℕ → List ℕ
text_front n text = if nat_le (length text) n then text else take (floor_char_boundary text n) text

-- the name and the path of the log where none is named
abbrev pub default_log : List ℕ → List ℕ
default_log name = text_front 60 name ++ codes "_log"

abbrev pub new_log_name : List ℕ → Option NewFile → List ℕ
new_log_name name None = default_log name
new_log_name name (Some log) = log.name

abbrev pub new_log_path : List ℕ → Option NewFile → List ℕ
new_log_path name None = default_log name
new_log_path name (Some log) = log.path

-- all of that
abbrev pub new_storage : List ℕ → List NewFile → List NewGroup → Option NewFile → Storage
new_storage name primary groups log =
    record { groups = new_groups groups; files = new_files name primary groups; log_name = new_log_name name log; log_path = new_log_path name log }

-- Rules.

-- names have 1 to 64 bytes and paths 1 to 100
abbrev pub is_named_file : NewFile → Bool
is_named_file f = is_name f.name && is_path f.path

abbrev pub is_named_group : NewGroup → Bool
is_named_group g = is_name g.name && list_all is_named_file g.files

abbrev pub is_named_log : Option NewFile → Bool
is_named_log None = true
is_named_log (Some log) = is_named_file log

abbrev pub are_named : List ℕ → List NewFile → List NewGroup → Option NewFile → Bool
are_named name primary groups log = is_name name && list_all is_named_file primary && list_all is_named_group groups && is_named_log log

-- there are no more files, filegroups and extents than a database may have
unfoldable pub check_limits : Storage → Checked (Unit {0})
check_limits s = do
  _ ← refuse_if (nat_lt most_files (length s.files)) (LimitReached which.Files)
  _ ← refuse_if (nat_lt most_groups (length s.groups)) (LimitReached which.Groups)
  refuse_if (nat_lt most_extents (extents_in s.files)) (LimitReached which.Extents)

-- the first one that another one behind it is like
abbrev pub repeated : {A : Type 0} → (A → A → Bool) → List A → Option A
repeated like [] = None
repeated like (a ∷ others) = if list_any (like a) others then Some a else repeated like others

-- refused by this name or path, if one was found
abbrev pub refuse_found : Option (List ℕ) → Checked (Unit {0})
refuse_found None = Ok tt
refuse_found (Some found) = Err (FileInUse found)

-- the first file whose path a file of a database has, whose name or whose path another one behind it has
abbrev pub used_file : List Database → List FileSpec → Option FileSpec
used_file databases files = find (λ (f : FileSpec). has_path (paths_of databases) f.path) files

abbrev pub namesake : List FileSpec → Option FileSpec
namesake files = repeated (λ (f other : FileSpec). same_name f.name other.name) files

abbrev pub same_path : List FileSpec → Option FileSpec
same_path files = repeated (λ (f other : FileSpec). bytes_eq f.path other.path) files

-- no path is in use, and no two files or filegroups are alike
unfoldable pub check_in_use : List Database → Storage → Checked (Unit {0})
check_in_use databases s = do
  _ ← refuse_found (option_map (λ (f : FileSpec). f.path) (used_file databases s.files))
  _ ← refuse_found (option_map (λ (f : FileSpec). f.name) (namesake s.files))
  _ ← refuse_found (repeated same_name s.groups)
  refuse_found (option_map (λ (f : FileSpec). f.path) (same_path s.files))

-- it is free to be used, and there are GUIDs left
unfoldable pub check_free : World → Storage → Checked Storage
check_free w s = do
  _ ← check_in_use w.databases s
  _ ← limit (used_up w.counter)
  Ok s

unfoldable pub check_create_database : World → ℕ → List ℕ → List NewFile → List NewGroup → Option NewFile → Checked Storage
check_create_database w line name primary groups log = do
  _ ← refuse_if (not (are_named name primary groups log)) (NotBuilt line)
  _ ← outside w
  _ ← refuse_if (is_system name || is_some (database_named w.databases name)) DatabaseExists
  _ ← refuse_if (nat_le most_databases (length w.databases)) (LimitReached which.Databases)
  _ ← check_limits (new_storage name primary groups log)
  check_free w (new_storage name primary groups log)

-- two GUIDs are drawn, the family and then the first branch, and the database says its first record
abbrev pub DoesCreateDatabase : World → List ℕ → ℕ → Storage → Outcome → Type 0
DoesCreateDatabase w name now storage outcome =
    outcome ≡ in_one (created (record { name = name; family = drawn w w.counter; branch = drawn w (w.counter + 1); time = min now latest; storage = storage })) Done
