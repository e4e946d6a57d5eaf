-- How the filegroups, data files and log of a database are spelled and read.
use Rattle.std.specs.Prelude.{ℕ, ◌^◌, ◌<◌, ◌≤◌, List, ◌++◌, length, Some}
use Rattle.std.specs.List.{flat_map, All, AllByRecursion}
use Rattle.bk_bytes.specs.Codec.{Codec, IsString, number, string, followed, converted, counted}
use Rattle.bk_bytes.specs.Field.{bytes_of}
use Rattle.bk_header.specs.Spelling.{text_bytes}
use Rattle.bk_world.specs.declared.database.FileSpec.{FileSpec}
use Rattle.bk_world.specs.declared.database.Storage.{Storage}

-- ---- their spelling

abbrev pub spec_bytes : FileSpec → List ℕ
spec_bytes f = bytes_of 2 f.number ++ (bytes_of 1 f.group ++ (bytes_of 4 f.extents ++ (text_bytes f.name ++ text_bytes f.path)))

abbrev pub groups_bytes : List (List ℕ) → List ℕ
groups_bytes groups = bytes_of 1 (length groups) ++ flat_map text_bytes groups

abbrev pub files_bytes : List FileSpec → List ℕ
files_bytes files = bytes_of 2 (length files) ++ flat_map spec_bytes files

abbrev pub storage_bytes : Storage → List ℕ
storage_bytes s = groups_bytes s.groups ++ (files_bytes s.files ++ (text_bytes s.log_name ++ text_bytes s.log_path))

-- ---- which have a spelling

pub record IsSpec (f : FileSpec) : Type 0 where
  pub number : f.number < 2 ^ 16
  pub group : f.group < 2 ^ 8
  pub extents : f.extents < 2 ^ 32
  pub name : IsString 1 64 f.name
  pub path : IsString 1 100 f.path

pub record IsStorage (s : Storage) : Type 0 where
  pub groups : (length s.groups < 256 ^ 1) × AllByRecursion (IsString 1 64) s.groups
  pub files : (length s.files < 256 ^ 2) × AllByRecursion IsSpec s.files
  pub log_name : IsString 1 64 s.log_name
  pub log_path : IsString 1 100 s.log_path

-- what they keep beside their types: paths have 1 to 100 bytes, and what is counted isn't too much for its count

abbrev pub HasPath : FileSpec → Type 0
HasPath f = (1 ≤ length f.path) × (length f.path ≤ 100)

pub record KeepsStorage (s : Storage) : Type 0 where
  pub groups : length s.groups < 256 ^ 1
  pub files : length s.files < 256 ^ 2
  pub paths : All HasPath s.files
  pub log_path_some : 1 ≤ length s.log_path
  pub log_path_short : length s.log_path ≤ 100

-- ---- how they are read

unfoldable pub spec_form : Codec FileSpec
spec_form = converted
    (followed (number 2) (λ _. followed (number 1) (λ _. followed (number 4) (λ _. followed (string 1 64) (λ _. string 1 100)))))
    (λ x. Some (record { number = x.0; group = x.1.0; extents = x.1.1.0; name = x.1.1.1.0; path = x.1.1.1.1 }))
    (λ f. (f.number, (f.group, (f.extents, (f.name, f.path)))))
    IsSpec

unfoldable pub storage_form : Codec Storage
storage_form = converted
    (followed (counted 1 (string 1 64)) (λ _. followed (counted 2 spec_form) (λ _. followed (string 1 64) (λ _. string 1 100))))
    (λ x. Some (record { groups = x.0; files = x.1.0; log_name = x.1.1.0; log_path = x.1.1.1 }))
    (λ s. (s.groups, (s.files, (s.log_name, s.log_path))))
    IsStorage
