-- What a database's note holds before that of the layer above: the number of the latest checkpoint in eight bytes, the number of data files in two, and of each how many
-- pages it has in four and its path of 1 to 100 bytes behind a length of two. All numbers have the lowest byte first.
use Rattle.std.specs.Prelude.{◌≡◌, ◌<◌, ◌≤◌, ◌^◌, ℕ, List, ◌++◌, length, Some}
use Rattle.std.specs.List.{AllByRecursion, flat_map}
use Rattle.bk_bytes.specs.Codec.{Codec, IsString, number, string, followed, converted, counted}
use Rattle.bk_bytes.specs.Field.{bytes_of}
use Rattle.bk_facts.specs.declared.facts.DataFile.{DataFile}
use Rattle.bk_facts.specs.declared.facts.Facts.{Facts}

-- the bytes of a data file
abbrev pub file_bytes : DataFile → List ℕ
file_bytes f = bytes_of 4 f.pages ++ (bytes_of 2 (length f.path) ++ f.path)

-- the data files that are spelled
pub record IsDataFile (f : DataFile) : Type 0 where
  pub pages : f.pages < 2 ^ 32
  pub path : IsString 1 100 f.path

unfoldable pub file_form : Codec DataFile
file_form = converted (followed (number 4) (λ _. string 1 100)) (λ x. Some (record { path = x.1; pages = x.0 })) (λ f. (f.pages, f.path)) IsDataFile

-- the bytes of facts
abbrev pub facts_bytes : Facts → List ℕ
facts_bytes facts = bytes_of 8 facts.checkpoint ++ (bytes_of 2 (length facts.files) ++ flat_map file_bytes facts.files)

-- the facts that are spelled
pub record AreFacts (facts : Facts) : Type 0 where
  pub checkpoint : facts.checkpoint < 2 ^ 64
  pub few : length facts.files < 2 ^ 16
  pub files : AllByRecursion IsDataFile facts.files

unfoldable pub facts_form : Codec Facts
facts_form = converted (followed (number 8) (λ _. counted 2 file_form)) (λ x. Some (record { checkpoint = x.0; files = x.1 })) (λ facts. (facts.checkpoint, facts.files)) AreFacts

-- the bytes begin with these facts, and the note of the layer above is behind them
abbrev pub Notes : List ℕ → Facts → List ℕ → Type 0
Notes bytes facts note = facts_form.reading bytes ≡ Some (facts, note)

-- a path has 1 to 100 bytes
pub record HasPath (f : DataFile) : Type 0 where
  pub some : 1 ≤ length f.path
  pub short : length f.path ≤ 100
