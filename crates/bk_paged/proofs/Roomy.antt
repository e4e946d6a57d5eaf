-- Data files of which a database may be made have room in a log's note.
use Rattle.std.proofs.Common.{◌≤◌, ℕ, ◌*◌, List, [], ◌∷◌, ◌++◌, length, length-append, arith}
use Rattle.std.specs.List.{AllByRecursion, flat_map}
use Rattle.bk_bytes.specs.Field.{bytes_of}
use Rattle.bk_bytes.specs.FieldLaws.{length-bytes_of}
use Rattle.bk_facts.specs.declared.facts.DataFile.{DataFile}
use Rattle.bk_facts.specs.Facts.{HasPath, file_bytes}
use Rattle.bk_paged.specs.Holds.{HaveRoom}
use Rattle.bk_paged.specs.Making.{MayBeMade}

files_short : (files : List DataFile) → AllByRecursion HasPath files → length (flat_map file_bytes files) ≤ 106 * length files
files_short [] paths = omega arith
files_short (f ∷ files) paths = omega (
  arith,
  length-append (file_bytes f) (flat_map file_bytes files),
  length-append (bytes_of 4 f.pages) (bytes_of 2 (length f.path) ++ f.path),
  length-append (bytes_of 2 (length f.path)) f.path,
  length-bytes_of 4 f.pages,
  length-bytes_of 2 (length f.path),
  paths.0.short,
  files_short files paths.1,
)

pub have_room : (files : List DataFile) (note : List ℕ) → MayBeMade files note → HaveRoom files note
have_room files note may = record {
  few = omega (arith, may.few);
  first = omega (
    arith,
    length-append (bytes_of 8 0) (bytes_of 2 (length files) ++ flat_map file_bytes files),
    length-append (bytes_of 2 (length files)) (flat_map file_bytes files),
    length-bytes_of 8 0,
    length-bytes_of 2 (length files),
    files_short files may.paths,
    may.few,
  );
  rest = may.short;
}
