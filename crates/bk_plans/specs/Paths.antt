-- Paths of data files.
use Rattle.std.specs.Prelude.{ℕ, Bool, List}
use Rattle.std.specs.List.{list_any}
use Rattle.std.specs.Str.{bytes_eq}
use Rattle.bk_world.specs.declared.database.FileSpec.{FileSpec}

-- one of some files has a path
abbrev pub has_file : List FileSpec → List ℕ → Bool
has_file files path = list_any (λ (file : FileSpec). bytes_eq file.path path) files
