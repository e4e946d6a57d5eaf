-- Paths of the data files of a set.
use Rattle.std.specs.Prelude.{ℕ, Bool, List, [], ◌∷◌, ◌++◌, Option, Some, None, Ok, Err, if◌then◌else◌}
use Rattle.std.specs.List.{list_any}
use Rattle.std.specs.Str.{bytes_eq}
use Rattle.bk_machine.specs.Checks.{Checked}
use Rattle.bk_world.specs.declared.header.HeaderFile.{HeaderFile}
use Rattle.bk_world.specs.declared.rule.Rule.TheVariants.{FileInUse}

-- one of some files of a set has a path
abbrev pub stands : List HeaderFile → List ℕ → Bool
stands files path = list_any (λ (file : HeaderFile). bytes_eq file.spec.path path) files

-- the first of some files whose path one before it has
abbrev pub first_repeated : List HeaderFile → List HeaderFile → Option HeaderFile
first_repeated before [] = None
first_repeated before (file ∷ files) = if stands before file.spec.path then Some file else first_repeated (before ++ file ∷ []) files

-- refused at a file of a set, if one was found
abbrev pub file_check : Option HeaderFile → Checked (Unit {0})
file_check None = Ok tt
file_check (Some file) = Err (FileInUse file.spec.path)
