-- The data files of a set, as its header names them.
use Rattle.std.proofs.Common.{◌≡◌, List, [], ◌∷◌, map, refl, ap}
use Rattle.bk_machine.specs.Sound.{files_of_set}
use Rattle.bk_world.specs.declared.database.FileSpec.{FileSpec}
use Rattle.bk_world.specs.declared.header.Header.{Header}
use Rattle.bk_world.specs.declared.header.HeaderFile.{HeaderFile}

-- a file that a header names
abbrev pub spec_of : HeaderFile → FileSpec
spec_of file = file.spec

pub specs-are : (header : Header) → files_of_set header ≡ map spec_of header.files
specs-are header = by header.files
  where
    by : (files : List HeaderFile) → files_of_set (record header { files = files }) ≡ map spec_of files
    by [] = refl
    by (f ∷ files) = ap (λ (rest : List FileSpec). f.spec ∷ rest) (by files)
