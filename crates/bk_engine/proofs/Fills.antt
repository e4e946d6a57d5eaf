-- Data files of a set that may be filled.
use Rattle.std.proofs.Common.{◌≡◌, ℕ, List, [], ◌∷◌, map, sym, subst, arith}
use Rattle.std.specs.List.{AllByRecursion}
use Rattle.bk_facts.specs.declared.facts.DataFile.{DataFile}
use Rattle.bk_filling.specs.Filling.{HasPages, MayFill}
use Rattle.bk_paged.specs.Making.{MayBeMade}
use Rattle.bk_store.specs.Told.{data_file}
use Rattle.bk_world.specs.declared.database.FileSpec.{FileSpec}

-- each has its header pages
some-pages : (files : List FileSpec) → AllByRecursion HasPages (map data_file files)
some-pages [] = tt
some-pages (f ∷ files) = (omega arith, some-pages files)

-- so they may be filled where a database may be made of them
pub may-fill : (files : List FileSpec) (made : List DataFile) (note : List ℕ) → made ≡ map data_file files → MayBeMade made note → MayFill made
may-fill files made note same may = record { few = may.few; paths = may.paths; some = subst (AllByRecursion HasPages) (sym same) (some-pages files); different = may.different }
