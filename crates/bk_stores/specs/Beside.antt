-- Several databases on one device: what is done to one leaves the others.
use Rattle.std.specs.Prelude.{◌≡◌, ◌<◌, ◌^◌, ℕ, List}
use Rattle.bk_facts.specs.declared.facts.DataFile.{DataFile}
use Rattle.bk_paged.specs.Names.{names_of}
use Rattle.bk_side.specs.Names.{IsData}

-- no data file of one has the name of one of the other
abbrev pub ShareNoFile : List DataFile → List DataFile → Type 0
ShareNoFile files others = (name : List ℕ) → IsData (names_of files) name → IsData (names_of others) name → ⊥

-- two stores of different numbers, which share no data file
pub record AreApart (db : ℕ) (files : List DataFile) (other : ℕ) (others : List DataFile) : Type 0 where
  pub small : db < 2 ^ 64
  pub other_small : other < 2 ^ 64
  pub differ : db ≡ other → ⊥
  pub unshared : ShareNoFile files others
