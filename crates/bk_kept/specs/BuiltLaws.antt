-- A log that is shown is one in which no load was said, beside files of different numbers.
use Rattle.std.proofs.Common.{◌≡◌, ◌<◌, ℕ, suc, ◌+◌, List, [], ◌∷◌, ◌++◌, length, arith}
use Rattle.std.specs.List.{AllByRecursion}
use Rattle.std.specs.Prelude.{slice_index_or}
use Rattle.bk_machine.specs.Built.{IsBuiltLog, IsNoLoad}
use Rattle.bk_machine.specs.Files.{CountFrom}
use Rattle.bk_machine.specs.NewFileLaws.{apart-from}
use Rattle.bk_shown.specs.Shown.{ArePlaced, IsPlaced, Shows}
use Rattle.bk_shown.specs.declared.shown.Shown.{Shown}
use Rattle.bk_world.specs.Records.{Deed, Logged, database_made, table_made, begun, written, committed, rolled_back, undone, checkpointed, stamped, model_set, loaded, recovered}
use Rattle.bk_world.specs.Telling.{tables}
use Rattle.bk_world.specs.declared.database.FileSpec.{FileSpec}
use Rattle.bk_world.specs.declared.database.TableSpec.{TableSpec}

numbered-from : (n : ℕ) (files : List FileSpec) → ((i : ℕ) (d : FileSpec) → i < length files → (slice_index_or files i d).number ≡ i + n) → CountFrom n files
numbered-from n [] numbers = tt
numbered-from n (f ∷ files) numbers = (first (numbers 0 f (omega arith)), numbered-from (n + 1) files (λ i d lt. next i d (numbers (suc i) d (omega (arith, lt)))))
  where
    first : f.number ≡ 0 + n → f.number ≡ n
    first is = omega (arith, is)

    next : (i : ℕ) (d : FileSpec) → (slice_index_or files i d).number ≡ suc i + n → (slice_index_or files i d).number ≡ i + (n + 1)
    next i d is = omega (arith, is)

-- it has no load

no-load : (files : List FileSpec) (made : List TableSpec) (d : Deed) → IsPlaced files made d → IsNoLoad d
no-load files made (loaded load) placed = placed
no-load files made (database_made time family branch) placed = tt
no-load files made (table_made time spec) placed = tt
no-load files made begun placed = tt
no-load files made (written at before c) placed = tt
no-load files made (committed time mark) placed = tt
no-load files made rolled_back placed = tt
no-load files made (undone at c n) placed = tt
no-load files made (checkpointed time) placed = tt
no-load files made (stamped time set) placed = tt
no-load files made (model_set time model) placed = tt
no-load files made (recovered branch) placed = tt

no-loads : (files : List FileSpec) (before rs : List Logged) → ArePlaced files before rs → AllByRecursion (λ (r : Logged). IsNoLoad r.deed) rs
no-loads files before [] placed = tt
no-loads files before (r ∷ rs) placed = (no-load files (tables before) r.deed placed.0, no-loads files (before ++ r ∷ []) rs placed.1)

pub is-built : (files : List FileSpec) (rs : List Logged) (s : Shown) → Shows files rs s → IsBuiltLog files rs
is-built files rs s shows = record { apart = apart-from 1 files (numbered-from 1 files shows.files_are.numbers); loads = no-loads files [] rs shows.placed }
