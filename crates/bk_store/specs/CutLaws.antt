-- A log that is cut keeps what is open.
use Rattle.std.proofs.Common.{◌≡◌, ◌≤◌, ℕ, List, [], ◌∷◌, ◌++◌, map, subst, arith}
use Rattle.std.specs.List.{AllByRecursion}
use Rattle.bk_device.specs.Compose.{effect_weaken}
use Rattle.bk_device.specs.Disk.{Disk}
use Rattle.bk_device.specs.Effects.{Effect}
use Rattle.bk_paged.specs.Names.{IsOwn}
use Rattle.bk_paths.specs.Laws.{IsPlain, KeepsOpenAsTheMachine}
use Rattle.bk_paths.specs.Paths.{KeepsOpen}
use Rattle.bk_shown.specs.Shown.{ArePlaced, pending_of}
use Rattle.bk_shown.specs.declared.shown.Written.{Written}
use Rattle.bk_undo.specs.Spelled.{spelled}
use Rattle.bk_world.specs.declared.database.FileSpec.{FileSpec}
use Rattle.bk_world.specs.Pending.{Pending}
use Rattle.bk_world.specs.Records.{Deed, Logged, database_made, table_made, begun, written, committed, rolled_back, undone, checkpointed, stamped, model_set, loaded, recovered}
use Rattle.bk_store.specs.Store.{Crashes, IsStore, Kept, sealed_in}
use Rattle.bk_store.specs.Told.{LeavesRecords, Told, data_files, files_of}

pub placed-plain : (files : List FileSpec) (before rs : List Logged) → ArePlaced files before rs → AllByRecursion IsPlain rs
placed-plain files before [] all = tt
placed-plain files before (r ∷ rs) all = (by r.lsn r.begin r.deed all, placed-plain files (before ++ r ∷ []) rs all.1)
  where
    by : (lsn begin : ℕ) (d : Deed) → ArePlaced files before ((record { lsn = lsn; begin = begin; deed = d }) ∷ rs) → IsPlain (record { lsn = lsn; begin = begin; deed = d })
    by lsn begin (loaded load) placed = absurd placed.0
    by lsn begin (database_made time family branch) placed = tt
    by lsn begin (table_made time spec) placed = tt
    by lsn begin begun placed = tt
    by lsn begin (written at before' c) placed = tt
    by lsn begin (committed time mark) placed = tt
    by lsn begin rolled_back placed = tt
    by lsn begin (undone at c k) placed = tt
    by lsn begin (checkpointed time) placed = tt
    by lsn begin (stamped time set) placed = tt
    by lsn begin (model_set time model) placed = tt
    by lsn begin (recovered branch) placed = tt

open-from : (to : ℕ) (ws : List Written) → AllByRecursion (λ (w : Written). to ≤ w.begin) ws → AllByRecursion (λ (w : Pending). to ≤ w.begin) (map pending_of ws)
open-from to [] all = tt
open-from to (w ∷ ws) all = (all.0, open-from to ws all.1)

pub keeps-open : KeepsOpenAsTheMachine → (s : Kept) (told : Told) (to : ℕ) (a : Disk) → IsStore a s told → AllByRecursion (λ (w : Written). to ≤ w.begin) s.shown.written.items → KeepsOpen to (map spelled told.records)
keeps-open law s told to a is all =
    law told.records to (placed-plain (files_of told) [] told.records is.shows.placed) (subst (λ (ws : List Pending). AllByRecursion (λ (w : Pending). to ≤ w.begin) ws) is.shows.kept.pending (open-from to s.shown.written.items all))

-- a call behind others
pub crash-later : (s then : Kept) (told : Told) (b c : Disk) → then.paged.log.db ≡ s.paged.log.db → s.paged.log.stored ≤ then.paged.log.stored → Crashes then told b c → Crashes s told b c
crash-later s then told b c same later crash =
    let Db : ℕ → Type 0 = λ db. Effect (IsOwn db (data_files told)) (LeavesRecords db (sealed_in then) told) b c in
    effect_weaken (λ image here. (here.0, omega (arith, here.1, later), here.2)) (subst Db same crash)
