-- Files of a store in which nothing is pending: they are quiet, where no work on a file was cut off.
use Rattle.std.proofs.Common.{◌≡◌, ℕ, List, [], ◌++◌, map, ◌∙◌, ap}
use Rattle.std.proofs.lemmas.List.{append-nil}
use Rattle.bk_device.specs.Disk.{Files}
use Rattle.bk_opening.specs.Quiet.{IsFinished, IsQuiet}
use Rattle.bk_opening.specs.QuietLaws.{nothing_undone, quiet_of}
use Rattle.bk_paths.specs.Laws.{KeptIsEnough, SettlesAsTheMachine}
use Rattle.bk_paths.specs.Paths.{settled as settled_path}
use Rattle.bk_store.specs.CutLaws.{placed-plain}
use Rattle.bk_store.specs.Told.{HoldsRecords, Told, files_of, stood_of}
use Rattle.bk_undo.specs.Spelled.{spelled}
use Rattle.bk_world.specs.Cut.{end_behind, settled as settled_log}
use Rattle.bk_world.specs.Pending.{Pending, pending}
use Rattle.bk_world.specs.Records.{numbered}
use Rattle.bk_world.specs.Says.{settle_said}

pub records-quiet : SettlesAsTheMachine → KeptIsEnough → (db : ℕ) (told : Told) (files : Files) → HoldsRecords db told files → pending told.records ≡ [] → IsFinished db files → IsQuiet db files
unfolding settled_log
records-quiet law enough db told files holds quiet finished =
    let none : settled_log told.records ≡ told.records = ap (λ (ws : List Pending). told.records ++ numbered (end_behind told.records) (settle_said ws)) quiet ∙ append-nil told.records in
    let same : settled_path (map spelled told.records) ≡ map spelled told.records = law told.records holds.log.counts (placed-plain (files_of told) [] told.records holds.log.placed) ∙ ap (map spelled) none in
    quiet_of enough db (stood_of holds.known told) files holds.holds (nothing_undone (map spelled told.records) same) finished
