-- What a store says of the records of its database.
use Rattle.std.proofs.Common.{ℕ, ◌+◌, List, length, map, subst, arith}
use Rattle.std.proofs.lemmas.List.{take_all}
use Rattle.bk_device.specs.Disk.{Disk}
use Rattle.bk_ids.specs.declared.record.Rec.{Rec}
use Rattle.bk_restored.specs.Paged.{sealed_count}
use Rattle.bk_paths.specs.Paths.{IsPath}
use Rattle.bk_restored.specs.Store.{IsStore, Kept}
use Rattle.bk_restored.specs.StoreTold.{Told}
use Rattle.bk_undo.specs.Spelled.{spelled}

-- they are a path
pub store_path : (disk : Disk) (s : Kept) (told : Told) → IsStore disk s told → IsPath (map spelled told.records)
store_path disk s told is =
    let records : List Rec = map spelled told.records in
    let most : ℕ = sealed_count s.paged + length records in
    subst IsPath (take_all most records (omega arith)) (is.paged.recovers most (omega arith)).path
