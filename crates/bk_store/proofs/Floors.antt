-- Where the log is cut behind a checkpoint.
use Rattle.std.proofs.Common.{◌≡◌, ◌≤◌, ℕ, List, [], ◌∷◌, map, sym, ◌∙◌, subst}
use Rattle.std.specs.List.{AllByRecursion}
use Rattle.bk_device.specs.Disk.{Disk}
use Rattle.bk_shown.specs.Shown.{pending_of}
use Rattle.bk_shown.specs.declared.shown.Written.{Written}
use Rattle.bk_world.specs.Pending.{Pending, pending}
use Rattle.bk_world.specs.ReadingLaws.{pending-more}
use Rattle.bk_world.specs.Records.{checkpointed}
use Rattle.bk_store.specs.Store.{IsStore, Kept, at_end}
use Rattle.bk_store.specs.Told.{Told, said}

-- the writes that are kept began where those of the log did
kept-open : (to : ℕ) (ws : List Written) → AllByRecursion (λ (w : Pending). to ≤ w.begin) (map pending_of ws) → AllByRecursion (λ (w : Written). to ≤ w.begin) ws
kept-open to [] are = tt
kept-open to (w ∷ ws) are = (are.0, kept-open to ws are.1)

-- behind a checkpoint the same writes are pending
pub open-behind : (disk : Disk) (s at : Kept) (told : Told) (now to : ℕ) → IsStore disk s (said told (at_end at 0 (checkpointed now))) → AllByRecursion (λ (w : Pending). to ≤ w.begin) (pending told.records)
    → AllByRecursion (λ (w : Written). to ≤ w.begin) s.shown.written.items
open-behind disk s at told now to is are =
    let same : map pending_of s.shown.written.items ≡ pending told.records = is.shows.kept.pending ∙ pending-more told.records (at_end at 0 (checkpointed now) ∷ []) in
    kept-open to s.shown.written.items (subst (AllByRecursion (λ (w : Pending). to ≤ w.begin)) (sym same) are)
