-- Files that hold what the store of a database keeps of it hold that database.
use Rattle.std.proofs.Common.{◌≡◌, ℕ, List, ◌++◌, Result, Ok, Err, sym, ap, subst, ◌∙◌}
use Rattle.std.specs.Prelude.{OnOk}
use Rattle.bk_device.specs.Disk.{Disk}
use Rattle.bk_facts.specs.declared.facts.DataFile.{DataFile}
use Rattle.bk_ids.specs.declared.record.Rec.{Rec}
use Rattle.bk_known.specs.declared.known.Known.{Known}
use Rattle.bk_known.specs.Known.{known_bytes}
use Rattle.bk_reopening.specs.PagedHolds.{Holds}
use Rattle.bk_reopening.specs.PagedNames.{AreDurable}
use Rattle.bk_reopening.specs.Reopening.{IsClosed}
use Rattle.bk_restored.specs.Restored.{SufficesTold}
use Rattle.bk_restoring.specs.Arriving.{Kept, Suffices}
use Rattle.bk_reopening.specs.StoreTold.{Told, stood_of}

-- the bytes that are put are the note that the store keeps
pub suffices-bytes : (a : Kept) (checkpoint : ℕ) (note bytes : List ℕ) (given : ℕ × ℕ → List ℕ) (records : List Rec) (known : Known) (told : Told) → bytes ≡ known_bytes known ++ note → SufficesTold a checkpoint note given records known told → Suffices a checkpoint bytes given records (stood_of known told)
suffices-bytes a checkpoint note bytes given records known told spelled enough =
    let same : (stood_of known told).note ≡ bytes = ap (λ (n : List ℕ). known_bytes known ++ n) enough.same_note ∙ sym spelled in
    subst (λ (n : List ℕ). Suffices a checkpoint n given records (stood_of known told)) same enough.suffices

pub arrived-closed : (a : Kept) (checkpoint : ℕ) (note : List ℕ) (given : ℕ × ℕ → List ℕ) (records : List Rec) (known : Known) (told : Told) (disk : Disk) → SufficesTold a checkpoint note given records known told → AreDurable a.log.db a.filling.files disk
    → Holds a.log.db (stood_of known told) disk.files → IsClosed a.log.db told disk
arrived-closed a checkpoint note given records known told disk enough durable holds = record {
  durable = subst (λ (fs : List DataFile). AreDurable a.log.db fs disk) (sym enough.suffices.files) durable;
  holds = record { known = known; noted = enough.noted; log = enough.log; holds = holds };
}

-- what follows from two facts of a last call
pub both-ok : {T E P Q R : Type 0} (r : Result T E) → (P → Q → R) → OnOk r P → OnOk r Q → OnOk r R
both-ok (Ok _) f p q = f p q
both-ok (Err _) f p q = tt
