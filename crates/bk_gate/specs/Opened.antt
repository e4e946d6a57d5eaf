-- A gate that was opened by the bytes of its file.
use Rattle.std.proofs.Common.{◌≡◌, ◌+◌, ℕ, Bool, true, false, List, None, take, ap, sym}
use Rattle.std.specs.Prelude.{Option}
use Rattle.bk_device.specs.Calls.{contents}
use Rattle.bk_device.specs.Disk.{Disk, IsDurable}
use Rattle.bk_gate.specs.Blobs.{spans_of}
use Rattle.bk_gate.specs.BlobLaws.{stands_spans}
use Rattle.bk_gate.specs.Gate.{Kept, Stands, IsShut, IsAt, IsGate}

-- the sealed blobs of these bytes lie in the gate's spans, and none is begun
pub record IsOpened (file : List ℕ) (gate : Kept) : Type 0 where
  pub stands : Stands gate.spans gate.end file
  pub shut : IsShut file gate.end gate.is_closed
  pub none : gate.begun ≡ None

at_shut : (spans : List (ℕ × ℕ)) (end : ℕ) (is_closed : Bool) (name : List ℕ) (disk : Disk) → Stands spans end (contents (disk.files name)) → IsShut (contents (disk.files name)) end is_closed → IsDurable disk name → IsAt spans end is_closed name disk
at_shut spans end true name disk stands shut durable = record {
  stands = stands;
  inside = shut.0;
  closed = shut.1;
  left = λ content may. ap (λ (file : Option (List ℕ)). take (end + 1) (contents file)) (durable content may);
}
at_shut spans end false name disk stands shut durable = record { stands = stands; why = shut; durable = durable }

-- it stands where the file has those bytes, and nothing is pending there
pub opened_stands : {disk : Disk} {gate : Kept} → IsOpened (contents (disk.files gate.name)) gate → IsDurable disk gate.name → IsGate disk gate
opened_stands {disk = disk} {gate = gate} is durable = record {
  at = at_shut gate.spans gate.end gate.is_closed gate.name disk is.stands is.shut durable;
  room = λ n begun more. let none = is.none in absurd cc;
}

-- its spans are those of the bytes
pub opened_spans : (file : List ℕ) (gate : Kept) → IsOpened file gate → gate.spans ≡ spans_of file
opened_spans file gate is = sym (stands_spans gate.spans gate.end file is.stands)
