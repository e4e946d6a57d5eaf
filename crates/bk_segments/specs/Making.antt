-- What is there while the files of a log are made.
use Rattle.std.specs.Prelude.{◌≡◌, ◌⊎◌, ℕ, List, [], ◌∷◌, Some, None}
use Rattle.bk_control.specs.Slots.{control_of}
use Rattle.bk_device.specs.Disk.{Files}
use Rattle.bk_gate.specs.Blobs.{sealed}
use Rattle.bk_segments.specs.Files.{control_file, segment_file}

-- no log, or a control record of these bytes and a segment that is begun or not
abbrev pub Made : ℕ → List ℕ → Files → Type 0
Made db bytes image = (control_of (image (control_file db)) ≡ None) ⊎ (control_of (image (control_file db)) ≡ Some bytes) × ((sealed (image (segment_file db 1)) ≡ []) ⊎ (sealed (image (segment_file db 1)) ≡ [] ∷ []))
