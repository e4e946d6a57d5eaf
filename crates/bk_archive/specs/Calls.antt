-- What calls do to the media of a world.
use Rattle.std.specs.Prelude.{◌≡◌, ◌⊎◌, ℕ, true, false, List, Option, Some, None}
use Rattle.bk_body.specs.Body.{Body}
use Rattle.bk_carried.specs.Carried.{Carries}
use Rattle.bk_device.specs.Disk.{Files}
use Rattle.bk_gate.specs.Blobs.{sealed}
use Rattle.bk_machine.specs.Acts.{done, medium_made, set_sealed}
use Rattle.bk_machine.specs.World.{World}
use Rattle.bk_world.specs.Medium.{medium_at}
use Rattle.bk_archive.specs.Media.{KeepsMedia, is_begun}

-- ---- a medium is made where a world has none, and the record names it

-- the files keep the media behind that, whether the record names it still or not
abbrev pub HasMade : List ℕ → Files → Files → Type 0
HasMade path before after = (w : World) → KeepsMedia w (Some path) before → medium_at w.media path ≡ None → KeepsMedia (done w (medium_made path)) (Some path) after × KeepsMedia (done w (medium_made path)) None after

-- a crash leaves the media as they were, or those behind it
abbrev pub LeavesMaking : List ℕ → Files → Files → Type 0
LeavesMaking path before image = (w : World) → KeepsMedia w (Some path) before → medium_at w.media path ≡ None → KeepsMedia w (Some path) image ⊎ KeepsMedia (done w (medium_made path)) (Some path) image

-- ---- a set that holds what its path shows is sealed on a medium

abbrev pub HasSealed : List ℕ → Body → Files → Files → Type 0
HasSealed path body before after = (w : World) → KeepsMedia w None before → Carries w.history body → KeepsMedia (done w (set_sealed path body.header)) None after

abbrev pub LeavesSealing : List ℕ → Body → Files → Files → Type 0
LeavesSealing path body before image = (w : World) → KeepsMedia w None before → Carries w.history body → KeepsMedia w None image ⊎ KeepsMedia (done w (set_sealed path body.header)) None image

-- ---- a medium that was being made is finished, or taken away

-- the files keep the same media, whether the record names it still or not
abbrev pub HasFinished : List ℕ → Files → Files → Type 0
HasFinished path before after = (w : World) → KeepsMedia w (Some path) before → KeepsMedia w (Some path) after × KeepsMedia w None after

-- while the record names it, a crash leaves the same media
abbrev pub LeavesFinishing : List ℕ → Files → Files → Type 0
LeavesFinishing path before image = (w : World) → KeepsMedia w (Some path) before → KeepsMedia w (Some path) image

-- its file is gone where no blob of it was sealed, and else it is as it was
abbrev pub IsCleared : Option (List ℕ) → Option (List ℕ) → Type 0
IsCleared before after = ((is_begun (sealed before) ≡ true) × (after ≡ None)) ⊎ ((is_begun (sealed before) ≡ false) × (after ≡ before))

-- on the way a crash leaves of it what it might have left before, or nothing where no blob was sealed
abbrev pub LeavesCleared : (Option (List ℕ) → Type 0) → Option (List ℕ) → Option (List ℕ) → Type 0
LeavesCleared may before after = may after ⊎ ((is_begun (sealed before) ≡ true) × (after ≡ None))
