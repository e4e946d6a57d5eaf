-- What failed where both calls on files and telling may fail.
use Rattle.std.specs.Prelude.{◌≤◌, ℕ}
use Rattle.bk_device.specs.Counts.{HasRisen}

-- Calls on files have failed only where the count of such failures rose, and telling only where its own count rose. Neither count ever falls.
pub record HasCauses {D : Type 0} (disk tell : D → ℕ) (old new : D) (files_failed telling_failed : Type 0) : Type 0 where
  pub files : files_failed → HasRisen (disk old) (disk new)
  pub telling : telling_failed → HasRisen (tell old) (tell new)
  pub disk_faults : disk old ≤ disk new
  pub tell_faults : tell old ≤ tell new
