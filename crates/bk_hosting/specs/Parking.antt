-- Hosted databases that are being restored.
-- SQL Server: RESTORE (Transact-SQL), the RESTORING state.
use Rattle.std.specs.Prelude.{◌≡◌, false, [], None}
use Rattle.bk_hosted.specs.Hosted.{Hosted, is_up}
use Rattle.bk_known.specs.declared.known.Known.{Known}
use Rattle.bk_known.specs.Known.{IsKnown}
use Rattle.bk_points.specs.declared.points.Points.{Points}
use Rattle.bk_hosting.specs.Hosting.{HasRecord, known_at}

-- This is known of a database that is being restored, and these are its points. No backup of it runs.
pub record IsParkedAs (known : Known) (points : Points) (h : Hosted) : Type 0 where
  pub known_is : known ≡ known_at h
  pub points_are : points ≡ h.points
  pub down : is_up h ≡ false
  pub runs : h.job ≡ None
  pub idle : h.transactions ≡ []
  pub spelled : IsKnown known
  pub some : HasRecord h
