-- What an instance stands for within a call.
-- SQL Server: "Media Sets, Media Families, and Backup Sets".
use Rattle.std.specs.Prelude.{◌≡◌, ◌≤◌, ◌+◌, List}
use Rattle.bk_archive.specs.Media.{KeepsMedia}
use Rattle.bk_device.specs.Disk.{Disk}
use Rattle.bk_hosted.specs.Hosted.{Hosted, Hosts}
use Rattle.bk_hosting.specs.Hosting.{IsHosting, own_of, Kept as KeptHosting}
use Rattle.bk_machine.specs.World.{World}
use Rattle.bk_engine.specs.Copied.{AreCopied}
use Rattle.bk_engine.specs.Rows.{IsCalm}

-- The databases and media are those of a world. The record may name a medium or a set as being made, and it reserves the GUIDs that are drawn in the world, and at most 1,024 more.
pub record Amid (disk : Disk) (x : KeptHosting) (w : World) : Type 0 where
  pub instance : w.instance ≡ (own_of x).number
  pub no_less : w.counter ≤ (own_of x).counter
  pub no_more : (own_of x).counter ≤ w.counter + 1024
  pub hosted : List Hosted
  pub hosts : Hosts w hosted
  pub hosting : IsHosting disk x hosted
  pub media : KeepsMedia w (own_of x).making disk.files
  pub calm : IsCalm disk w
  pub copied : AreCopied disk hosted

-- So it is, whatever was copied of backups that run beside the sessions.
pub record AmidBare (disk : Disk) (x : KeptHosting) (w : World) : Type 0 where
  pub instance : w.instance ≡ (own_of x).number
  pub no_less : w.counter ≤ (own_of x).counter
  pub no_more : (own_of x).counter ≤ w.counter + 1024
  pub hosted : List Hosted
  pub hosts : Hosts w hosted
  pub hosting : IsHosting disk x hosted
  pub media : KeepsMedia w (own_of x).making disk.files
  pub calm : IsCalm disk w
