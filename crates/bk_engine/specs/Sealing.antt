-- A set that may be sealed.
-- SQL Server: "Media Sets, Media Families, and Backup Sets"; BACKUP (Transact-SQL).
use Rattle.std.specs.Prelude.{List}
use Rattle.bk_body.specs.Body.{Body}
use Rattle.bk_carried.specs.Carried.{Carries}
use Rattle.bk_device.specs.Disk.{Disk}
use Rattle.bk_machine.specs.Sound.{IsSoundSet}
use Rattle.bk_machine.specs.World.{World}
use Rattle.bk_volume.specs.Staging.{IsSetOf, Staging}
use Rattle.bk_world.specs.declared.database.TableSpec.{TableSpec}
use Rattle.bk_world.specs.declared.header.Header.{Header}

-- What was written, with this header and these tables, is a set of the world that holds what its path shows.
pub record MaySeal (disk : Disk) (w : World) (staged : Staging) (header : Header) (tables : List TableSpec) (body : Body) : Type 0 where
  pub sound : IsSoundSet w header
  pub is : IsSetOf disk staged header tables body
  pub carries : Carries w.history body
