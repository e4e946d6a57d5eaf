-- What the set of a job needs.
use Rattle.std.specs.Prelude.{◌≡◌, ◌<◌, ◌≤◌, ℕ, ◌+◌, Option, None, length}
use Rattle.bk_machine.specs.Acts.{latest}
use Rattle.bk_machine.specs.Sound.{IsWholeDatabase}
use Rattle.bk_machine.specs.World.{World}
use Rattle.bk_machine.specs.declared.job.Job.{Job}
use Rattle.bk_machine.specs.statements.Backup.{most_set_name_bytes}
use Rattle.bk_world.specs.declared.header.SetKind.TheVariants.{Full}
use Rattle.bk_kept.specs.declared.kept.Database.{Database as KeptDatabase}
use Rattle.bk_kept.specs.Keeps.{ShowsLog, database_of}

-- A job may finish its set at a time, with its stamp just below last: its database in memory is that of a world, where it is whole; the set is a full one whose log begins at its checkpoint or
-- below and goes up to last, at the database's end or behind it; its name is short enough; and its times aren't past the last one.
pub record MayMakeSet (w : World) (d : KeptDatabase) (job : Job) (last time : ℕ) : Type 0 where
  pub whole : IsWholeDatabase w (database_of d)
  pub shows : ShowsLog w.history d
  pub kind : job.kind ≡ Full
  pub first : job.first ≤ job.checkpoint
  pub checkpoint : job.checkpoint < last
  pub ends : d.shown.«end» ≤ last
  pub name : length job.name ≤ most_set_name_bytes
  pub expiry : job.expiry ≡ None
  pub start : job.start ≤ latest
  pub timely : time ≤ latest

-- a job may finish at its start, right behind the checkpoint at its database's end
abbrev pub MayFinish : World → KeptDatabase → Job → Type 0
MayFinish w d job = MayMakeSet w d job (d.shown.«end» + 2) job.start
