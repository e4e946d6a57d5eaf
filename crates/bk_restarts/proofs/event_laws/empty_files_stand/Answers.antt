use Rattle.std.proofs.Common.{None}
use Rattle.bk_machine.specs.World.{empty_world}
use Rattle.bk_msdb.specs.Laws.{absent_shown}
use Rattle.bk_restarts.proofs.Happens.{empty-media, empty-stands}
use Rattle.bk_restarts.proofs.event_laws.empty_files_stand.Goals as goal

pub returns : goal.returns
returns c = λ number files not none absent. empty-stands number files not (c.empty_worlds_are_sound.ensures.sound number) (c.media_stay.ensures.none (empty_world number) None files (empty-media number) none) (absent_shown files absent)
