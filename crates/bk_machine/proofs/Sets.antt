-- A set on a medium of a sound world is sound, and its log reads the same as the history grows.
use Rattle.std.proofs.Common.{◌≡◌, ℕ, List, refl}
use Rattle.bk_world.specs.Lines.{Grew, RecordLines, log_below}
use Rattle.bk_world.specs.Medium.{medium, readable}
use Rattle.bk_world.specs.Records.{Counts}
use Rattle.bk_world.specs.declared.header.Header.{Header}
use Rattle.bk_world.specs.GrowthLaws.{records-grown}
use Rattle.bk_machine.specs.Acts.{Act, done, done_all}
use Rattle.bk_machine.specs.Events.{Happen, Happens, nothing_more, one_more}
use Rattle.bk_machine.specs.MayDo.{MayDo, MayDoAll}
use Rattle.bk_machine.specs.Sound.{IsSound, IsSoundReading, IsSoundSet, IsSoundSlot, IsWhole, SetIn}
use Rattle.bk_machine.specs.World.{World, ended, opened, restarted}
use Rattle.bk_machine.proofs.Acting.{act-reads, acts-read}
use Rattle.bk_machine.proofs.Happened.{of-medium}
use Rattle.bk_machine.proofs.Lasting.{events-grow}
use Rattle.bk_machine.proofs.Left.{of-contained}

pub set-whole : (w : World) (path : List ℕ) (header : Header) → IsWhole w → SetIn w path header → IsSoundSet w header
set-whole w path header is there = of-contained (IsSoundSlot w) there.0 (readable header) (of-medium (IsSoundReading w) w.media path (medium there.0) is.media there.1) there.2

module _ (w : World) (path : List ℕ) (header : Header) (is : IsSound w) (there : SetIn w path header) where
  pub set-sound : IsSoundSet w header
  set-sound = set-whole w path header is.whole there

  pub set-counts : Counts 1 (log_below w.history header.path header.last) header.last
  set-counts = set-sound.log.counts

  pub set-grown : (history : RecordLines) → Grew w.history history → log_below history header.path header.last ≡ log_below w.history header.path header.last
  set-grown history grew = records-grown w.history history grew header.path header.last set-counts

  pub set-done : (act : Act) → MayDo w act → log_below (done w act).history header.path header.last ≡ log_below w.history header.path header.last
  set-done act may = act-reads w act is may header.path header.last set-counts

  pub set-done-all : (acts : List Act) → MayDoAll w acts → log_below (done_all w acts).history header.path header.last ≡ log_below w.history header.path header.last
  set-done-all acts may = acts-read w acts is may header.path header.last set-counts

  pub set-happened : (new : World) → Happen w new → log_below new.history header.path header.last ≡ log_below w.history header.path header.last
  set-happened new happens = set-grown new.history (events-grow w new is happens)

  pub set-event : (new : World) → Happens w new → log_below new.history header.path header.last ≡ log_below w.history header.path header.last
  set-event new event = set-happened new (one_more event nothing_more)

-- the history stays where a run begins, ends or is cut off with nothing lost

pub set-opened : (w : World) (header : Header) → log_below (opened w).history header.path header.last ≡ log_below w.history header.path header.last
unfolding opened
set-opened w header = refl

pub set-ended : (w : World) (header : Header) → log_below (ended w).history header.path header.last ≡ log_below w.history header.path header.last
unfolding ended
set-ended w header = refl

pub set-restarted : (counter : ℕ) (w : World) (header : Header) → log_below (restarted counter w).history header.path header.last ≡ log_below w.history header.path header.last
unfolding restarted
set-restarted counter w header = refl
