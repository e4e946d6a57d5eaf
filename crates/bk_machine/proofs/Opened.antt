-- A run begins and ends in sound worlds, and so does a crash: it changes sessions and the counter alone.
use Rattle.std.proofs.Common.{◌≤◌, ℕ, refl, arith}
use Rattle.bk_machine.specs.Sound.{AreIdle, IsSound, IsWhole}
use Rattle.bk_machine.specs.World.{World, ended, opened, restarted}
use Rattle.bk_machine.proofs.Histories.{grew-same}
use Rattle.bk_machine.proofs.Kept.{sound-later, whole-later}

pub sound-opened : (w : World) → IsSound w → IsSound (opened w)
unfolding opened
sound-opened w is = sound-later w (opened w) (record { instance = refl; counter = omega arith; grew = grew-same w.history }) refl refl refl (omega arith) is

pub sound-ended : (w : World) → IsSound w → IsSound (ended w)
unfolding ended
sound-ended w is = sound-later w (ended w) (record { instance = refl; counter = omega arith; grew = grew-same w.history }) refl refl refl (omega arith) is

pub idle-opened : (w : World) → AreIdle w → AreIdle (opened w)
unfolding opened
idle-opened w is = is

pub idle-ended : (w : World) → AreIdle w → AreIdle (ended w)
unfolding ended
idle-ended w is = is

pub sound-restarted : (counter : ℕ) (w : World) → IsSound w → w.counter ≤ counter → IsSound (restarted counter w)
unfolding restarted
sound-restarted counter w is le = sound-later w (restarted counter w) (record { instance = refl; counter = le; grew = grew-same w.history }) refl refl refl (omega arith) is

pub whole-restarted : (counter : ℕ) (w : World) → IsWhole w → w.counter ≤ counter → IsWhole (restarted counter w)
unfolding restarted
whole-restarted counter w is le = whole-later w (restarted counter w) (record { instance = refl; counter = le; grew = grew-same w.history }) refl refl refl is

pub idle-restarted : (counter : ℕ) (w : World) → AreIdle w → AreIdle (restarted counter w)
unfolding restarted
idle-restarted counter w is = is
