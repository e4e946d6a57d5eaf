-- By the calls, one after the other.
use Rattle.bk_device.specs.Replayed.{was_left}
use Rattle.bk_device.proofs.mem_device.crash_law.Goals as goal

pub returns : goal.returns
returns c = λ memory since image heard. was_left memory since image heard
