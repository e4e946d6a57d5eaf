-- The call that was counted does nothing.
use Rattle.bk_device.specs.Replayed.{still_then, nothing_done}
use Rattle.bk_device.proofs.mem_device.MemDeviceDevice.len.Goals as goal

pub returns-then-next_call-clause-effect : goal.returns-then-next_call-clause-effect
returns-then-next_call-clause-effect c = nothing_done _ _ (still_then c.next_call.ensures.still c.disk_fault.ensures.still)

pub returns-clause-effect : goal.returns-clause-effect
returns-clause-effect c = nothing_done _ _ c.next_call.ensures.still
