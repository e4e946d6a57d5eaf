-- A call that was counted was done, or did nothing.
use Rattle.bk_device.specs.Replayed.{still_then, next_after, still_telling, told, told_bytes}
use Rattle.bk_device.proofs.mem_device.MemDeviceDevice.tell.Goals as goal

pub returns-then-next_call-clause-effect : goal.returns-then-next_call-clause-effect
returns-then-next_call-clause-effect c = still_telling _ _ c.args.bytes.now (still_then c.next_call.ensures.still c.tell_fault.ensures.still)

pub returns-in-Ok-clause-done : goal.returns-in-Ok-clause-done
returns-in-Ok-clause-done c = next_after c.next_call.ensures.still c.in-Ok.ensures.ok

pub returns-in-Ok-clause-told : goal.returns-in-Ok-clause-told
returns-in-Ok-clause-told c = told_bytes _ _ c.args.bytes.now (next_after c.next_call.ensures.still c.in-Ok.ensures.ok)

pub returns-in-Ok-clause-effect : goal.returns-in-Ok-clause-effect
returns-in-Ok-clause-effect c = told _ _ c.args.bytes.now (next_after c.next_call.ensures.still c.in-Ok.ensures.ok)

pub returns-in-Err-clause-effect : goal.returns-in-Err-clause-effect
returns-in-Err-clause-effect c = still_telling _ _ c.args.bytes.now (still_then (still_then c.next_call.ensures.still c.in-Err.ensures.err) c.tell_fault-in-Err.ensures.still)

pub returns-in-Err-clause-not_done : goal.returns-in-Err-clause-not_done
returns-in-Err-clause-not_done c = still_then (still_then c.next_call.ensures.still c.in-Err.ensures.err) c.tell_fault-in-Err.ensures.still
