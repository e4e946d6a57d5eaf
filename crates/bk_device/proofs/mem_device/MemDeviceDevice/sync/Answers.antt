-- A call that was counted was done, or did nothing.
use Rattle.std.proofs.Common.{refl}
use Rattle.bk_device.specs.Calls.{LeavesSame}
use Rattle.bk_device.specs.Replayed.{still_then, next_after, still_on, synced, synced_files, synced_durable}
use Rattle.bk_device.proofs.mem_device.MemDeviceDevice.sync.Goals as goal

pub returns-then-next_call-clause-effect : goal.returns-then-next_call-clause-effect
returns-then-next_call-clause-effect c = still_on _ _ c.args.name.now LeavesSame (λ content. refl) (still_then c.next_call.ensures.still c.disk_fault.ensures.still)

pub returns-in-Ok-clause-done : goal.returns-in-Ok-clause-done
returns-in-Ok-clause-done c = next_after c.next_call.ensures.still c.in-Ok.ensures.ok

pub returns-in-Ok-clause-same : goal.returns-in-Ok-clause-same
returns-in-Ok-clause-same c = synced_files _ _ c.args.name.now (next_after c.next_call.ensures.still c.in-Ok.ensures.ok)

pub returns-in-Ok-clause-effect : goal.returns-in-Ok-clause-effect
returns-in-Ok-clause-effect c = synced _ _ c.args.name.now (next_after c.next_call.ensures.still c.in-Ok.ensures.ok)

pub returns-in-Err-clause-effect : goal.returns-in-Err-clause-effect
returns-in-Err-clause-effect c = still_on _ _ c.args.name.now LeavesSame (λ content. refl) (still_then (still_then c.next_call.ensures.still c.in-Err.ensures.err) c.disk_fault-in-Err.ensures.still)

pub returns-in-Err-clause-not_done : goal.returns-in-Err-clause-not_done
returns-in-Err-clause-not_done c = still_then (still_then c.next_call.ensures.still c.in-Err.ensures.err) c.disk_fault-in-Err.ensures.still

pub returns-in-Ok-clause-durable : goal.returns-in-Ok-clause-durable
returns-in-Ok-clause-durable c = synced_durable _ _ c.args.name.now (next_after c.next_call.ensures.still c.in-Ok.ensures.ok)
