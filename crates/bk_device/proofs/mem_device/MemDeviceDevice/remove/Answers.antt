-- A call that was counted was done, or did nothing.
use Rattle.std.proofs.Common.{refl, inl}
use Rattle.bk_device.specs.Calls.{LeavesRemoval}
use Rattle.bk_device.specs.Replayed.{still_then, next_after, still_on, removed, removed_files}
use Rattle.bk_device.proofs.mem_device.MemDeviceDevice.remove.Goals as goal

pub returns-then-next_call-clause-effect : goal.returns-then-next_call-clause-effect
returns-then-next_call-clause-effect c = still_on _ _ c.args.name.now LeavesRemoval (λ content. inl refl) (still_then c.next_call.ensures.still c.disk_fault.ensures.still)

pub returns-in-Ok-clause-done : goal.returns-in-Ok-clause-done
returns-in-Ok-clause-done c = next_after c.next_call.ensures.still c.in-Ok.ensures.ok

pub returns-in-Ok-clause-removed : goal.returns-in-Ok-clause-removed
returns-in-Ok-clause-removed c = removed_files _ _ c.args.name.now (next_after c.next_call.ensures.still c.in-Ok.ensures.ok)

pub returns-in-Ok-clause-effect : goal.returns-in-Ok-clause-effect
returns-in-Ok-clause-effect c = removed _ _ c.args.name.now (next_after c.next_call.ensures.still c.in-Ok.ensures.ok)

pub returns-in-Err-clause-effect : goal.returns-in-Err-clause-effect
returns-in-Err-clause-effect c = still_on _ _ c.args.name.now LeavesRemoval (λ content. inl refl) (still_then (still_then c.next_call.ensures.still c.in-Err.ensures.err) c.disk_fault-in-Err.ensures.still)

pub returns-in-Err-clause-not_done : goal.returns-in-Err-clause-not_done
returns-in-Err-clause-not_done c = still_then (still_then c.next_call.ensures.still c.in-Err.ensures.err) c.disk_fault-in-Err.ensures.still
