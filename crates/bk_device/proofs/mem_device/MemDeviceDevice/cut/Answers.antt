-- A call that was counted was done, or did nothing.
use Rattle.std.proofs.Common.{refl, inl}
use Rattle.bk_device.specs.Calls.{LeavesCut}
use Rattle.bk_device.specs.Replayed.{still_then, next_after, still_on, cut, cut_files}
use Rattle.bk_device.proofs.mem_device.MemDeviceDevice.cut.Goals as goal

pub returns-then-next_call-clause-effect : goal.returns-then-next_call-clause-effect
returns-then-next_call-clause-effect c = still_on _ _ c.args.name.now (LeavesCut c.args.len) (λ content. inl refl) (still_then c.next_call.ensures.still c.disk_fault.ensures.still)

pub returns-in-Ok-clause-done : goal.returns-in-Ok-clause-done
returns-in-Ok-clause-done c = next_after c.next_call.ensures.still c.in-Ok.ensures.ok

pub returns-in-Ok-clause-cut : goal.returns-in-Ok-clause-cut
returns-in-Ok-clause-cut c = cut_files _ _ c.args.name.now c.args.len (next_after c.next_call.ensures.still c.in-Ok.ensures.ok)

pub returns-in-Ok-clause-effect : goal.returns-in-Ok-clause-effect
returns-in-Ok-clause-effect c = cut _ _ c.args.name.now c.args.len (next_after c.next_call.ensures.still c.in-Ok.ensures.ok)

pub returns-in-Err-clause-effect : goal.returns-in-Err-clause-effect
returns-in-Err-clause-effect c = still_on _ _ c.args.name.now (LeavesCut c.args.len) (λ content. inl refl) (still_then (still_then c.next_call.ensures.still c.in-Err.ensures.err) c.disk_fault-in-Err.ensures.still)

pub returns-in-Err-clause-not_done : goal.returns-in-Err-clause-not_done
returns-in-Err-clause-not_done c = still_then (still_then c.next_call.ensures.still c.in-Err.ensures.err) c.disk_fault-in-Err.ensures.still
