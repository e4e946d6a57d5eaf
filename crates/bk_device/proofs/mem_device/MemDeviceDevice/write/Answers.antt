-- A call that was counted was done, or did nothing.
use Rattle.std.proofs.Common.{refl, inl, length}
use Rattle.bk_device.specs.Calls.{LeavesWrite}
use Rattle.bk_device.specs.Replayed.{still_then, next_after, still_on, wrote, wrote_files, nothing_done}
use Rattle.bk_device.proofs.mem_device.MemDeviceDevice.write.Goals as goal

pub returns-then-is_to_fail-clause-effect : goal.returns-then-is_to_fail-clause-effect
returns-then-is_to_fail-clause-effect c = still_on _ _ c.args.name.now (LeavesWrite c.args.at (length c.args.bytes.now)) (λ content. inl refl) (still_then c.next_write-is_to_fail.ensures.still c.disk_fault.ensures.still)

pub returns-in-Ok-clause-done : goal.returns-in-Ok-clause-done
returns-in-Ok-clause-done c = next_after c.next_write-is_to_fail.ensures.still c.in-Ok.ensures.ok

pub returns-in-Ok-clause-written : goal.returns-in-Ok-clause-written
returns-in-Ok-clause-written c = wrote_files _ _ c.args.name.now c.args.at c.args.bytes.now (next_after c.next_write-is_to_fail.ensures.still c.in-Ok.ensures.ok)

pub returns-in-Ok-clause-effect : goal.returns-in-Ok-clause-effect
returns-in-Ok-clause-effect c = wrote _ _ c.args.name.now c.args.at c.args.bytes.now (next_after c.next_write-is_to_fail.ensures.still c.in-Ok.ensures.ok)

pub returns-in-Err-clause-effect : goal.returns-in-Err-clause-effect
returns-in-Err-clause-effect c = still_on _ _ c.args.name.now (LeavesWrite c.args.at (length c.args.bytes.now)) (λ content. inl refl) (still_then (still_then c.next_write-is_to_fail.ensures.still c.in-Err.ensures.err) c.disk_fault-in-Err.ensures.still)

pub returns-in-Err-clause-not_done : goal.returns-in-Err-clause-not_done
returns-in-Err-clause-not_done c = still_then (still_then c.next_write-is_to_fail.ensures.still c.in-Err.ensures.err) c.disk_fault-in-Err.ensures.still

pub returns-then-is_to_fail-clause-refused : goal.returns-then-is_to_fail-clause-refused
returns-then-is_to_fail-clause-refused c _ = nothing_done _ _ (still_then c.next_write-is_to_fail.ensures.still c.disk_fault.ensures.still)
