-- The call and what it changed go together.
use Rattle.std.proofs.Common.{refl}
use Rattle.bk_device.proofs.Memories.{same_begin, steps-push, replayed_removal, next_from}
use Rattle.bk_device.proofs.mem_device.MemDevice.store_removal.Goals as goal

pub invariant_of-self-2 : goal.invariant_of-self-2
invariant_of-self-2 c = replayed_removal _ _ _ _ _ _ c.args.name.now (record { begin = same_begin _ _ c.remove-2.ensures.begin; told_before = refl; steps = steps-push _ _ _ _ c.in_ok-push.ensures.items c.in_ok-call.ensures }) c.remove-2.ensures.current c.remove-2.ensures.durable c.self.invariant

pub returns-clause-ok : goal.returns-clause-ok
returns-clause-ok c = next_from _ _ _ _ c.self.view_is (record { begin = same_begin _ _ c.remove-2.ensures.begin; told_before = refl; steps = steps-push _ _ _ _ c.in_ok-push.ensures.items c.in_ok-call.ensures })
