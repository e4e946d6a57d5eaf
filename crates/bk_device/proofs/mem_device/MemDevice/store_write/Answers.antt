-- The call and what it changed go together.
use Rattle.std.proofs.Common.{[], ◌∷◌, ◌++◌, map, refl, ap, ◌∙◌}
use Rattle.bk_device.specs.Memory.{step_of}
use Rattle.bk_device.proofs.Memories.{same_begin, steps-push, on_err_always, replayed_still, replayed_write, still_from, next_from, room_in}
use Rattle.bk_device.proofs.mem_device.MemDevice.store_write.Goals as goal

pub write-requires-2 : goal.write-requires-2
write-requires-2 c = room_in _ _ _ _ _ _ _ c.self.view_is c.self.invariant c.requires

pub invariant_of-self-in_err-write : goal.invariant_of-self-in_err-write
invariant_of-self-in_err-write c = replayed_still _ _ _ _ _ _ (record { begin = same_begin _ _ c.in_err-write.ensures.begin; told_before = refl; steps = ap (map step_of) c.in_ok-reserve.ensures.items }) c.in_err-write.ensures.err c.in_err-write.ensures.durable c.self.invariant

pub returns-in_err-write-clause-err : goal.returns-in_err-write-clause-err
returns-in_err-write-clause-err c = on_err_always _ (still_from _ _ _ c.self.view_is (record { begin = same_begin _ _ c.in_err-write.ensures.begin; told_before = refl; steps = ap (map step_of) c.in_ok-reserve.ensures.items }))

pub invariant_of-self-2 : goal.invariant_of-self-2
invariant_of-self-2 c = replayed_write _ _ _ _ _ _ c.args.name.now c.args.at c.args.bytes.now (record { begin = same_begin _ _ c.in_ok-write.ensures.begin; told_before = refl; steps = steps-push _ _ _ _ (c.push_reserved.ensures ∙ ap (λ d. d ++ c.in_ok-call.call ∷ []) c.in_ok-reserve.ensures.items) c.in_ok-call.ensures }) c.in_ok-write.ensures.ok c.in_ok-write.ensures.durable c.self.invariant

pub returns-clause-ok : goal.returns-clause-ok
returns-clause-ok c = next_from _ _ _ _ c.self.view_is (record { begin = same_begin _ _ c.in_ok-write.ensures.begin; told_before = refl; steps = steps-push _ _ _ _ (c.push_reserved.ensures ∙ ap (λ d. d ++ c.in_ok-call.call ∷ []) c.in_ok-reserve.ensures.items) c.in_ok-call.ensures })
