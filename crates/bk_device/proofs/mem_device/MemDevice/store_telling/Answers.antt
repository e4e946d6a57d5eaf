-- The call and what it changed go together.
use Rattle.std.proofs.Common.{[], ◌∷◌, ◌++◌, take, refl, ap, ◌∙◌}
use Rattle.std.proofs.lemmas.List.{take-append-le}
use Rattle.bk_device.proofs.Memories.{steps-push, replayed_telling}
use Rattle.bk_device.proofs.mem_device.MemDevice.store_telling.Goals as goal

pub invariant_of-self-2 : goal.invariant_of-self-2
invariant_of-self-2 c =
    replayed_telling _ _ _ _ _ _ c.args.bytes.now
    (record {
      begin = refl;
      told_before = ap (take c.self.inside.told_before) c.in_ok-extend_from_slice.ensures.items ∙ take-append-le c.self.inside.told_before c.self.inside.told.items c.args.bytes.now c.self.invariant.enough;
      steps = steps-push _ _ _ _ (c.push_reserved.ensures ∙ ap (λ d. d ++ c.in_ok-call.call ∷ []) c.in_ok-reserve.ensures.items) c.in_ok-call.ensures;
    })
    c.in_ok-extend_from_slice.ensures.items c.self.invariant
