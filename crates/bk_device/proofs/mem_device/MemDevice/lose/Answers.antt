-- The device begins anew with the files as they are, one of them gone.
use Rattle.std.proofs.Common.{None, length, refl, map, ap, sym, ◌∙◌, arith}
use Rattle.bk_device.specs.Disk.{Files, replaced}
use Rattle.bk_device.specs.Memory.{step_of}
use Rattle.bk_device.proofs.Memories.{replayed_fresh, fresh_files, all_before, files_in}
use Rattle.bk_device.proofs.mem_device.MemDevice.lose.Goals as goal

pub invariant_of-self : goal.invariant_of-self
invariant_of-self c = replayed_fresh _ _ _ _ refl (all_before _ _ (ap length c.as_slice.ensures.value)) (ap (map step_of) c.clear.ensures.items) (c.keep.ensures.begin ∙ sym c.keep.ensures.current) (c.keep.ensures.durable ∙ sym c.keep.ensures.current) (omega (arith, ap length c.as_slice.ensures.value))

pub returns-clause-files : goal.returns-clause-files
returns-clause-files c =
    fresh_files _ _ _ (ap (map step_of) c.clear.ensures.items) (c.keep.ensures.begin ∙ sym c.keep.ensures.current) ∙ c.keep.ensures.current ∙ c.remove.ensures.current
    ∙ ap (λ (files : Files). replaced files c.args.name.now None) (sym (files_in _ _ _ _ _ c.self.view_is c.self.invariant))
