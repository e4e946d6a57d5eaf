-- The device begins anew with the files as they are, one of them changed.
use Rattle.std.proofs.Common.{◌<◌, length, refl, map, ap, sym, ◌∙◌, subst, arith}
use Rattle.std.specs.Prelude.{option_map, IsSomeAnd}
use Rattle.bk_device.specs.Disk.{Files, replaced}
use Rattle.bk_device.specs.Held.{flipped}
use Rattle.bk_device.specs.Memory.{step_of}
use Rattle.bk_device.proofs.Memories.{replayed_fresh, fresh_files, fresh_told, all_before, told_in, files_in}
use Rattle.bk_device.proofs.mem_device.MemDevice.damage.Goals as goal

pub damage-requires : goal.damage-requires
damage-requires c =
    let Within : Files → Type 0 = λ files. IsSomeAnd (files c.args.name.now) (λ content. c.args.at < length content) in
    subst Within (files_in _ _ _ _ _ c.self.view_is c.self.invariant) c.requires

pub invariant_of-self : goal.invariant_of-self
invariant_of-self c = replayed_fresh _ _ _ _ refl (all_before _ _ (ap length c.as_slice.ensures.value)) (ap (map step_of) c.clear.ensures.items) (c.keep.ensures.begin ∙ sym c.keep.ensures.current) (c.keep.ensures.durable ∙ sym c.keep.ensures.current) (omega (arith, ap length c.as_slice.ensures.value))

pub returns-clause-files : goal.returns-clause-files
returns-clause-files c =
    fresh_files _ _ _ (ap (map step_of) c.clear.ensures.items) (c.keep.ensures.begin ∙ sym c.keep.ensures.current) ∙ c.keep.ensures.current ∙ c.damage.ensures.current
    ∙ ap (λ (files : Files). replaced files c.args.name.now (option_map (flipped c.args.at) (files c.args.name.now))) (sym (files_in _ _ _ _ _ c.self.view_is c.self.invariant))

pub returns-clause-told : goal.returns-clause-told
returns-clause-told c = fresh_told _ _ _ _ (all_before _ _ (ap length c.as_slice.ensures.value)) (ap (map step_of) c.clear.ensures.items) ∙ sym (told_in _ _ _ _ _ c.self.view_is c.self.invariant)
