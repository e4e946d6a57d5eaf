-- The device begins anew with the files that are kept.
use Rattle.std.proofs.Common.{◌≡◌, length, refl, map, ap, sym, ◌∙◌, subst, arith}
use Rattle.std.specs.Prelude.{if◌then◌else◌}
use Rattle.bk_device.specs.Disk.{Files, MayLeave}
use Rattle.bk_device.specs.Held.{durable_files, current_files}
use Rattle.bk_device.specs.Memory.{step_of}
use Rattle.bk_device.specs.Replay.{disk_of, durable_files_of}
use Rattle.bk_device.specs.Replayed.{restart_left}
use Rattle.bk_device.proofs.Memories.{replayed_fresh, fresh_files, all_before, files_in, durable_in}
use Rattle.bk_device.proofs.mem_device.MemDevice.restart.Goals as goal

pub invariant_of-device : goal.invariant_of-device
invariant_of-device c = replayed_fresh _ _ _ _ refl (all_before _ _ (ap length c.as_slice.ensures.value)) (ap (map step_of) c.clear.ensures.items) c.restart.ensures.begin c.restart.ensures.durable (omega (arith, ap length c.as_slice.ensures.value))

pub returns-clause-files : goal.returns-clause-files
returns-clause-files c =
    let choice : (if c.args.keep then current_files c.device.inside.files.held.items else durable_files c.device.inside.files.held.items) ≡ (if c.args.keep then (disk_of c.args.self).files else durable_files_of c.args.self) =
    ap (λ (files : Files). if c.args.keep then files else durable_files c.device.inside.files.held.items) (sym (files_in _ _ _ _ _ c.device.view_is c.device.invariant))
    ∙ ap (λ (files : Files). if c.args.keep then (disk_of c.args.self).files else files) (sym (durable_in _ _ _ _ _ c.device.view_is c.device.invariant)) in
    fresh_files _ _ _ (ap (map step_of) c.clear.ensures.items) c.restart.ensures.begin ∙ c.restart.ensures.current ∙ choice

pub returns-clause-left : goal.returns-clause-left
returns-clause-left c =
    let Left : Files → Type 0 = λ files. MayLeave (disk_of c.args.self) files in
    subst Left (sym (returns-clause-files c)) (restart_left c.args.self c.args.keep)
