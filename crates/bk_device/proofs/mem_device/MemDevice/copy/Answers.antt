-- The device begins with copies of the files.
use Rattle.std.proofs.Common.{◌≡◌, [], refl, ap, sym, ◌∙◌}
use Rattle.bk_device.specs.Replay.{Memory, disk_of}
use Rattle.bk_device.proofs.Memories.{replayed_fresh, fresh_files, files_in}
use Rattle.bk_device.proofs.mem_device.MemDevice.copy.Goals as goal

pub invariant_of-device : goal.invariant_of-device
invariant_of-device c =
    let began = c.device.view_is ∙ c.new-device.ensures in
    let nothing : c.device.inside.told.items ≡ [] = c.device.invariant.told ∙ ap (λ (m : Memory). (disk_of m).told) began in
    replayed_fresh _ _ _ _ refl (ap (λ (m : Memory). m.told_before) began ∙ sym nothing) (ap (λ (m : Memory). m.steps) began) (c.in_ok-device-inside.ensures.begin ∙ sym c.in_ok-device-inside.ensures.current) (c.in_ok-device-inside.ensures.durable ∙ sym c.in_ok-device-inside.ensures.current) c.device.invariant.enough

pub returns-clause-files : goal.returns-clause-files
returns-clause-files c =
    let began = c.device.view_is ∙ c.new-device.ensures in
    fresh_files _ _ _ (ap (λ (m : Memory). m.steps) began) (c.in_ok-device-inside.ensures.begin ∙ sym c.in_ok-device-inside.ensures.current) ∙ c.in_ok-device-inside.ensures.current
    ∙ sym (files_in _ _ _ _ _ c.self.view_is c.self.invariant)
