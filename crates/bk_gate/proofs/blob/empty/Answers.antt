use Rattle.std.proofs.lemmas.Result.{on_ok_weaker}
use Rattle.std.proofs.Common.{[], refl, inl, ◌∙◌}
use Rattle.bk_device.specs.Compose.{effect_weaken}
use Rattle.bk_gate.proofs.Steps.{empty_erased, empty_trimmed, only_cause, last_cause}
use Rattle.bk_gate.proofs.blob.empty.Goals as goal

pub returns-in_err-erase_blobs-clause-crash : goal.returns-in_err-erase_blobs-clause-crash
returns-in_err-erase_blobs-clause-crash g c t =
    let disk = g.D.Device.disk in
    empty_erased c.args.name.now (disk c.args.dev.now) (disk c.close.new.dev) (disk c.erase_blobs.new.dev) (c.in_ok-close.ensures.sealed t) (c.close.ensures.crash t) (c.erase_blobs.ensures.crash t)

pub returns-clause-crash : goal.returns-clause-crash
returns-clause-crash g c t =
    let disk = g.D.Device.disk in
    empty_trimmed c.args.name.now (disk c.args.dev.now) (disk c.close.new.dev) (disk c.erase_blobs.new.dev) (disk c.trim.new.dev) (c.in_ok-close.ensures.sealed t) (c.in_ok-erase_blobs.ensures.sealed t) (c.close.ensures.crash t) (c.erase_blobs.ensures.crash t) (c.trim.ensures.crash t)

pub returns-clause-quiet : goal.returns-clause-quiet
returns-clause-quiet g c t = c.trim.ensures.quiet t [] (c.in_ok-erase_blobs.ensures.quiet t)

pub close-requires : goal.close-requires
close-requires g c t = ((c.requires.at t).0, (c.requires.at t).1)

pub erase_blobs-requires : goal.erase_blobs-requires
erase_blobs-requires g c t =
    let at = c.requires.at t in
    (at.0, c.in_ok-close.ensures.quiet t at.0 at.1, at.2, at.3)

pub trim-requires : goal.trim-requires
trim-requires g c t = ([], c.in_ok-erase_blobs.ensures.quiet t)

pub returns-in_err-close-clause-crash : goal.returns-in_err-close-clause-crash
returns-in_err-close-clause-crash g c t = effect_weaken (λ image kept. inl kept) (c.close.ensures.crash t)

pub returns-in_err-close-clause-cause : goal.returns-in_err-close-clause-cause
returns-in_err-close-clause-cause g c = only_cause c.in_err-close.ensures.cause (λ _. refl)

pub returns-in_err-erase_blobs-clause-cause : goal.returns-in_err-erase_blobs-clause-cause
returns-in_err-erase_blobs-clause-cause g c = last_cause c.in_ok-close.ensures.cause c.in_err-erase_blobs.ensures.cause (λ _. refl)

pub returns-clause-durable : goal.returns-clause-durable
returns-clause-durable g c = c.trim.ensures.durable

pub returns-clause-sealed : goal.returns-clause-sealed
returns-clause-sealed g c t = on_ok_weaker c.trim.result (λ same. same ∙ c.in_ok-erase_blobs.ensures.sealed t) (c.trim.ensures.sealed t)

pub returns-clause-cause : goal.returns-clause-cause
returns-clause-cause g c = last_cause c.in_ok-close.ensures.cause (last_cause c.in_ok-erase_blobs.ensures.cause c.trim.ensures.cause (λ is. is)) (λ is. is)
