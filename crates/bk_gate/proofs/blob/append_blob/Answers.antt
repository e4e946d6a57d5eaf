use Rattle.std.proofs.Common.{◌∙◌, inl, length, refl}
use Rattle.bk_device.specs.Compose.{effect_weaken}
use Rattle.bk_gate.proofs.Steps.{keeps_then, seal_crash, seal_value, open_quiet, only_cause, last_cause}
use Rattle.bk_gate.proofs.blob.append_blob.Goals as goal

pub returns-in_err-close-clause-crash : goal.returns-in_err-close-clause-crash
returns-in_err-close-clause-crash g c t = effect_weaken (λ image kept. inl kept) (c.close.ensures.crash t)

pub returns-in_err-lay-clause-crash : goal.returns-in_err-lay-clause-crash
returns-in_err-lay-clause-crash g c t =
    let disk = g.D.Device.disk in
    effect_weaken (λ image kept. inl kept) (keeps_then c.args.name.now (disk c.args.dev.now) (disk c.close.new.dev) (disk c.lay.new.dev) (c.in_ok-close.ensures.sealed t) (c.close.ensures.crash t) (c.lay.ensures.crash t))

pub returns-in_err-write_durably-clause-crash : goal.returns-in_err-write_durably-clause-crash
returns-in_err-write_durably-clause-crash g c t =
    let disk = g.D.Device.disk in
    let at = c.requires t in
    let laid = c.in_ok-lay.ensures.laid t in
    let first = keeps_then c.args.name.now (disk c.args.dev.now) (disk c.close.new.dev) (disk c.lay.new.dev) (c.in_ok-close.ensures.sealed t) (c.close.ensures.crash t) (c.lay.ensures.crash t) in
    seal_crash at.0 c.args.end (length c.args.bytes.now) c.args.name.now c.args.bytes.now (disk c.args.dev.now) (disk c.lay.new.dev) (disk c.write_durably.new.dev) (c.in_ok-lay.ensures.sealed t ∙ c.in_ok-close.ensures.sealed t) laid.blob first
    (c.in_ok-lay.ensures.quiet t at.0 (c.in_ok-close.ensures.quiet t at.0 at.1)) laid.prepared (c.write_durably.ensures.crash t)

pub returns-clause-crash : goal.returns-clause-crash
returns-clause-crash g c t =
    let disk = g.D.Device.disk in
    let at = c.requires t in
    let laid = c.in_ok-lay.ensures.laid t in
    let first = keeps_then c.args.name.now (disk c.args.dev.now) (disk c.close.new.dev) (disk c.lay.new.dev) (c.in_ok-close.ensures.sealed t) (c.close.ensures.crash t) (c.lay.ensures.crash t) in
    seal_crash at.0 c.args.end (length c.args.bytes.now) c.args.name.now c.args.bytes.now (disk c.args.dev.now) (disk c.lay.new.dev) (disk c.write_durably.new.dev) (c.in_ok-lay.ensures.sealed t ∙ c.in_ok-close.ensures.sealed t) laid.blob first
    (c.in_ok-lay.ensures.quiet t at.0 (c.in_ok-close.ensures.quiet t at.0 at.1)) laid.prepared (c.write_durably.ensures.crash t)

pub returns-clause-sealed : goal.returns-clause-sealed
returns-clause-sealed g c t =
    let disk = g.D.Device.disk in
    let at = c.requires t in
    let laid = c.in_ok-lay.ensures.laid t in
    seal_value at.0 c.args.end (length c.args.bytes.now) c.args.name.now c.args.bytes.now (disk c.args.dev.now) (disk c.lay.new.dev) (disk c.write_durably.new.dev) (c.in_ok-lay.ensures.sealed t ∙ c.in_ok-close.ensures.sealed t) laid.blob
    (c.in_ok-lay.ensures.quiet t at.0 (c.in_ok-close.ensures.quiet t at.0 at.1)) laid.prepared (c.in_ok-write_durably.ensures.written t)

pub returns-clause-quiet : goal.returns-clause-quiet
returns-clause-quiet g c t spans at =
    let disk = g.D.Device.disk in
    let laid = c.in_ok-lay.ensures.laid t in
    open_quiet spans c.args.end (length c.args.bytes.now) c.args.name.now (disk c.lay.new.dev) (disk c.write_durably.new.dev) (c.in_ok-lay.ensures.quiet t spans (c.in_ok-close.ensures.quiet t spans at)) laid.prepared (c.in_ok-write_durably.ensures.written t) (c.in_ok-write_durably.ensures.durable t)

pub close-requires : goal.close-requires
close-requires g c = c.requires

pub lay-requires : goal.lay-requires
lay-requires g c t =
    let at = c.requires t in
    (at.0, c.in_ok-close.ensures.quiet t at.0 at.1)

pub write_durably-requires-clause-inside : goal.write_durably-requires-clause-inside
write_durably-requires-clause-inside g c t =
    (c.in_ok-lay.ensures.quiet t (c.requires t).0 (c.in_ok-close.ensures.quiet t (c.requires t).0 (c.requires t).1)).stands.within

pub write_durably-requires-clause-settled : goal.write_durably-requires-clause-settled
write_durably-requires-clause-settled g c = c.in_ok-lay.ensures.durable

pub returns-in_err-close-clause-cause : goal.returns-in_err-close-clause-cause
returns-in_err-close-clause-cause g c = only_cause c.in_err-close.ensures.cause (λ _. refl)

pub returns-in_err-lay-clause-cause : goal.returns-in_err-lay-clause-cause
returns-in_err-lay-clause-cause g c = last_cause c.in_ok-close.ensures.cause c.in_err-lay.ensures.cause (λ _. refl)

pub returns-in_err-write_durably-clause-cause : goal.returns-in_err-write_durably-clause-cause
returns-in_err-write_durably-clause-cause g c =
    last_cause c.in_ok-close.ensures.cause (last_cause c.in_ok-lay.ensures.cause c.in_err-write_durably.ensures.cause (λ _. refl)) (λ is. is)

pub returns-clause-durable : goal.returns-clause-durable
returns-clause-durable g c = c.in_ok-write_durably.ensures.durable

pub returns-clause-cause : goal.returns-clause-cause
returns-clause-cause g c =
    last_cause c.in_ok-close.ensures.cause (last_cause c.in_ok-lay.ensures.cause c.in_ok-write_durably.ensures.cause (λ is. is)) (λ is. is)
