use Rattle.std.proofs.Common.{◌≡◌, ◌<◌, Bool, subst, arith, refl, inl}
use Rattle.bk_device.specs.Compose.{effect_weaken}
use Rattle.bk_gate.specs.Gate.{IsAt}
use Rattle.bk_gate.proofs.Steps.{seal_crash, seal_value, open_quiet, only_cause, last_cause}
use Rattle.bk_gate.proofs.blob.seal_blob.Goals as goal

pub finish-requires-clause-quiet : goal.finish-requires-clause-quiet
finish-requires-clause-quiet g c t =
    let at = c.requires.at t in
    let more : 0 < c.args.len = omega arith in
    let Is : Bool → Type 0 = λ b. IsAt at.0 c.args.end b c.args.name.now (g.D.Device.disk c.args.dev.now) in
    (at.0, subst Is (c.requires.room t more).0 at.1)

pub returns-in_err-write_durably-clause-crash : goal.returns-in_err-write_durably-clause-crash
returns-in_err-write_durably-clause-crash g c t =
    let disk = g.D.Device.disk in
    let at = c.requires.at t in
    let more : 0 < c.args.len = omega arith in
    let Is : Bool → Type 0 = λ b. IsAt at.0 c.args.end b c.args.name.now (disk c.args.dev.now) in
    seal_crash at.0 c.args.end c.args.len c.args.name.now _ (disk c.args.dev.now) (disk c.finish.new.dev) (disk c.write_durably.new.dev) (c.in_ok-finish.ensures.sealed t) (c.in_ok-finish.ensures.blob t) (c.finish.ensures.crash t)
    (c.in_ok-finish.ensures.quiet t at.0 (subst Is (c.requires.room t more).0 at.1)) (c.in_ok-finish.ensures.prepared t) (c.write_durably.ensures.crash t)

pub returns-clause-crash : goal.returns-clause-crash
returns-clause-crash g c t =
    let disk = g.D.Device.disk in
    let at = c.requires.at t in
    let more : 0 < c.args.len = omega arith in
    let Is : Bool → Type 0 = λ b. IsAt at.0 c.args.end b c.args.name.now (disk c.args.dev.now) in
    seal_crash at.0 c.args.end c.args.len c.args.name.now _ (disk c.args.dev.now) (disk c.finish.new.dev) (disk c.write_durably.new.dev) (c.in_ok-finish.ensures.sealed t) (c.in_ok-finish.ensures.blob t) (c.finish.ensures.crash t)
    (c.in_ok-finish.ensures.quiet t at.0 (subst Is (c.requires.room t more).0 at.1)) (c.in_ok-finish.ensures.prepared t) (c.write_durably.ensures.crash t)

pub returns-clause-sealed : goal.returns-clause-sealed
returns-clause-sealed g c t =
    let disk = g.D.Device.disk in
    let at = c.requires.at t in
    let more : 0 < c.args.len = omega arith in
    let Is : Bool → Type 0 = λ b. IsAt at.0 c.args.end b c.args.name.now (disk c.args.dev.now) in
    seal_value at.0 c.args.end c.args.len c.args.name.now _ (disk c.args.dev.now) (disk c.finish.new.dev) (disk c.write_durably.new.dev) (c.in_ok-finish.ensures.sealed t) (c.in_ok-finish.ensures.blob t)
    (c.in_ok-finish.ensures.quiet t at.0 (subst Is (c.requires.room t more).0 at.1)) (c.in_ok-finish.ensures.prepared t) (c.in_ok-write_durably.ensures.written t)

pub returns-clause-quiet : goal.returns-clause-quiet
returns-clause-quiet g c t spans at =
    let disk = g.D.Device.disk in
    let more : 0 < c.args.len = omega arith in
    let Is : Bool → Type 0 = λ b. IsAt spans c.args.end b c.args.name.now (disk c.args.dev.now) in
    open_quiet spans c.args.end c.args.len c.args.name.now (disk c.finish.new.dev) (disk c.write_durably.new.dev) (c.in_ok-finish.ensures.quiet t spans (subst Is (c.requires.room t more).0 at)) (c.in_ok-finish.ensures.prepared t) (c.in_ok-write_durably.ensures.written t) (c.in_ok-write_durably.ensures.durable t)

pub returns-then-len-eq0-clause-crash : goal.returns-then-len-eq0-clause-crash
returns-then-len-eq0-clause-crash g c t =
    let none : c.args.len ≡ 0 = omega arith in
    rw none (c.append_blob.ensures.crash t)

pub returns-then-len-eq0-clause-sealed : goal.returns-then-len-eq0-clause-sealed
returns-then-len-eq0-clause-sealed g c t =
    let none : c.args.len ≡ 0 = omega arith in
    rw none (c.append_blob.ensures.sealed t)

pub returns-then-len-eq0-clause-quiet : goal.returns-then-len-eq0-clause-quiet
returns-then-len-eq0-clause-quiet g c t spans at =
    let none : c.args.len ≡ 0 = omega arith in
    rw none (c.append_blob.ensures.quiet t spans at)

pub append_blob-requires : goal.append_blob-requires
append_blob-requires g c = c.requires.at

pub returns-then-len-eq0-clause-durable : goal.returns-then-len-eq0-clause-durable
returns-then-len-eq0-clause-durable g c = c.append_blob.ensures.durable

pub returns-then-len-eq0-clause-cause : goal.returns-then-len-eq0-clause-cause
returns-then-len-eq0-clause-cause g c = c.append_blob.ensures.cause

pub finish-requires-clause-inside : goal.finish-requires-clause-inside
finish-requires-clause-inside g c t = (c.requires.room t (omega arith)).1

pub write_durably-requires-clause-inside : goal.write_durably-requires-clause-inside
write_durably-requires-clause-inside g c t =
    let at = c.requires.at t in
    let more : 0 < c.args.len = omega arith in
    let Is : Bool → Type 0 = λ b. IsAt at.0 c.args.end b c.args.name.now (g.D.Device.disk c.args.dev.now) in
    (c.in_ok-finish.ensures.quiet t at.0 (subst Is (c.requires.room t more).0 at.1)).stands.within

pub write_durably-requires-clause-settled : goal.write_durably-requires-clause-settled
write_durably-requires-clause-settled g c = c.in_ok-finish.ensures.durable

pub returns-in_err-finish-clause-crash : goal.returns-in_err-finish-clause-crash
returns-in_err-finish-clause-crash g c t = effect_weaken (λ image kept. inl kept) (c.finish.ensures.crash t)

pub returns-in_err-finish-clause-cause : goal.returns-in_err-finish-clause-cause
returns-in_err-finish-clause-cause g c = only_cause c.in_err-finish.ensures.cause (λ _. refl)

pub returns-in_err-write_durably-clause-cause : goal.returns-in_err-write_durably-clause-cause
returns-in_err-write_durably-clause-cause g c = last_cause c.in_ok-finish.ensures.cause c.in_err-write_durably.ensures.cause (λ _. refl)

pub returns-clause-durable : goal.returns-clause-durable
returns-clause-durable g c = c.in_ok-write_durably.ensures.durable

pub returns-clause-cause : goal.returns-clause-cause
returns-clause-cause g c = last_cause c.in_ok-finish.ensures.cause c.in_ok-write_durably.ensures.cause (λ is. is)
