use Rattle.std.proofs.Common.{◌≡◌, length, sym, ap, arith, ◌∙◌}
use Rattle.std.proofs.lemmas.List.{take_at}
use Rattle.bk_gate.specs.Gate.{Kept}
use Rattle.bk_volume.proofs.Behind.{log_found}
use Rattle.bk_volume.proofs.medium.Medium.log_of.Goals as goal

pub returns-clause-log : goal.returns-clause-log
returns-clause-log g c t = λ body is.
    let size : length c.as_mut_slice.result.now ≡ c.args.set.now.log = omega (arith, c.as_mut_slice.ensures.len, c.in_ok-log.ensures.len, c.log_len.ensures) in
    let len : c.in_ok-log.log.len ≡ c.args.set.now.log = omega (arith, c.in_ok-log.ensures.len, c.log_len.ensures) in
    let read_is : c.read.new.buf ≡ body.log =
    log_found (g.D.Device.disk c.args.dev.now).files c.args.self.now.name c.name.result.now c.as_mut_slice.result.now c.read.new.buf body c.args.set.now c.log_place.result (c.name.ensures ∙ ap (λ (k : Kept). k.name) c.self.view_is) is size c.log_place.ensures.place
    (c.in_ok-read.ensures.bytes t) in
    take_at c.read.new.buf _ c.in_ok-log.log.len (ap length read_is ∙ sym is.log ∙ sym len) ∙ read_is
