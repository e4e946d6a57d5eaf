use Rattle.std.proofs.lemmas.Result.{on_ok_weaker}
use Rattle.std.proofs.Common.{◌≡◌, ◌<◌, ◌+◌, ◌∙◌, Bool, ap, sym, subst, arith}
use Rattle.bk_device.specs.Calls.{contents, read_at}
use Rattle.bk_gate.specs.Gate.{IsAt}
use Rattle.bk_gate.proofs.Steps.{keeps_then, quiet_none, on_ok_any}
use Rattle.bk_gate.proofs.blob.make_room.Goals as goal

pub returns-then-len-gt0-clause-crash : goal.returns-then-len-gt0-clause-crash
returns-then-len-gt0-clause-crash g c t =
    let a = g.D.Device.disk c.args.dev.now in
    let at = c.requires.at t in
    let more : 0 < c.args.len = omega arith in
    let Is : Bool → Type 0 = λ b. IsAt at.0 c.args.end b c.args.name.now a in
    quiet_none at.0 c.args.end c.args.name.now a (subst Is (c.requires.room t more).0 at.1)

pub returns-clause-crash : goal.returns-clause-crash
returns-clause-crash g c t =
    let disk = g.D.Device.disk in
    keeps_then c.args.name.now (disk c.args.dev.now) (disk c.close.new.dev) (disk c.lay_length.new.dev) (c.in_ok-close.ensures.sealed t) (c.close.ensures.crash t) (c.lay_length.ensures.crash t)

pub returns-clause-room : goal.returns-clause-room
returns-clause-room g c t =
    let none : c.args.len ≡ 0 = omega arith in
    on_ok_weaker c.lay_length.result (λ room. omega (arith, none, room)) (c.lay_length.ensures.room t)

pub returns-clause-begun : goal.returns-clause-begun
returns-clause-begun g c t =
    let disk = g.D.Device.disk in
    let name = c.args.name.now in
    let none : c.args.len ≡ 0 = omega arith in
    on_ok_any c.lay_length.result (ap (read_at (contents ((disk c.lay_length.new.dev).files name)) (c.args.end + 9)) none ∙ sym (ap (read_at (contents ((disk c.args.dev.now).files name)) (c.args.end + 9)) none))
