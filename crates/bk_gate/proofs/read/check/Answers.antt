use Rattle.std.proofs.Common.{◌≡◌, ◌≢◌, ◌∙◌, ap, sym, arith, length, take}
use Rattle.bk_device.specs.Calls.{contents}
use Rattle.bk_device.specs.Laws.{nothing_then}
use Rattle.bk_gate.specs.Blobs.{magic}
use Rattle.bk_gate.proofs.Reading.{counted}
use Rattle.bk_gate.proofs.read.check.Goals as goal

pub returns-in_err-len-clause-effect : goal.returns-in_err-len-clause-effect
returns-in_err-len-clause-effect g c = c.len.ensures.effect

pub returns-then-len-lt17-clause-effect : goal.returns-then-len-lt17-clause-effect
returns-then-len-lt17-clause-effect g c = c.len.ensures.effect

pub returns-in_err-begins_well-clause-effect : goal.returns-in_err-begins_well-clause-effect
returns-in_err-begins_well-clause-effect g c t = nothing_then (g.met.D.Device.lawful t c.args.dev.now) (c.len.ensures.effect t) (c.begins_well.ensures.effect t)

pub returns-then-branch-clause-effect : goal.returns-then-branch-clause-effect
returns-then-branch-clause-effect g c t = nothing_then (g.met.D.Device.lawful t c.args.dev.now) (c.len.ensures.effect t) (c.begins_well.ensures.effect t)

pub returns-else-branch-clause-effect : goal.returns-else-branch-clause-effect
returns-else-branch-clause-effect g c t = nothing_then (g.met.D.Device.lawful t c.args.dev.now) (c.len.ensures.effect t) (c.begins_well.ensures.effect t)

pub returns-then-branch-clause-len : goal.returns-then-branch-clause-len
returns-then-branch-clause-len g c t = counted ((g.D.Device.disk c.args.dev.now).files c.args.name.now) _ _ (c.in_ok-len.ensures.value t) c.unwrap_or-len.ensures

pub returns-then-len-lt17-clause-foreign : goal.returns-then-len-lt17-clause-foreign
returns-then-len-lt17-clause-foreign g c t is gate =
    let size = counted ((g.D.Device.disk c.args.dev.now).files c.args.name.now) _ _ (c.in_ok-len.ensures.value t) c.unwrap_or-len.ensures in
    absurd (omega (arith, gate.1, size, c.if-len-lt17.true))

pub returns-then-branch-clause-gate_file : goal.returns-then-branch-clause-gate_file
returns-then-branch-clause-gate_file g c t =
    let disk = g.D.Device.disk in
    let name = c.args.name.now in
    let size = counted ((disk c.args.dev.now).files name) _ _ (c.in_ok-len.ensures.value t) c.unwrap_or-len.ensures in
    let same = ap contents ((c.len.ensures.effect t).files name) in
    let well : take 16 (contents ((disk c.len.new.self).files name)) ≡ magic = rw c.if-branch.true at c.in_ok-begins_well.ensures.value t (omega (arith, size, c.if-len-lt17.false, ap length same)) in
    (ap (take 16) (sym same) ∙ well, omega (arith, size, c.if-len-lt17.false))

pub returns-else-branch-clause-foreign : goal.returns-else-branch-clause-foreign
returns-else-branch-clause-foreign g c t is gate =
    let disk = g.D.Device.disk in
    let name = c.args.name.now in
    let same = ap contents ((c.len.ensures.effect t).files name) in
    let differs : take 16 (contents ((disk c.len.new.self).files name)) ≢ magic = rw c.if-branch.false at c.in_ok-begins_well.ensures.value t (omega (arith, gate.1, ap length same)) in
    absurd (differs (ap (take 16) same ∙ gate.0))
