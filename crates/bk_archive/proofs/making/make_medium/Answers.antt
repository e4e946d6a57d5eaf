use Rattle.std.proofs.Common.{ℕ, List, subst}
use Rattle.bk_device.specs.Effects.{Effect}
use Rattle.bk_archive.specs.Calls.{HasMade, LeavesMaking}
use Rattle.bk_archive.specs.DiskLaws.{one-durable}
use Rattle.bk_archive.specs.Media.{IfDurable, IsMediumFile}
use Rattle.bk_archive.specs.TextLaws.{text-bytes}
use Rattle.bk_archive.proofs.Makes.{made-crash, made-has}
use Rattle.bk_archive.proofs.making.make_medium.Goals as goal

pub returns-in_err-_medium-clause-crash : goal.returns-in_err-_medium-clause-crash
returns-in_err-_medium-clause-crash g c tells =
    let a = g.D.Device.disk c.args.dev.now in
    let b = g.D.Device.disk c.make.new.dev in
    let at = c.as_str.result.now in
    subst (λ (p : List ℕ). Effect IsMediumFile (IfDurable a (LeavesMaking p a.files)) a b) c.as_str.ensures (made-crash a b at (text-bytes at c.as_str.utf8) (c.make.ensures.crash tells))

pub returns-clause-crash : goal.returns-clause-crash
returns-clause-crash g c tells =
    let a = g.D.Device.disk c.args.dev.now in
    let b = g.D.Device.disk c.make.new.dev in
    let at = c.as_str.result.now in
    subst (λ (p : List ℕ). Effect IsMediumFile (IfDurable a (LeavesMaking p a.files)) a b) c.as_str.ensures (made-crash a b at (text-bytes at c.as_str.utf8) (c.make.ensures.crash tells))

pub returns-clause-made : goal.returns-clause-made
returns-clause-made g c tells =
    let a = g.D.Device.disk c.args.dev.now in
    let b = g.D.Device.disk c.make.new.dev in
    let at = c.as_str.result.now in
    subst (λ (p : List ℕ). HasMade p a.files b.files) c.as_str.ensures (made-has a b at (text-bytes at c.as_str.utf8) (c.make.ensures.crash tells) (c.in_ok-_medium.ensures.sets tells))

pub returns-clause-media : goal.returns-clause-media
returns-clause-media g c tells durable =
    one-durable (g.D.Device.disk c.args.dev.now) (g.D.Device.disk c.make.new.dev) c.as_str.result.now (c.make.ensures.crash tells) (c.in_ok-_medium.ensures.durable tells) durable
