use Rattle.std.proofs.Common.{◌≡◌, ◌∙◌, ap, sym, arith, take, length, length-take, List, ℕ}
use Rattle.bk_device.specs.Calls.{contents}
use Rattle.bk_control.specs.Slots.{slot_at}
use Rattle.bk_control.proofs.Completing.{cut_first, cut_contents, cut_step, same_step}
use Rattle.bk_control.proofs.whole.drop_second.Goals as goal

pub returns-in_err-cut-clause-crash : goal.returns-in_err-cut-clause-crash
returns-in_err-cut-clause-crash g c t =
    let was = c.requires.holds t in
    cut_step c.args.name.now was.0 was.1 (g.D.Device.disk c.args.dev.now) (g.D.Device.disk c.cut.new.self) (c.requires.settled t) was.2 (c.cut.ensures.effect t)

pub returns-in_err-sync-clause-crash : goal.returns-in_err-sync-clause-crash
returns-in_err-sync-clause-crash g c t =
    let was = c.requires.holds t in
    same_step c.args.name.now _ (g.D.Device.disk c.args.dev.now) (g.D.Device.disk c.cut.new.self) (g.D.Device.disk c.sync.new.self)
    (cut_step c.args.name.now was.0 was.1 (g.D.Device.disk c.args.dev.now) (g.D.Device.disk c.cut.new.self) (c.requires.settled t) was.2 (c.cut.ensures.effect t))
    (c.sync.ensures.effect t)

pub returns-clause-crash : goal.returns-clause-crash
returns-clause-crash g c t =
    let was = c.requires.holds t in
    same_step c.args.name.now _ (g.D.Device.disk c.args.dev.now) (g.D.Device.disk c.cut.new.self) (g.D.Device.disk c.sync.new.self)
    (cut_step c.args.name.now was.0 was.1 (g.D.Device.disk c.args.dev.now) (g.D.Device.disk c.cut.new.self) (c.requires.settled t) was.2 (c.cut.ensures.effect t))
    (c.sync.ensures.effect t)

-- the file now
cut_file : (g : _) (c : goal.In_ok-sync g) → g.D.Device.tells → contents ((g.D.Device.disk c.sync.new.self).files c.args.name.now) ≡ take 65600 (contents ((g.D.Device.disk c.args.dev.now).files c.args.name.now))
cut_file g c t = ap contents (c.in_ok-sync.ensures.same t ∙ c.in_ok-cut.ensures.cut t) ∙ cut_contents ((g.D.Device.disk c.args.dev.now).files c.args.name.now)

pub returns-clause-len : goal.returns-clause-len
returns-clause-len g c t =
    let was : c.args.len ≡ length (contents ((g.D.Device.disk c.args.dev.now).files c.args.name.now)) = c.requires.len t in
    sym (ap length (cut_file g c t) ∙ length-take 65600 (contents ((g.D.Device.disk c.args.dev.now).files c.args.name.now)) ∙ omega (arith, was, c.if-len-le65600.false))

pub returns-clause-same : goal.returns-clause-same
returns-clause-same g c t =
    ap (λ (file : List ℕ). slot_at file 0) (cut_file g c t) ∙ cut_first (contents ((g.D.Device.disk c.args.dev.now).files c.args.name.now))
