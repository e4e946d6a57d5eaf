use Rattle.std.proofs.lemmas.Result.{on_ok_weaker}
use Rattle.std.proofs.Common.{sym}
use Rattle.bk_device.specs.Calls.{contents}
use Rattle.bk_control.specs.Slots.{counting}
use Rattle.bk_control.proofs.Completing.{alone, gated, whole_gated, add_front, add_rest}
use Rattle.bk_control.proofs.whole.add_second.Goals as goal

pub returns-in_err-lengthen-clause-crash : goal.returns-in_err-lengthen-clause-crash
returns-in_err-lengthen-clause-crash g c t =
    let disk = g.D.Device.disk in
    let name = c.args.name.now in
    let a = disk c.args.dev.now in
    let b = disk c.drop_second.new.dev in
    let was = c.requires.holds t in
    add_front name was.1 (counting (contents (a.files name))) a b (disk c.lengthen.new.dev) was.2.counts (c.drop_second.ensures.crash t)
    (alone was.1 c.in_ok-left.left _ _ (c.in_ok-left.ensures.len t) c.in_ok-left.ensures.short (c.in_ok-left.ensures.same t) was.2.here)
    (c.lengthen.ensures.crash t)

pub returns-clause-crash : goal.returns-clause-crash
returns-clause-crash g c t =
    let disk = g.D.Device.disk in
    let name = c.args.name.now in
    let a = disk c.args.dev.now in
    let b = disk c.drop_second.new.dev in
    let d = disk c.lengthen.new.dev in
    let was = c.requires.holds t in
    let one = alone was.1 c.in_ok-left.left _ _ (c.in_ok-left.ensures.len t) c.in_ok-left.ensures.short (c.in_ok-left.ensures.same t) was.2.here in
    add_rest name was.1 (counting (contents (a.files name))) a d (disk c.lengthen-2.new.dev) was.2.counts
    (add_front name was.1 (counting (contents (a.files name))) a b d was.2.counts (c.drop_second.ensures.crash t) one (c.lengthen.ensures.crash t))
    (gated was.1 _ _ one (c.in_ok-lengthen.ensures.lengthened t))
    (c.lengthen-2.ensures.crash t)

pub returns-clause-stands : goal.returns-clause-stands
returns-clause-stands g c t is_open slot holds =
    let one = alone slot c.in_ok-left.left _ _ (c.in_ok-left.ensures.len t) c.in_ok-left.ensures.short (c.in_ok-left.ensures.same t) holds.here in
    on_ok_weaker c.lengthen-2.result (whole_gated slot _ _ (gated slot _ _ one (c.in_ok-lengthen.ensures.lengthened t))) (c.lengthen-2.ensures.lengthened t)

pub lengthen-requires-2-clause-from : goal.lengthen-requires-2-clause-from
lengthen-requires-2-clause-from g c t =
    let was = c.requires.holds t in
    let one = alone was.1 c.in_ok-left.left _ _ (c.in_ok-left.ensures.len t) c.in_ok-left.ensures.short (c.in_ok-left.ensures.same t) was.2.here in
    sym (gated was.1 _ _ one (c.in_ok-lengthen.ensures.lengthened t)).size
