use Rattle.std.proofs.lemmas.Result.{on_ok_weaker}
use Rattle.bk_control.proofs.Making.{gone_empty, one_gate, two_gates, laid_blank, lay_removed, lay_first, lay_second, lay_rest}
use Rattle.bk_control.proofs.fresh.lay.Goals as goal

pub returns-in_err-remove_durably-clause-crash : goal.returns-in_err-remove_durably-clause-crash
returns-in_err-remove_durably-clause-crash g c t = lay_removed c.args.name.now (g.D.Device.disk c.args.dev.now) (g.D.Device.disk c.remove_durably.new.dev) (c.remove_durably.ensures.crash t)

pub returns-in_err-lengthen-clause-crash : goal.returns-in_err-lengthen-clause-crash
returns-in_err-lengthen-clause-crash g c t =
    let disk = g.D.Device.disk in
    let name = c.args.name.now in
    let a = disk c.args.dev.now in
    let b = disk c.remove_durably.new.dev in
    let empty = gone_empty (b.files name) (c.in_ok-remove_durably.ensures.removed t) in
    lay_first name a b (disk c.lengthen.new.dev) (lay_removed name a b (c.remove_durably.ensures.crash t)) empty (c.lengthen.ensures.crash t)

pub returns-in_err-lengthen-2-clause-crash : goal.returns-in_err-lengthen-2-clause-crash
returns-in_err-lengthen-2-clause-crash g c t =
    let disk = g.D.Device.disk in
    let name = c.args.name.now in
    let a = disk c.args.dev.now in
    let b = disk c.remove_durably.new.dev in
    let d = disk c.lengthen.new.dev in
    let empty = gone_empty (b.files name) (c.in_ok-remove_durably.ensures.removed t) in
    lay_second name a d (disk c.lengthen-2.new.dev)
    (lay_first name a b d (lay_removed name a b (c.remove_durably.ensures.crash t)) empty (c.lengthen.ensures.crash t))
    (one_gate _ _ empty (c.in_ok-lengthen.ensures.lengthened t)) (c.lengthen-2.ensures.crash t)

pub returns-clause-crash : goal.returns-clause-crash
returns-clause-crash g c t =
    let disk = g.D.Device.disk in
    let name = c.args.name.now in
    let a = disk c.args.dev.now in
    let b = disk c.remove_durably.new.dev in
    let d = disk c.lengthen.new.dev in
    let e = disk c.lengthen-2.new.dev in
    let empty = gone_empty (b.files name) (c.in_ok-remove_durably.ensures.removed t) in
    let one = one_gate _ _ empty (c.in_ok-lengthen.ensures.lengthened t) in
    lay_rest name a e (disk c.lengthen-3.new.dev)
    (lay_second name a d e (lay_first name a b d (lay_removed name a b (c.remove_durably.ensures.crash t)) empty (c.lengthen.ensures.crash t)) one (c.lengthen-2.ensures.crash t))
    (two_gates _ _ one (c.in_ok-lengthen-2.ensures.lengthened t)) (c.lengthen-3.ensures.crash t)

pub returns-clause-blank : goal.returns-clause-blank
returns-clause-blank g c t =
    let empty = gone_empty _ (c.in_ok-remove_durably.ensures.removed t) in
    on_ok_weaker c.lengthen-3.result (laid_blank _ _ (two_gates _ _ (one_gate _ _ empty (c.in_ok-lengthen.ensures.lengthened t)) (c.in_ok-lengthen-2.ensures.lengthened t))) (c.lengthen-3.ensures.lengthened t)
