use Rattle.std.proofs.Common.{ap}
use Rattle.bk_device.specs.Compose.{effect_then}
use Rattle.bk_paged.specs.Paged.{Kept}
use Rattle.bk_paged.proofs.Fetching.{brought_crash, nothing_crash, read_crash}
use Rattle.bk_paged.specs.StandLaws.{nothing-touches, touches-as}
use Rattle.bk_paged.proofs.paged.Paged.bring.Goals as goal

pub returns-in_err-i-clause-crash : goal.returns-in_err-i-clause-crash
returns-in_err-i-clause-crash g c t stood is = nothing_crash c.args.self.now stood (g.D.Device.disk c.args.dev.now) (g.D.Device.disk c.frame_of.new.dev) is (c.frame_of.ensures.effect t)

pub returns-in-Some-clause-crash : goal.returns-in-Some-clause-crash
returns-in-Some-clause-crash g c t stood is = nothing_crash c.args.self.now stood (g.D.Device.disk c.args.dev.now) (g.D.Device.disk c.frame_of.new.dev) is (c.frame_of.ensures.effect t)

pub returns-in_err-write_all-clause-crash : goal.returns-in_err-write_all-clause-crash
returns-in_err-write_all-clause-crash g c t stood is =
    brought_crash c.args.self.now c.frame_of.new.self stood (g.D.Device.disk c.args.dev.now) (g.D.Device.disk c.frame_of.new.dev) (g.D.Device.disk c.write_all.new.dev) is (c.frame_of.ensures.effect t) c.frame_of.ensures.same
    (c.write_all.ensures.crash t stood (c.in_ok-i.ensures.stands t stood is))

pub returns-in_err-i-2-clause-crash : goal.returns-in_err-i-2-clause-crash
returns-in_err-i-2-clause-crash g c t stood is =
    let d = g.D.Device.disk c.write_all.new.dev in
    let found = c.in_ok-i.ensures.stands t stood is in
    let ends = c.in_ok-write_all.ensures.ends in
    let same = c.frame_of.ensures.same in
    let first = brought_crash c.args.self.now c.frame_of.new.self stood (g.D.Device.disk c.args.dev.now) (g.D.Device.disk c.frame_of.new.dev) d is (c.frame_of.ensures.effect t) same (c.write_all.ensures.crash t stood found) in
    read_crash c.args.self.now c.frame_of.new.self c.write_all.new.self stood (g.D.Device.disk c.args.dev.now) d (g.D.Device.disk c.frame_of-2.new.dev) is same ends.0 ends.2 first (c.in_ok-write_all.ensures.stands t stood found) (c.frame_of-2.ensures.effect t)

pub returns-clause-crash : goal.returns-clause-crash
returns-clause-crash g c t stood is =
    let d = g.D.Device.disk c.write_all.new.dev in
    let found = c.in_ok-i.ensures.stands t stood is in
    let ends = c.in_ok-write_all.ensures.ends in
    let same = c.frame_of.ensures.same in
    let first = brought_crash c.args.self.now c.frame_of.new.self stood (g.D.Device.disk c.args.dev.now) (g.D.Device.disk c.frame_of.new.dev) d is (c.frame_of.ensures.effect t) same (c.write_all.ensures.crash t stood found) in
    read_crash c.args.self.now c.frame_of.new.self c.write_all.new.self stood (g.D.Device.disk c.args.dev.now) d (g.D.Device.disk c.frame_of-2.new.dev) is same ends.0 ends.2 first (c.in_ok-write_all.ensures.stands t stood found) (c.frame_of-2.ensures.effect t)

pub returns-in_err-i-clause-touches : goal.returns-in_err-i-clause-touches
returns-in_err-i-clause-touches g c t =
    nothing-touches c.args.self.now (c.frame_of.ensures.effect t)

pub returns-in-Some-clause-touches : goal.returns-in-Some-clause-touches
returns-in-Some-clause-touches g c t =
    nothing-touches c.args.self.now (c.frame_of.ensures.effect t)

pub returns-in_err-write_all-clause-touches : goal.returns-in_err-write_all-clause-touches
returns-in_err-write_all-clause-touches g c t =
    effect_then (nothing-touches c.args.self.now (c.frame_of.ensures.effect t))
    (touches-as c.args.self.now c.frame_of.new.self (ap (λ (k : Kept). k.log.db) c.frame_of.ensures.same) (ap (λ (k : Kept). k.facts.files) c.frame_of.ensures.same) (c.write_all.ensures.touches t))

pub returns-in_err-i-2-clause-touches : goal.returns-in_err-i-2-clause-touches
returns-in_err-i-2-clause-touches g c t =
    effect_then (effect_then (nothing-touches c.args.self.now (c.frame_of.ensures.effect t))
    (touches-as c.args.self.now c.frame_of.new.self (ap (λ (k : Kept). k.log.db) c.frame_of.ensures.same) (ap (λ (k : Kept). k.facts.files) c.frame_of.ensures.same) (c.write_all.ensures.touches t)))
    (nothing-touches c.args.self.now (c.frame_of-2.ensures.effect t))

pub returns-clause-touches : goal.returns-clause-touches
returns-clause-touches g c t =
    effect_then (effect_then (nothing-touches c.args.self.now (c.frame_of.ensures.effect t))
    (touches-as c.args.self.now c.frame_of.new.self (ap (λ (k : Kept). k.log.db) c.frame_of.ensures.same) (ap (λ (k : Kept). k.facts.files) c.frame_of.ensures.same) (c.write_all.ensures.touches t)))
    (nothing-touches c.args.self.now (c.frame_of-2.ensures.effect t))
