use Rattle.std.proofs.Common.{◌≡◌, [], ◌∙◌, ap, inl}
use Rattle.bk_device.specs.Compose.{effect_weaken}
use Rattle.bk_segments.specs.Records.{records_in}
use Rattle.bk_log.specs.Log.{Kept, value_of}
use Rattle.bk_log.proofs.Growing.{flush_crash}
use Rattle.bk_log.proofs.Steps.{none_crash, none_waits}
use Rattle.bk_log.proofs.log.Log.flush.Goals as goal

pub returns-then-self-clause-crash : goal.returns-then-self-clause-crash
returns-then-self-clause-crash g c t = none_crash c.args.self.now (g.D.Device.disk c.args.dev.now) (c.requires.stands t)

pub returns-in_err-make_room-clause-crash : goal.returns-in_err-make_room-clause-crash
returns-in_err-make_room-clause-crash g c t = effect_weaken (λ image here. inl here) (c.make_room.ensures.crash t)

pub returns-in_err-seal-clause-crash : goal.returns-in_err-seal-clause-crash
returns-in_err-seal-clause-crash g c t =
    let a = g.D.Device.disk c.args.dev.now in
    let b = g.D.Device.disk c.make_room.new.dev in
    let same = c.in_ok-make_room.ensures.same in
    flush_crash c.args.self.now.db c.make_room.new.self.db (value_of a.files c.args.self.now) (value_of b.files c.make_room.new.self) c.args.self.now.waiting c.make_room.new.self.waiting a b (g.D.Device.disk c.seal.new.dev)
    same.db (c.in_ok-make_room.ensures.value t) same.waiting (c.make_room.ensures.crash t) (c.seal.ensures.crash t)

pub returns-clause-crash : goal.returns-clause-crash
returns-clause-crash g c t =
    let a = g.D.Device.disk c.args.dev.now in
    let b = g.D.Device.disk c.make_room.new.dev in
    let same = c.in_ok-make_room.ensures.same in
    flush_crash c.args.self.now.db c.make_room.new.self.db (value_of a.files c.args.self.now) (value_of b.files c.make_room.new.self) c.args.self.now.waiting c.make_room.new.self.waiting a b (g.D.Device.disk c.seal.new.dev)
    same.db (c.in_ok-make_room.ensures.value t) same.waiting (c.make_room.ensures.crash t) (c.seal.ensures.crash t)

pub returns-in_err-make_room-clause-still : goal.returns-in_err-make_room-clause-still
returns-in_err-make_room-clause-still g c t none =
    let waits : records_in c.self.inside.waiting.items ≡ [] = ap (λ (k : Kept). k.waiting) c.self.view_is ∙ none in
    absurd (c.if-self.false (none_waits c.self.inside.stored c.self.inside.end c.self.inside.waiting.items c.self.invariant.4 waits))

pub returns-in_err-seal-clause-still : goal.returns-in_err-seal-clause-still
returns-in_err-seal-clause-still g c t none =
    let waits : records_in c.self.inside.waiting.items ≡ [] = ap (λ (k : Kept). k.waiting) c.self.view_is ∙ none in
    absurd (c.if-self.false (none_waits c.self.inside.stored c.self.inside.end c.self.inside.waiting.items c.self.invariant.4 waits))

pub returns-clause-still : goal.returns-clause-still
returns-clause-still g c t none =
    let waits : records_in c.self.inside.waiting.items ≡ [] = ap (λ (k : Kept). k.waiting) c.self.view_is ∙ none in
    absurd (c.if-self.false (none_waits c.self.inside.stored c.self.inside.end c.self.inside.waiting.items c.self.invariant.4 waits))
