use Rattle.std.proofs.Common.{◌+◌, List, [], inl, sym, subst}
use Rattle.bk_device.specs.Compose.{effect_weaken}
use Rattle.bk_device.specs.Effects.{Effect, IsName}
use Rattle.bk_log.specs.contracts.log.Log.{the_view}
use Rattle.bk_segments.specs.declared.segments.Segment.{Segment}
use Rattle.bk_log.specs.Laws.{log_marked}
use Rattle.bk_log.specs.Log.{Kept, IsLog, value_of}
use Rattle.bk_segments.specs.Files.{IsAdded, segment_file}
use Rattle.bk_log.proofs.Growing.{begun_crash, begun_log, begun_value}
use Rattle.bk_log.proofs.Resets.{reset_crash}
use Rattle.bk_log.proofs.Steps.{none_crash}
use Rattle.bk_log.proofs.log.Log.reset.Goals as goal

pub returns-then-not-has_number-clause-crash : goal.returns-then-not-has_number-clause-crash
returns-then-not-has_number-clause-crash g c t = none_crash c.args.self.now (g.D.Device.disk c.args.dev.now) (c.requires.stands t)

pub returns-in_err-add_segment-clause-crash : goal.returns-in_err-add_segment-clause-crash
returns-in_err-add_segment-clause-crash g c t = none_crash c.args.self.now (g.D.Device.disk c.args.dev.now) (c.requires.stands t)

pub returns-in-Err-clause-stays : goal.returns-in-Err-clause-stays
returns-in-Err-clause-stays g c t no_memory =
    let a = g.D.Device.disk c.args.dev.now in
    let b = g.D.Device.disk c.begin_segment.new.dev in
    let is = subst (IsLog a) (sym c.self.view_is) (c.requires.stands t) in
    log_marked _ (begun_log (the_view c.self.inside) a b is (c.begin_segment.ensures.crash t))

pub returns-in-Err-clause-crash : goal.returns-in-Err-clause-crash
returns-in-Err-clause-crash g c t =
    let a = g.D.Device.disk c.args.dev.now in
    let b = g.D.Device.disk c.begin_segment.new.dev in
    let At : Kept → Type 0 = λ k. Effect (IsName (segment_file k.db (k.head.back + 1))) (λ _. Unit {0}) a b in
    let begun : Effect (IsName (segment_file c.args.self.now.db (c.args.self.now.head.back + 1))) (λ _. Unit {0}) a b = subst At c.self.view_is (effect_weaken (λ image here. tt) (c.begin_segment.ensures.crash t)) in
    effect_weaken (λ image here. inl here) (begun_crash c.args.self.now a b (c.requires.stands t) begun)

pub empty-requires-clause-added : goal.empty-requires-clause-added
empty-requires-clause-added g c =
    let A : List Segment → Type 0 = λ xs. IsAdded xs c.add_segment.new.segments.items c.self.inside.db (c.self.inside.head.back + 1) c.args.at in
    let W : Kept → Type 0 = λ k. IsAdded [] c.add_segment.new.segments.items k.db (k.head.back + 1) c.args.at in
    subst W c.self.view_is (subst A c.new-segments.ensures.items c.in_ok-add_segment.ensures.added)

pub empty-requires-clause-stands : goal.empty-requires-clause-stands
empty-requires-clause-stands g c t =
    let a = g.D.Device.disk c.args.dev.now in
    let b = g.D.Device.disk c.begin_segment.new.dev in
    let At : Kept → Type 0 = λ k. Effect (IsName (segment_file k.db (k.head.back + 1))) (λ _. Unit {0}) a b in
    let begun : Effect (IsName (segment_file c.args.self.now.db (c.args.self.now.head.back + 1))) (λ _. Unit {0}) a b = subst At c.self.view_is (effect_weaken (λ image here. tt) (c.begin_segment.ensures.crash t)) in
    begun_log c.args.self.now a b (c.requires.stands t) begun

pub returns-in_err-empty-clause-crash : goal.returns-in_err-empty-clause-crash
returns-in_err-empty-clause-crash g c t =
    let a = g.D.Device.disk c.args.dev.now in
    let b = g.D.Device.disk c.begin_segment.new.dev in
    let At : Kept → Type 0 = λ k. Effect (IsName (segment_file k.db (k.head.back + 1))) (λ _. Unit {0}) a b in
    let begun : Effect (IsName (segment_file c.args.self.now.db (c.args.self.now.head.back + 1))) (λ _. Unit {0}) a b = subst At c.self.view_is (effect_weaken (λ image here. tt) (c.begin_segment.ensures.crash t)) in
    let is = c.requires.stands t in
    reset_crash c.args.self.now.db c.args.at c.args.note.now (value_of a.files c.args.self.now) (value_of b.files c.args.self.now) a b (g.D.Device.disk c.empty.new.dev) (begun_value c.args.self.now a b is begun) (begun_crash c.args.self.now a b is begun) (c.empty.ensures.crash t)

pub returns-clause-crash : goal.returns-clause-crash
returns-clause-crash g c t =
    let a = g.D.Device.disk c.args.dev.now in
    let b = g.D.Device.disk c.begin_segment.new.dev in
    let At : Kept → Type 0 = λ k. Effect (IsName (segment_file k.db (k.head.back + 1))) (λ _. Unit {0}) a b in
    let begun : Effect (IsName (segment_file c.args.self.now.db (c.args.self.now.head.back + 1))) (λ _. Unit {0}) a b = subst At c.self.view_is (effect_weaken (λ image here. tt) (c.begin_segment.ensures.crash t)) in
    let is = c.requires.stands t in
    reset_crash c.args.self.now.db c.args.at c.args.note.now (value_of a.files c.args.self.now) (value_of b.files c.args.self.now) a b (g.D.Device.disk c.empty.new.dev) (begun_value c.args.self.now a b is begun) (begun_crash c.args.self.now a b is begun) (c.empty.ensures.crash t)
