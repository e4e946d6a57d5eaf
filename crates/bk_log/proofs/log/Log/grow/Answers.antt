use Rattle.std.proofs.Common.{◌≡◌, ◌≤◌, ◌<◌, ◌^◌, ◌+◌, List, [], ◌∷◌, ◌++◌, ℕ, Some, sym, ap, subst, ◌∙◌, arith}
use Rattle.bk_device.specs.Effects.{Effect}
use Rattle.bk_log.specs.contracts.log.Log.{the_view}
use Rattle.bk_segments.specs.Control.{read_control}
use Rattle.bk_segments.specs.declared.segments.Segment.{Segment}
use Rattle.bk_log.specs.Log.{Kept, IsLog, value_of}
use Rattle.bk_segments.specs.Files.{IsAdded, IsOwn, LogIs, shown}
use Rattle.bk_log.proofs.Growing.{next, next_sound, log_again, begun_crash, begun_log, grown_crash, grown_log, grown_value}
use Rattle.bk_log.proofs.Steps.{stay_crash}
use Rattle.bk_log.proofs.log.Log.grow.Goals as goal

pub returns-in_err-reserve-clause-crash : goal.returns-in_err-reserve-clause-crash
returns-in_err-reserve-clause-crash g c t = stay_crash c.args.self.now (g.D.Device.disk c.args.dev.now) (c.requires.stands t)

pub returns-in_err-segment-clause-crash : goal.returns-in_err-segment-clause-crash
returns-in_err-segment-clause-crash g c t = stay_crash c.args.self.now (g.D.Device.disk c.args.dev.now) (c.requires.stands t)

pub returns-in-Err-clause-stays : goal.returns-in-Err-clause-stays
returns-in-Err-clause-stays g c t no_memory =
    let a = g.D.Device.disk c.args.dev.now in
    let b = g.D.Device.disk c.begin_segment.new.dev in
    let is = subst (IsLog a) (sym c.self.view_is) (c.requires.stands t) in
    log_again _ _ c.reserve.ensures.items (begun_log (the_view c.self.inside) a b is (c.begin_segment.ensures.crash t))

pub returns-in-Err-clause-crash : goal.returns-in-Err-clause-crash
returns-in-Err-clause-crash g c t =
    let a = g.D.Device.disk c.args.dev.now in
    let b = g.D.Device.disk c.begin_segment.new.dev in
    let is = subst (IsLog a) (sym c.self.view_is) (c.requires.stands t) in
    let At : Kept → Type 0 = λ k. Effect (IsOwn k.db) (λ image. LogIs image k.db (value_of a.files k)) a b in
    subst At c.self.view_is (begun_crash (the_view c.self.inside) a b is (c.begin_segment.ensures.crash t))

pub put-requires-clause-stands : goal.put-requires-clause-stands
put-requires-clause-stands g c t =
    let a = g.D.Device.disk c.args.dev.now in
    let is = subst (IsLog a) (sym c.self.view_is) (c.requires.stands t) in
    (begun_log (the_view c.self.inside) a (g.D.Device.disk c.begin_segment.new.dev) is (c.begin_segment.ensures.crash t)).controls

pub returns-in_err-put-clause-crash : goal.returns-in_err-put-clause-crash
returns-in_err-put-clause-crash g c t =
    let a = g.D.Device.disk c.args.dev.now in
    let b = g.D.Device.disk c.begin_segment.new.dev in
    let is = subst (IsLog a) (sym c.self.view_is) (c.requires.stands t) in
    let few : c.self.inside.head.back + 1 ≤ c.self.inside.head.gone + 65535 = subst (λ (k : Kept). k.head.back + 1 ≤ k.head.gone + 65535) (sym c.self.view_is) c.requires.few in
    let small : c.self.inside.head.back + 1 < 2 ^ 62 = subst (λ (k : Kept). k.head.back + 1 < 2 ^ 62) (sym c.self.view_is) c.requires.small in
    let d = g.D.Device.disk c.put.new.dev in
    let reads : read_control c.deref-2.result.now ≡ Some (next c.self.inside.head, c.self.inside.note.items) = ap read_control c.deref-2.ensures.value ∙ c.spell.ensures.reads ∙ ap (λ (note : List ℕ). Some (next c.self.inside.head, note)) c.deref.ensures.value in
    let At : Kept → Type 0 = λ k. Effect (IsOwn k.db) (λ image. LogIs image k.db (value_of a.files k)) a d in
    subst At c.self.view_is (grown_crash (the_view c.self.inside) c.deref-2.result.now a b d is (next_sound is.sound few small) reads (c.in-Ok.ensures.durable t) (c.in-Ok.ensures.sealed t) (c.begin_segment.ensures.crash t) (c.put.ensures.crash t))

pub invariant_of-self-2 : goal.invariant_of-self-2
invariant_of-self-2 g c =
    let inv = c.self.invariant in
    let few : c.self.inside.head.back + 1 ≤ c.self.inside.head.gone + 65535 = subst (λ (k : Kept). k.head.back + 1 ≤ k.head.gone + 65535) (sym c.self.view_is) c.requires.few in
    let small : c.self.inside.head.back + 1 < 2 ^ 62 = subst (λ (k : Kept). k.head.back + 1 < 2 ^ 62) (sym c.self.view_is) c.requires.small in
    ((λ fit. c.in-Ok.ensures.none), inv.1, inv.2, omega (arith, inv.3, c.spell.ensures.room), inv.4, inv.5, next_sound inv.6 few small, omega (arith, inv.7, c.push_segment.ensures.len, c.reserve.ensures.len), inv.8, (λ fit. omega (arith, c.in-Ok.ensures.room, subst (λ (k : Kept). k.spare_flushes ≤ c.args.room) (sym c.self.view_is) c.requires.room)))

pub returns-clause-stands : goal.returns-clause-stands
returns-clause-stands g c t =
    let a = g.D.Device.disk c.args.dev.now in
    let b = g.D.Device.disk c.begin_segment.new.dev in
    let is = subst (IsLog a) (sym c.self.view_is) (c.requires.stands t) in
    let few : c.self.inside.head.back + 1 ≤ c.self.inside.head.gone + 65535 = subst (λ (k : Kept). k.head.back + 1 ≤ k.head.gone + 65535) (sym c.self.view_is) c.requires.few in
    let small : c.self.inside.head.back + 1 < 2 ^ 62 = subst (λ (k : Kept). k.head.back + 1 < 2 ^ 62) (sym c.self.view_is) c.requires.small in
    let d = g.D.Device.disk c.put.new.dev in
    let reads : read_control c.deref-2.result.now ≡ Some (next c.self.inside.head, c.self.inside.note.items) = ap read_control c.deref-2.ensures.value ∙ c.spell.ensures.reads ∙ ap (λ (note : List ℕ). Some (next c.self.inside.head, note)) c.deref.ensures.value in
    let added : IsAdded c.self.inside.segments.items c.push_segment.new.segments.items c.self.inside.db (c.self.inside.head.back + 1) c.self.inside.stored =
    (c.in_ok-segment.segment, c.push_segment.ensures.items ∙ ap (λ (xs : List Segment). xs ++ c.in_ok-segment.segment ∷ []) c.reserve.ensures.items, c.in_ok-segment.ensures.name, c.in_ok-segment.ensures.first) in
    grown_log (the_view c.self.inside) c.deref-2.result.now a b d c.put.new.self c.in-Ok.gate c.push_segment.new.segments.items c.self.inside.end _ _ _ _ is added (next_sound is.sound few small) reads c.put.ensures.name c.in_ok-put.ensures.content (c.in_ok-put.ensures.stands t)
    c.in-Ok.ensures.name (c.in-Ok.ensures.stands t) (c.in-Ok.ensures.durable t) (c.in-Ok.ensures.sealed t) (c.begin_segment.ensures.crash t) (c.put.ensures.crash t)

pub returns-clause-value : goal.returns-clause-value
returns-clause-value g c t =
    let a = g.D.Device.disk c.args.dev.now in
    let b = g.D.Device.disk c.begin_segment.new.dev in
    let is = subst (IsLog a) (sym c.self.view_is) (c.requires.stands t) in
    let d = g.D.Device.disk c.put.new.dev in
    let At : Kept → Type 0 = λ k. shown d.files c.self.inside.db (next c.self.inside.head) c.self.inside.note.items ≡ value_of a.files k in
    subst At c.self.view_is (grown_value (the_view c.self.inside) a b d is (c.in-Ok.ensures.sealed t) (c.begin_segment.ensures.crash t) (c.put.ensures.crash t))

pub returns-clause-crash : goal.returns-clause-crash
returns-clause-crash g c t =
    let a = g.D.Device.disk c.args.dev.now in
    let b = g.D.Device.disk c.begin_segment.new.dev in
    let is = subst (IsLog a) (sym c.self.view_is) (c.requires.stands t) in
    let few : c.self.inside.head.back + 1 ≤ c.self.inside.head.gone + 65535 = subst (λ (k : Kept). k.head.back + 1 ≤ k.head.gone + 65535) (sym c.self.view_is) c.requires.few in
    let small : c.self.inside.head.back + 1 < 2 ^ 62 = subst (λ (k : Kept). k.head.back + 1 < 2 ^ 62) (sym c.self.view_is) c.requires.small in
    let d = g.D.Device.disk c.put.new.dev in
    let reads : read_control c.deref-2.result.now ≡ Some (next c.self.inside.head, c.self.inside.note.items) = ap read_control c.deref-2.ensures.value ∙ c.spell.ensures.reads ∙ ap (λ (note : List ℕ). Some (next c.self.inside.head, note)) c.deref.ensures.value in
    let At : Kept → Type 0 = λ k. Effect (IsOwn k.db) (λ image. LogIs image k.db (value_of a.files k)) a d in
    subst At c.self.view_is (grown_crash (the_view c.self.inside) c.deref-2.result.now a b d is (next_sound is.sound few small) reads (c.in-Ok.ensures.durable t) (c.in-Ok.ensures.sealed t) (c.begin_segment.ensures.crash t) (c.put.ensures.crash t))
