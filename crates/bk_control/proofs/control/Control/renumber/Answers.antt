use Rattle.std.proofs.Common.{◌≡◌, ap, subst, sym, ◌∙◌, inr, Some}
use Rattle.bk_device.specs.Effects.{Effect, IsName}
use Rattle.bk_control.specs.Slots.{control_of}
use Rattle.bk_device.specs.Compose.{effect_then}
use Rattle.bk_control.specs.Control.{Kept, IsReady}
use Rattle.bk_control.proofs.Puts.{stands_before, same_crash, drop_crash, drop_done}
use Rattle.bk_control.proofs.control.Control.renumber.Goals as goal

pub rewrite-requires-clause-stands : goal.rewrite-requires-clause-stands
rewrite-requires-clause-stands g c t =
    let a = g.D.Device.disk c.args.dev.now in
    let is = subst (IsReady a) (sym c.self.view_is) (c.requires.stands t) in
    (_, stands_before c.other-side.result _ c.deref.result.now a is c.other-side.ensures c.deref.ensures, inr (sym c.deref-2.ensures.value))

pub returns-in_err-rewrite-clause-crash : goal.returns-in_err-rewrite-clause-crash
returns-in_err-rewrite-clause-crash g c t =
    same_crash c.args.self.now c.deref.result.now _ (g.D.Device.disk c.args.dev.now) (g.D.Device.disk c.rewrite.new.dev) (c.requires.stands t)
    (c.deref.ensures ∙ ap (λ (k : Kept). k.name) c.self.view_is)
    (c.deref-2.ensures.value ∙ ap (λ (k : Kept). k.content) c.self.view_is)
    (c.rewrite.ensures.crash t)

pub returns-in_err-write_durably-clause-crash : goal.returns-in_err-write_durably-clause-crash
returns-in_err-write_durably-clause-crash g c t =
    let disk = g.D.Device.disk in
    let a = disk c.args.dev.now in
    let b = disk c.rewrite.new.dev in
    let is = subst (IsReady a) (sym c.self.view_is) (c.requires.stands t) in
    let named = ap (λ (k : Kept). k.name) c.self.view_is in
    let same = c.deref-2.ensures.value in
    let whole = ap (λ (k : Kept). k.content) c.self.view_is in
    let first = same_crash c.args.self.now c.deref.result.now _ a b (c.requires.stands t) (c.deref.ensures ∙ named) (same ∙ whole) (c.rewrite.ensures.crash t) in
    let second = drop_crash c.other-side.result _ c.deref.result.now c.deref-3.result.now _ c.place.result a b (disk c.write_durably.new.dev) is c.other-side.ensures c.deref.ensures c.deref-3.ensures same c.place.ensures (c.in_ok-rewrite.ensures.rewritten t) (c.write_durably.ensures.crash t) in
    let By : Kept → Type 0 = λ k. Effect (IsName k.name) (λ image. control_of (image k.name) ≡ Some k.content) b (disk c.write_durably.new.dev) in
    effect_then first (subst By c.self.view_is second)

pub returns-clause-crash : goal.returns-clause-crash
returns-clause-crash g c t =
    let disk = g.D.Device.disk in
    let a = disk c.args.dev.now in
    let b = disk c.rewrite.new.dev in
    let is = subst (IsReady a) (sym c.self.view_is) (c.requires.stands t) in
    let named = ap (λ (k : Kept). k.name) c.self.view_is in
    let same = c.deref-2.ensures.value in
    let whole = ap (λ (k : Kept). k.content) c.self.view_is in
    let first = same_crash c.args.self.now c.deref.result.now _ a b (c.requires.stands t) (c.deref.ensures ∙ named) (same ∙ whole) (c.rewrite.ensures.crash t) in
    let second = drop_crash c.other-side.result _ c.deref.result.now c.deref-3.result.now _ c.place.result a b (disk c.write_durably.new.dev) is c.other-side.ensures c.deref.ensures c.deref-3.ensures same c.place.ensures (c.in_ok-rewrite.ensures.rewritten t) (c.write_durably.ensures.crash t) in
    let By : Kept → Type 0 = λ k. Effect (IsName k.name) (λ image. control_of (image k.name) ≡ Some k.content) b (disk c.write_durably.new.dev) in
    effect_then first (subst By c.self.view_is second)

pub returns-clause-stands : goal.returns-clause-stands
returns-clause-stands g c t =
    let disk = g.D.Device.disk in
    let a = disk c.args.dev.now in
    let b = disk c.rewrite.new.dev in
    let is = subst (IsReady a) (sym c.self.view_is) (c.requires.stands t) in
    let same = c.deref-2.ensures.value in
    drop_done c.other-side.result _ c.deref.result.now c.deref-3.result.now _ _ c.place.result a b (disk c.write_durably.new.dev) is c.other-side.ensures c.deref.ensures c.deref-3.ensures (sym same) c.place.ensures (c.in_ok-rewrite.ensures.rewritten t) (c.in_ok-write_durably.ensures.written t) (c.in_ok-write_durably.ensures.durable t)
