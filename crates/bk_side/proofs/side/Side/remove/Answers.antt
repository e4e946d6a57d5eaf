use Rattle.std.proofs.Common.{◌≡◌, sym, subst, ap, ◌∙◌, List, ℕ, Some, false}
use Rattle.bk_device.specs.Calls.{contents}
use Rattle.bk_side.specs.Names.{name_of}
use Rattle.bk_side.specs.Side.{Kept, IsSide}
use Rattle.bk_side.proofs.Sides.{others_effect, others_show, others_side, made_page, no_page}
use Rattle.bk_side.proofs.side.Side.remove.Goals as goal

pub returns-in_err-remove_durably-clause-crash : goal.returns-in_err-remove_durably-clause-crash
returns-in_err-remove_durably-clause-crash g c t =
    let at : name_of c.args.self.now.names c.args.file ≡ Some c.in-Some.name.now = sym (ap (λ (ns : List (List ℕ)). name_of ns c.args.file) (c.deref.ensures.value ∙ ap (λ (k : Kept). k.names) c.self.view_is)) ∙ c.in-Some.ensures in
    others_effect (g.D.Device.disk c.args.dev.now) (g.D.Device.disk c.remove_durably.new.dev) c.args.self.now c.args.file c.in-Some.name.now (c.requires.stands t) at (c.remove_durably.ensures.crash t)

pub returns-clause-stands : goal.returns-clause-stands
returns-clause-stands g c t =
    let at : name_of c.args.self.now.names c.args.file ≡ Some c.in-Some.name.now = sym (ap (λ (ns : List (List ℕ)). name_of ns c.args.file) (c.deref.ensures.value ∙ ap (λ (k : Kept). k.names) c.self.view_is)) ∙ c.in-Some.ensures in
    let b = g.D.Device.disk c.remove_durably.new.dev in
    let Side : Kept → Type 0 = λ k. IsSide b (record k { failed = false }) in
    subst Side (sym c.self.view_is) (others_side (g.D.Device.disk c.args.dev.now) b c.args.self.now c.args.file c.in-Some.name.now false (c.requires.stands t) at (c.remove_durably.ensures.crash t) (c.in_ok-remove_durably.ensures.durable t))

pub returns-clause-others : goal.returns-clause-others
returns-clause-others g c t p differ =
    let at : name_of c.args.self.now.names c.args.file ≡ Some c.in-Some.name.now = sym (ap (λ (ns : List (List ℕ)). name_of ns c.args.file) (c.deref.ensures.value ∙ ap (λ (k : Kept). k.names) c.self.view_is)) ∙ c.in-Some.ensures in
    others_show (g.D.Device.disk c.args.dev.now) (g.D.Device.disk c.remove_durably.new.dev) c.args.self.now c.args.file c.in-Some.name.now (c.requires.stands t) at (c.remove_durably.ensures.crash t) p differ

pub returns-clause-crash : goal.returns-clause-crash
returns-clause-crash g c t =
    let at : name_of c.args.self.now.names c.args.file ≡ Some c.in-Some.name.now = sym (ap (λ (ns : List (List ℕ)). name_of ns c.args.file) (c.deref.ensures.value ∙ ap (λ (k : Kept). k.names) c.self.view_is)) ∙ c.in-Some.ensures in
    others_effect (g.D.Device.disk c.args.dev.now) (g.D.Device.disk c.remove_durably.new.dev) c.args.self.now c.args.file c.in-Some.name.now (c.requires.stands t) at (c.remove_durably.ensures.crash t)

pub returns-clause-gone : goal.returns-clause-gone
returns-clause-gone g c t number =
    let at : name_of c.args.self.now.names c.args.file ≡ Some c.in-Some.name.now = sym (ap (λ (ns : List (List ℕ)). name_of ns c.args.file) (c.deref.ensures.value ∙ ap (λ (k : Kept). k.names) c.self.view_is)) ∙ c.in-Some.ensures in
    made_page (g.D.Device.disk c.args.dev.now) (g.D.Device.disk c.remove_durably.new.dev) c.args.self.now c.args.file c.in-Some.name.now number (c.requires.stands t) at (c.remove_durably.ensures.crash t)
    ∙ no_page (contents ((g.D.Device.disk c.remove_durably.new.dev).files c.in-Some.name.now)) number (ap contents (c.in_ok-remove_durably.ensures.removed t))
