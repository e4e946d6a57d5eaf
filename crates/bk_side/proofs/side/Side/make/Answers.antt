use Rattle.std.proofs.Common.{◌≡◌, sym, subst, ap, ◌∙◌, List, ℕ, Some, false}
use Rattle.bk_device.specs.Calls.{contents}
use Rattle.bk_side.specs.Names.{name_of}
use Rattle.bk_side.specs.Side.{Kept, IsSide}
use Rattle.bk_side.proofs.Sides.{others_effect, others_show, others_side, made_page, page_behind}
use Rattle.bk_side.proofs.side.Side.make.Goals as goal

pub returns-in_err-make_file-clause-crash : goal.returns-in_err-make_file-clause-crash
returns-in_err-make_file-clause-crash g c t =
    let at : name_of c.args.self.now.names c.args.file ≡ Some c.in-Some.name.now = sym (ap (λ (ns : List (List ℕ)). name_of ns c.args.file) (c.deref.ensures.value ∙ ap (λ (k : Kept). k.names) c.self.view_is)) ∙ c.in-Some.ensures in
    others_effect (g.D.Device.disk c.args.dev.now) (g.D.Device.disk c.make_file.new.dev) c.args.self.now c.args.file c.in-Some.name.now (c.requires.stands t) at (c.make_file.ensures.crash t)

pub returns-clause-stands : goal.returns-clause-stands
returns-clause-stands g c t =
    let at : name_of c.args.self.now.names c.args.file ≡ Some c.in-Some.name.now = sym (ap (λ (ns : List (List ℕ)). name_of ns c.args.file) (c.deref.ensures.value ∙ ap (λ (k : Kept). k.names) c.self.view_is)) ∙ c.in-Some.ensures in
    let b = g.D.Device.disk c.make_file.new.dev in
    let Side : Kept → Type 0 = λ k. IsSide b (record k { failed = false }) in
    subst Side (sym c.self.view_is) (others_side (g.D.Device.disk c.args.dev.now) b c.args.self.now c.args.file c.in-Some.name.now false (c.requires.stands t) at (c.make_file.ensures.crash t) (c.in_ok-make_file.ensures.durable t))

pub returns-clause-others : goal.returns-clause-others
returns-clause-others g c t p differ =
    let at : name_of c.args.self.now.names c.args.file ≡ Some c.in-Some.name.now = sym (ap (λ (ns : List (List ℕ)). name_of ns c.args.file) (c.deref.ensures.value ∙ ap (λ (k : Kept). k.names) c.self.view_is)) ∙ c.in-Some.ensures in
    others_show (g.D.Device.disk c.args.dev.now) (g.D.Device.disk c.make_file.new.dev) c.args.self.now c.args.file c.in-Some.name.now (c.requires.stands t) at (c.make_file.ensures.crash t) p differ

pub returns-clause-crash : goal.returns-clause-crash
returns-clause-crash g c t =
    let at : name_of c.args.self.now.names c.args.file ≡ Some c.in-Some.name.now = sym (ap (λ (ns : List (List ℕ)). name_of ns c.args.file) (c.deref.ensures.value ∙ ap (λ (k : Kept). k.names) c.self.view_is)) ∙ c.in-Some.ensures in
    others_effect (g.D.Device.disk c.args.dev.now) (g.D.Device.disk c.make_file.new.dev) c.args.self.now c.args.file c.in-Some.name.now (c.requires.stands t) at (c.make_file.ensures.crash t)

pub returns-clause-fresh : goal.returns-clause-fresh
returns-clause-fresh g c t number below =
    let at : name_of c.args.self.now.names c.args.file ≡ Some c.in-Some.name.now = sym (ap (λ (ns : List (List ℕ)). name_of ns c.args.file) (c.deref.ensures.value ∙ ap (λ (k : Kept). k.names) c.self.view_is)) ∙ c.in-Some.ensures in
    made_page (g.D.Device.disk c.args.dev.now) (g.D.Device.disk c.make_file.new.dev) c.args.self.now c.args.file c.in-Some.name.now number (c.requires.stands t) at (c.make_file.ensures.crash t) ∙ (c.in_ok-make_file.ensures.fresh t).fresh number below

pub returns-clause-end : goal.returns-clause-end
returns-clause-end g c t number behind =
    let at : name_of c.args.self.now.names c.args.file ≡ Some c.in-Some.name.now = sym (ap (λ (ns : List (List ℕ)). name_of ns c.args.file) (c.deref.ensures.value ∙ ap (λ (k : Kept). k.names) c.self.view_is)) ∙ c.in-Some.ensures in
    made_page (g.D.Device.disk c.args.dev.now) (g.D.Device.disk c.make_file.new.dev) c.args.self.now c.args.file c.in-Some.name.now number (c.requires.stands t) at (c.make_file.ensures.crash t)
    ∙ page_behind (contents ((g.D.Device.disk c.make_file.new.dev).files c.in-Some.name.now)) c.args.pages number (c.in_ok-make_file.ensures.fresh t).size behind
