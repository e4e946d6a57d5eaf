use Rattle.std.proofs.Common.{◌≡◌, ◌⊎◌, ◌++◌, List, ℕ, refl, sym, ap, subst, ◌∙◌}
use Rattle.std.specs.Prelude.{◌||◌}
use Rattle.bk_device.specs.Effects.{Effect}
use Rattle.bk_log.specs.contracts.log.Log.{the_view}
use Rattle.bk_segments.specs.Control.{read_control}
use Rattle.bk_log.specs.Log.{Kept, IsLog, value_of}
use Rattle.bk_segments.specs.Files.{IsOwn, LogIs}
use Rattle.bk_log.proofs.Steps.{put_crash, put_log, noted}
use Rattle.bk_log.proofs.log.Log.set_note.Goals as goal

pub returns-in_err-put-clause-crash : goal.returns-in_err-put-clause-crash
returns-in_err-put-clause-crash g c t =
    let a = g.D.Device.disk c.args.dev.now in
    let b = g.D.Device.disk c.put.new.dev in
    let is = subst (IsLog a) (sym c.self.view_is) (c.requires.stands t) in
    let W : Kept → Type 0 = λ k. Effect (IsOwn k.db) (λ image. LogIs image k.db (value_of a.files k) ⊎ LogIs image k.db (record (value_of a.files k) { note = c.args.bytes.now })) a b in
    subst W c.self.view_is (put_crash (the_view c.self.inside) c.self.inside.head c.args.bytes.now c.deref.result.now a b is refl refl refl is.inside (noted is.sound c.requires.short)
    (ap read_control c.deref.ensures.value ∙ c.spell.ensures.reads) (c.put.ensures.crash t))

pub returns-clause-stands : goal.returns-clause-stands
returns-clause-stands g c t =
    let a = g.D.Device.disk c.args.dev.now in
    let b = g.D.Device.disk c.put.new.dev in
    let is = subst (IsLog a) (sym c.self.view_is) (c.requires.stands t) in
    let note : c.add.new.out.items ≡ c.args.bytes.now = c.add.ensures.items ∙ ap (λ (x : List ℕ). x ++ c.args.bytes.now) c.clear.ensures.items in
    let W : List ℕ → Type 0 = λ note. IsLog b (record (the_view c.self.inside) { control = c.put.new.self; note = note; failed = c.self.inside.failed || c.put.new.self.failed || c.self.inside.gate.failed }) in
    subst W (sym note) (put_log (the_view c.self.inside) c.self.inside.head c.args.bytes.now c.deref.result.now a b c.put.new.self c.self.inside.end _ _ _ _ is refl refl refl is.inside (noted is.sound c.requires.short)
    c.put.ensures.name c.in_ok-put.ensures.content (ap read_control c.deref.ensures.value ∙ c.spell.ensures.reads) (c.in_ok-put.ensures.stands t) (c.put.ensures.crash t))

pub returns-clause-crash : goal.returns-clause-crash
returns-clause-crash g c t =
    let a = g.D.Device.disk c.args.dev.now in
    let b = g.D.Device.disk c.put.new.dev in
    let is = subst (IsLog a) (sym c.self.view_is) (c.requires.stands t) in
    let W : Kept → Type 0 = λ k. Effect (IsOwn k.db) (λ image. LogIs image k.db (value_of a.files k) ⊎ LogIs image k.db (record (value_of a.files k) { note = c.args.bytes.now })) a b in
    subst W c.self.view_is (put_crash (the_view c.self.inside) c.self.inside.head c.args.bytes.now c.deref.result.now a b is refl refl refl is.inside (noted is.sound c.requires.short)
    (ap read_control c.deref.ensures.value ∙ c.spell.ensures.reads) (c.put.ensures.crash t))
