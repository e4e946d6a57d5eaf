use Rattle.std.proofs.Common.{◌<◌, ◌^◌, ◌+◌, ℕ, List, length, sym, ap, subst, ◌∙◌}
use Rattle.bk_device.specs.Effects.{Effect, IsName}
use Rattle.bk_segments.specs.Control.{read_control}
use Rattle.bk_segments.specs.Files.{AreSettled, LogIs}
use Rattle.bk_filling.specs.contracts.records.Records.{the_view}
use Rattle.bk_filling.specs.Records.{HasRecords, IsBegun, Kept}
use Rattle.bk_filling.proofs.Blobs.{control_log, control_settled}
use Rattle.bk_filling.proofs.records.Records.finish.Goals as goal

pub returns-clause-log : goal.returns-clause-log
returns-clause-log g c t records has room =
    let a = g.D.Device.disk c.args.dev.now in
    let b = g.D.Device.disk c.put_control.new.dev in
    let is = subst (IsBegun a) (sym c.self.view_is) (c.requires.stands t) in
    let named = c.deref.ensures ∙ c.in_ok-name.ensures in
    let At : List ℕ → Type 0 = λ n. Effect (IsName n) (λ _. Unit {0}) a b in
    let content = c.in_ok-put_control.ensures.content ∙ c.deref-2.ensures.value in
    let W : Kept → Type 0 = λ k. LogIs b.files k.db (record { kept = k.kept; records = records; note = c.args.note.now }) in
    subst W c.self.view_is
    (control_log (the_view c.self.inside) c.in_ok-put_control.field-0 c.args.note.now records a b c.self.invariant.1 c.self.invariant.2 c.requires.short is (subst (λ (k : Kept). HasRecords a.files k records) (sym c.self.view_is) has)
    (subst (λ (k : Kept). k.kept + length records < 2 ^ 64) (sym c.self.view_is) room) (subst At named (c.put_control.ensures.crash t)) (c.in_ok-put_control.ensures.stands t) (c.in_ok-put_control.ensures.name ∙ named) (ap read_control content ∙ c.spell.ensures.reads))

pub returns-clause-settled : goal.returns-clause-settled
returns-clause-settled g c t =
    let a = g.D.Device.disk c.args.dev.now in
    let b = g.D.Device.disk c.put_control.new.dev in
    let is = subst (IsBegun a) (sym c.self.view_is) (c.requires.stands t) in
    let named = c.deref.ensures ∙ c.in_ok-name.ensures in
    let At : List ℕ → Type 0 = λ n. Effect (IsName n) (λ _. Unit {0}) a b in
    let content = c.in_ok-put_control.ensures.content ∙ c.deref-2.ensures.value in
    let W : Kept → Type 0 = λ k. AreSettled k.db b in
    subst W c.self.view_is
    (control_settled (the_view c.self.inside) c.in_ok-put_control.field-0 c.args.note.now a b c.self.invariant.1 c.self.invariant.2 c.requires.short is (subst At named (c.put_control.ensures.crash t)) (c.in_ok-put_control.ensures.stands t)
    (c.in_ok-put_control.ensures.name ∙ named) (ap read_control content ∙ c.spell.ensures.reads))
