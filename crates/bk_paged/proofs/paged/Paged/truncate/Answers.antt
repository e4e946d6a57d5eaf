use Rattle.std.proofs.Common.{◌≡◌, ◌≤◌, ℕ, List, ap, refl, sym, subst}
use Rattle.bk_device.specs.Effects.{Effect}
use Rattle.bk_facts.specs.Facts.{Notes}
use Rattle.bk_segments.specs.Files.{IsOwn, Logged}
use Rattle.bk_paged.specs.contracts.paged.Paged.{the_view}
use Rattle.bk_paged.specs.Paged.{IsPaged, Kept, Standing, Touches}
use Rattle.bk_paged.proofs.Noting.{Cut, cut_crash, cut_stands}
use Rattle.bk_paged.specs.StandLaws.{log-touches, standing-log}
use Rattle.bk_paged.proofs.paged.Paged.truncate.Goals as goal

pub returns-in_err-truncate-clause-crash : goal.returns-in_err-truncate-clause-crash
returns-in_err-truncate-clause-crash g c t stood is opened need =
    let a = g.D.Device.disk c.args.dev.now in
    let b = g.D.Device.disk c.truncate.new.dev in
    let At : Kept → Type 0 = λ k. Effect (IsOwn k.log.db) (Cut k.log c.args.to a) a b in
    cut_crash c.args.self.now stood c.args.to a b is c.requires.sealed c.requires.from c.requires.early opened need (subst At c.self.view_is (c.truncate.ensures.crash t))

pub returns-clause-crash : goal.returns-clause-crash
returns-clause-crash g c t stood is opened need =
    let a = g.D.Device.disk c.args.dev.now in
    let b = g.D.Device.disk c.truncate.new.dev in
    let At : Kept → Type 0 = λ k. Effect (IsOwn k.log.db) (Cut k.log c.args.to a) a b in
    cut_crash c.args.self.now stood c.args.to a b is c.requires.sealed c.requires.from c.requires.early opened need (subst At c.self.view_is (c.truncate.ensures.crash t))

pub returns-clause-stands : goal.returns-clause-stands
returns-clause-stands g c t stood is opened need =
    let a = g.D.Device.disk c.args.dev.now in
    let b = g.D.Device.disk c.truncate.new.dev in
    let At : Kept → Type 0 = λ k. IsPaged a k stood in
    let Sealed : Kept → Type 0 = λ k. k.log.stored ≡ k.log.end in
    let From : Kept → Type 0 = λ k. k.log.head.kept ≤ c.args.to in
    let Early : Kept → Type 0 = λ k. c.args.to ≤ k.facts.checkpoint in
    let same = c.in_ok-truncate.ensures.same in
    cut_stands _ stood c.args.to c.truncate.new.self _ a b (subst At (sym c.self.view_is) is) (subst Sealed (sym c.self.view_is) c.requires.sealed) (subst From (sym c.self.view_is) c.requires.from)
    (subst Early (sym c.self.view_is) c.requires.early) opened need (c.truncate.ensures.crash t) (c.in_ok-truncate.ensures.stands t) (c.in_ok-truncate.ensures.value t) same.0 same.1 same.2 same.3

pub returns-clause-standing : goal.returns-clause-standing
returns-clause-standing g c t =
    let a = g.D.Device.disk c.args.dev.now in
    let b = g.D.Device.disk c.truncate.new.dev in
    let At : Kept → Type 0 = λ k. Standing a k in
    let here = subst At (sym c.self.view_is) (c.requires.standing t) in
    let note : c.truncate.new.self.note ≡ c.self.inside.log.note = ap (λ (l : Logged). l.note) (c.in_ok-truncate.ensures.value t) in
    standing-log _ c.truncate.new.self _ _ _ {a = a} {b = b} here (c.truncate.ensures.crash t) (c.in_ok-truncate.ensures.stands t) c.in_ok-truncate.ensures.same.0 (subst (λ (n : List ℕ). Notes n c.self.inside.facts c.self.inside.note.items) (sym note) here.noted) refl here.room.rest

pub returns-in_err-truncate-clause-touches : goal.returns-in_err-truncate-clause-touches
returns-in_err-truncate-clause-touches g c t =
    let a = g.D.Device.disk c.args.dev.now in
    let b = g.D.Device.disk c.truncate.new.dev in
    let To : Kept → Type 0 = λ k. Touches k a b in
    subst To c.self.view_is (log-touches (the_view c.self.inside) (c.truncate.ensures.crash t))

pub returns-clause-touches : goal.returns-clause-touches
returns-clause-touches g c t =
    let a = g.D.Device.disk c.args.dev.now in
    let b = g.D.Device.disk c.truncate.new.dev in
    let To : Kept → Type 0 = λ k. Touches k a b in
    subst To c.self.view_is (log-touches (the_view c.self.inside) (c.truncate.ensures.crash t))
