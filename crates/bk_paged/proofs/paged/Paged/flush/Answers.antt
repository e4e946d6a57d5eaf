use Rattle.std.proofs.Common.{◌≡◌, ◌∙◌, ℕ, List, ap, refl, sym, subst}
use Rattle.bk_device.specs.Effects.{Effect}
use Rattle.bk_facts.specs.Facts.{Notes}
use Rattle.bk_segments.specs.Files.{IsOwn, Logged}
use Rattle.bk_paged.specs.contracts.paged.Paged.{the_view}
use Rattle.bk_paged.specs.Paged.{IsPaged, Kept, Standing, Touches}
use Rattle.bk_paged.specs.Leaving.{Flushed, flush_crash}
use Rattle.bk_paged.proofs.Standing.{flush_stands}
use Rattle.bk_paged.specs.StandLaws.{log-touches, standing-log}
use Rattle.bk_paged.proofs.paged.Paged.flush.Goals as goal

pub returns-in_err-flush-clause-crash : goal.returns-in_err-flush-clause-crash
returns-in_err-flush-clause-crash g c t stood is =
    let a = g.D.Device.disk c.args.dev.now in
    let b = g.D.Device.disk c.flush.new.dev in
    let At : Kept → Type 0 = λ k. Effect (IsOwn k.log.db) (Flushed k.log a) a b in
    flush_crash c.args.self.now stood a b is (subst At c.self.view_is (c.flush.ensures.crash t))

pub returns-clause-crash : goal.returns-clause-crash
returns-clause-crash g c t stood is =
    let a = g.D.Device.disk c.args.dev.now in
    let b = g.D.Device.disk c.flush.new.dev in
    let At : Kept → Type 0 = λ k. Effect (IsOwn k.log.db) (Flushed k.log a) a b in
    flush_crash c.args.self.now stood a b is (subst At c.self.view_is (c.flush.ensures.crash t))

pub returns-clause-stands : goal.returns-clause-stands
returns-clause-stands g c t stood is =
    let a = g.D.Device.disk c.args.dev.now in
    let b = g.D.Device.disk c.flush.new.dev in
    let At : Kept → Type 0 = λ k. IsPaged a k stood in
    let here = subst At (sym c.self.view_is) is in
    flush_stands _ stood c.flush.new.self _ a b here (c.flush.ensures.crash t) (c.in_ok-flush.ensures.stands t) (c.in_ok-flush.ensures.value t) c.in_ok-flush.ensures.same.0 c.in_ok-flush.ensures.same.1
    c.in_ok-flush.ensures.none.0 c.in_ok-flush.ensures.none.1

pub returns-clause-standing : goal.returns-clause-standing
returns-clause-standing g c t is =
    let a = g.D.Device.disk c.args.dev.now in
    let b = g.D.Device.disk c.flush.new.dev in
    let At : Kept → Type 0 = λ k. Standing a k in
    let here = subst At (sym c.self.view_is) is in
    let note : c.flush.new.self.note ≡ c.self.inside.log.note = ap (λ (l : Logged). l.note) (c.in_ok-flush.ensures.value t) in
    standing-log _ c.flush.new.self _ _ _ {a = a} {b = b} here (c.flush.ensures.crash t) (c.in_ok-flush.ensures.stands t) c.in_ok-flush.ensures.same.0 (subst (λ (n : List ℕ). Notes n c.self.inside.facts c.self.inside.note.items) (sym note) here.noted) refl here.room.rest

pub returns-in_err-flush-clause-touches : goal.returns-in_err-flush-clause-touches
returns-in_err-flush-clause-touches g c t =
    let a = g.D.Device.disk c.args.dev.now in
    let b = g.D.Device.disk c.flush.new.dev in
    let To : Kept → Type 0 = λ k. Touches k a b in
    subst To c.self.view_is (log-touches (the_view c.self.inside) (c.flush.ensures.crash t))

pub returns-clause-touches : goal.returns-clause-touches
returns-clause-touches g c t =
    let a = g.D.Device.disk c.args.dev.now in
    let b = g.D.Device.disk c.flush.new.dev in
    let To : Kept → Type 0 = λ k. Touches k a b in
    subst To c.self.view_is (log-touches (the_view c.self.inside) (c.flush.ensures.crash t))

pub returns-in_err-flush-clause-still : goal.returns-in_err-flush-clause-still
returns-in_err-flush-clause-still g c t none = c.flush.ensures.still t (ap (λ (k : Kept). k.log.waiting) c.self.view_is ∙ none)

pub returns-clause-still : goal.returns-clause-still
returns-clause-still g c t none = c.flush.ensures.still t (ap (λ (k : Kept). k.log.waiting) c.self.view_is ∙ none)
