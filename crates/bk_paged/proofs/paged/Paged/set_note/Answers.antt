use Rattle.std.proofs.Common.{◌≡◌, ◌≤◌, ◌∙◌, ℕ, List, ap, length, inl, refl, rules, sym, subst}
use Rattle.bk_device.specs.Compose.{effect_weaken}
use Rattle.bk_device.specs.Effects.{Effect}
use Rattle.bk_facts.specs.Facts.{Notes}
use Rattle.bk_segments.specs.Files.{Logged}
use Rattle.bk_paged.specs.contracts.paged.Paged.{the_view}
use Rattle.bk_paged.specs.Names.{IsOwn as IsOurs}
use Rattle.bk_paged.specs.Paged.{IsPaged, Kept, Standing, Touches}
use Rattle.bk_paged.specs.Leaving.{paged_none, room_short, with_note}
use Rattle.bk_paged.proofs.Noting.{Either, note_crash, note_stands_as, spelled, spelled_new}
use Rattle.bk_paged.specs.StandLaws.{log-touches, none-touches, standing-log}
use Rattle.bk_paged.proofs.paged.Paged.set_note.Goals as goal

pub spell_note-requires-clause-few : goal.spell_note-requires-clause-few
spell_note-requires-clause-few g c = c.self.invariant.2.few

pub returns-in_err-spelled-clause-crash : goal.returns-in_err-spelled-clause-crash
returns-in_err-spelled-clause-crash g c t stood is = effect_weaken (λ image here. inl here) (paged_none c.args.self.now stood (g.D.Device.disk c.args.dev.now) is)

pub returns-in_err-self-inside-clause-crash : goal.returns-in_err-self-inside-clause-crash
returns-in_err-self-inside-clause-crash g c t stood is = effect_weaken (λ image here. inl here) (paged_none c.args.self.now stood (g.D.Device.disk c.args.dev.now) is)

pub set_note-requires-clause-short : goal.set_note-requires-clause-short
set_note-requires-clause-short g c = room_short c.self.inside.facts c.args.bytes.now c.deref.result.now (with_note c.self.invariant.2 c.requires.short) (c.deref.ensures.value ∙ c.in_ok-spelled.ensures.bytes)

pub returns-in_err-set_note-clause-crash : goal.returns-in_err-set_note-clause-crash
returns-in_err-set_note-clause-crash g c t stood is =
    let a = g.D.Device.disk c.args.dev.now in
    let b = g.D.Device.disk c.set_note.new.dev in
    let At : Kept → Type 0 = λ k. IsPaged a k stood in
    let here = subst At (sym c.self.view_is) is in
    let spells = spelled_new _ stood a c.deref.result.now c.args.bytes.now here c.requires.short (spelled c.self.inside.facts c.args.bytes.now c.args.bytes.now _ c.deref.result.now refl c.deref.ensures.value c.in_ok-spelled.ensures.notes) in
    let Crash : Kept → Type 0 = λ k. Effect (IsOurs k.log.db stood.files) (Either k stood c.args.bytes.now) a b in
    subst Crash c.self.view_is (note_crash _ stood c.deref.result.now c.self.inside.facts.checkpoint c.args.bytes.now a b here spells (c.set_note.ensures.crash t))

pub returns-clause-crash : goal.returns-clause-crash
returns-clause-crash g c t stood is =
    let a = g.D.Device.disk c.args.dev.now in
    let b = g.D.Device.disk c.set_note.new.dev in
    let At : Kept → Type 0 = λ k. IsPaged a k stood in
    let here = subst At (sym c.self.view_is) is in
    let spells = spelled_new _ stood a c.deref.result.now c.args.bytes.now here c.requires.short (spelled c.self.inside.facts c.args.bytes.now c.args.bytes.now _ c.deref.result.now refl c.deref.ensures.value c.in_ok-spelled.ensures.notes) in
    let Crash : Kept → Type 0 = λ k. Effect (IsOurs k.log.db stood.files) (Either k stood c.args.bytes.now) a b in
    subst Crash c.self.view_is (note_crash _ stood c.deref.result.now c.self.inside.facts.checkpoint c.args.bytes.now a b here spells (c.set_note.ensures.crash t))

pub returns-clause-stands : goal.returns-clause-stands
returns-clause-stands g c t stood is =
    let a = g.D.Device.disk c.args.dev.now in
    let b = g.D.Device.disk c.set_note.new.dev in
    let At : Kept → Type 0 = λ k. IsPaged a k stood in
    let here = subst At (sym c.self.view_is) is in
    let copied : c.in_ok-self-inside.field-0.items ≡ c.args.bytes.now = search rules in
    let spells = spelled_new _ stood a c.deref.result.now c.args.bytes.now here c.requires.short (spelled c.self.inside.facts c.args.bytes.now c.args.bytes.now _ c.deref.result.now refl c.deref.ensures.value c.in_ok-spelled.ensures.notes) in
    let same = c.in_ok-set_note.ensures.same in
    note_stands_as _ stood c.deref.result.now c.self.inside.facts.checkpoint c.args.bytes.now c.in_ok-self-inside.field-0.items c.set_note.new.self _ a b here spells copied (c.set_note.ensures.crash t) (c.in_ok-set_note.ensures.stands t) (c.in_ok-set_note.ensures.value t)
    same.0 same.1 same.2 same.3

pub returns-clause-standing : goal.returns-clause-standing
returns-clause-standing g c t =
    let a = g.D.Device.disk c.args.dev.now in
    let b = g.D.Device.disk c.set_note.new.dev in
    let At : Kept → Type 0 = λ k. Standing a k in
    let here = subst At (sym c.self.view_is) (c.requires.standing t) in
    let copied : c.in_ok-self-inside.field-0.items ≡ c.args.bytes.now = search rules in
    let notes = spelled c.self.inside.facts c.args.bytes.now c.args.bytes.now _ c.deref.result.now refl c.deref.ensures.value c.in_ok-spelled.ensures.notes in
    let note : c.set_note.new.self.note ≡ c.deref.result.now = ap (λ (l : Logged). l.note) (c.in_ok-set_note.ensures.value t) in
    standing-log _ c.set_note.new.self c.self.inside.facts c.in_ok-self-inside.field-0.items _ {a = a} {b = b} here (c.set_note.ensures.crash t) (c.in_ok-set_note.ensures.stands t) c.in_ok-set_note.ensures.same.0
    (subst (λ (m : List ℕ). Notes c.set_note.new.self.note c.self.inside.facts m) (sym copied) (subst (λ (n : List ℕ). Notes n c.self.inside.facts c.args.bytes.now) (sym note) notes)) refl
    (subst (λ (m : List ℕ). length m ≤ 30720) (sym copied) c.requires.short)

pub returns-in_err-spelled-clause-touches : goal.returns-in_err-spelled-clause-touches
returns-in_err-spelled-clause-touches g c t =
    none-touches c.args.self.now (g.D.Device.disk c.args.dev.now)

pub returns-in_err-self-inside-clause-touches : goal.returns-in_err-self-inside-clause-touches
returns-in_err-self-inside-clause-touches g c t =
    none-touches c.args.self.now (g.D.Device.disk c.args.dev.now)

pub returns-in_err-set_note-clause-touches : goal.returns-in_err-set_note-clause-touches
returns-in_err-set_note-clause-touches g c t =
    let a = g.D.Device.disk c.args.dev.now in
    let b = g.D.Device.disk c.set_note.new.dev in
    let To : Kept → Type 0 = λ k. Touches k a b in
    subst To c.self.view_is (log-touches (the_view c.self.inside) (c.set_note.ensures.crash t))

pub returns-clause-touches : goal.returns-clause-touches
returns-clause-touches g c t =
    let a = g.D.Device.disk c.args.dev.now in
    let b = g.D.Device.disk c.set_note.new.dev in
    let To : Kept → Type 0 = λ k. Touches k a b in
    subst To c.self.view_is (log-touches (the_view c.self.inside) (c.set_note.ensures.crash t))
