use Rattle.std.proofs.Common.{◌≡◌, ◌++◌, ◌∙◌, ℕ, List, ap, refl, sym, subst}
use Rattle.bk_device.specs.Effects.{Effect}
use Rattle.bk_facts.specs.declared.facts.Facts.{Facts}
use Rattle.bk_facts.specs.Facts.{Notes, facts_bytes}
use Rattle.bk_segments.specs.Files.{Logged}
use Rattle.bk_paged.specs.contracts.paged.Paged.{the_view}
use Rattle.bk_paged.specs.Holds.{Leaves}
use Rattle.bk_paged.specs.Names.{IsOwn as IsOurs}
use Rattle.bk_paged.specs.Paged.{IsPaged, Kept, Standing, Touches, sealed_count}
use Rattle.bk_paged.specs.Leaving.{paged_none, room_short}
use Rattle.bk_paged.proofs.Noting.{checkpoint_crash, checkpoint_stands, spelled, spelled_now}
use Rattle.bk_paged.specs.StandLaws.{log-touches, none-touches, standing-log}
use Rattle.bk_paged.proofs.paged.Paged.note_checkpoint.Goals as goal

pub spell_note-requires-clause-few : goal.spell_note-requires-clause-few
spell_note-requires-clause-few g c = c.self.invariant.2.few

pub returns-in_err-bytes-clause-crash : goal.returns-in_err-bytes-clause-crash
returns-in_err-bytes-clause-crash g c t stood is = paged_none c.args.self.now stood (g.D.Device.disk c.args.dev.now) is

pub set_note-requires-clause-short : goal.set_note-requires-clause-short
set_note-requires-clause-short g c =
    let note : c.deref.result.now ≡ c.self.inside.note.items = c.deref.ensures.value in
    let facts : Facts = record { checkpoint = c.self.inside.since; files = c.self.inside.facts.files } in
    room_short facts c.self.inside.note.items c.deref-2.result.now c.self.invariant.2 (c.deref-2.ensures.value ∙ c.in_ok-bytes.ensures.bytes ∙ ap (λ (n : List ℕ). facts_bytes facts ++ n) note)

pub returns-in_err-set_note-clause-crash : goal.returns-in_err-set_note-clause-crash
returns-in_err-set_note-clause-crash g c t stood is =
    let a = g.D.Device.disk c.args.dev.now in
    let b = g.D.Device.disk c.set_note.new.dev in
    let facts : Facts = record { checkpoint = c.self.inside.since; files = c.self.inside.facts.files } in
    let At : Kept → Type 0 = λ k. IsPaged a k stood in
    let here = subst At (sym c.self.view_is) is in
    let spells = spelled_now _ stood a c.deref-2.result.now here (spelled facts c.deref.result.now c.self.inside.note.items _ c.deref-2.result.now c.deref.ensures.value c.deref-2.ensures.value c.in_ok-bytes.ensures.notes) in
    let Crash : Kept → Type 0 = λ k. Effect (IsOurs k.log.db stood.files) (Leaves k.log.db (sealed_count k) stood) a b in
    subst Crash c.self.view_is (checkpoint_crash _ stood c.deref-2.result.now c.self.inside.since a b here spells (c.set_note.ensures.crash t))

pub returns-clause-crash : goal.returns-clause-crash
returns-clause-crash g c t stood is =
    let a = g.D.Device.disk c.args.dev.now in
    let b = g.D.Device.disk c.set_note.new.dev in
    let facts : Facts = record { checkpoint = c.self.inside.since; files = c.self.inside.facts.files } in
    let At : Kept → Type 0 = λ k. IsPaged a k stood in
    let here = subst At (sym c.self.view_is) is in
    let spells = spelled_now _ stood a c.deref-2.result.now here (spelled facts c.deref.result.now c.self.inside.note.items _ c.deref-2.result.now c.deref.ensures.value c.deref-2.ensures.value c.in_ok-bytes.ensures.notes) in
    let Crash : Kept → Type 0 = λ k. Effect (IsOurs k.log.db stood.files) (Leaves k.log.db (sealed_count k) stood) a b in
    subst Crash c.self.view_is (checkpoint_crash _ stood c.deref-2.result.now c.self.inside.since a b here spells (c.set_note.ensures.crash t))

pub returns-clause-stands : goal.returns-clause-stands
returns-clause-stands g c t stood is =
    let a = g.D.Device.disk c.args.dev.now in
    let b = g.D.Device.disk c.set_note.new.dev in
    let facts : Facts = record { checkpoint = c.self.inside.since; files = c.self.inside.facts.files } in
    let At : Kept → Type 0 = λ k. IsPaged a k stood in
    let here = subst At (sym c.self.view_is) is in
    let spells = spelled_now _ stood a c.deref-2.result.now here (spelled facts c.deref.result.now c.self.inside.note.items _ c.deref-2.result.now c.deref.ensures.value c.deref-2.ensures.value c.in_ok-bytes.ensures.notes) in
    let same = c.in_ok-set_note.ensures.same in
    checkpoint_stands _ stood c.deref-2.result.now c.self.inside.since c.set_note.new.self _ a b here spells (c.set_note.ensures.crash t) (c.in_ok-set_note.ensures.stands t) (c.in_ok-set_note.ensures.value t) same.0 same.1 same.2 same.3

pub returns-clause-standing : goal.returns-clause-standing
returns-clause-standing g c t =
    let a = g.D.Device.disk c.args.dev.now in
    let b = g.D.Device.disk c.set_note.new.dev in
    let facts : Facts = record { checkpoint = c.self.inside.since; files = c.self.inside.facts.files } in
    let At : Kept → Type 0 = λ k. Standing a k in
    let here = subst At (sym c.self.view_is) (c.requires.standing t) in
    let spells = spelled facts c.deref.result.now c.self.inside.note.items _ c.deref-2.result.now c.deref.ensures.value c.deref-2.ensures.value c.in_ok-bytes.ensures.notes in
    let note : c.set_note.new.self.note ≡ c.deref-2.result.now = ap (λ (l : Logged). l.note) (c.in_ok-set_note.ensures.value t) in
    standing-log _ c.set_note.new.self facts c.self.inside.note.items _ {a = a} {b = b} here (c.set_note.ensures.crash t) (c.in_ok-set_note.ensures.stands t) c.in_ok-set_note.ensures.same.0 (subst (λ (n : List ℕ). Notes n facts c.self.inside.note.items) (sym note) spells) refl here.room.rest

pub returns-in_err-bytes-clause-touches : goal.returns-in_err-bytes-clause-touches
returns-in_err-bytes-clause-touches g c t =
    none-touches c.args.self.now (g.D.Device.disk c.args.dev.now)

pub returns-in_err-set_note-clause-touches : goal.returns-in_err-set_note-clause-touches
returns-in_err-set_note-clause-touches g c t =
    let a = g.D.Device.disk c.args.dev.now in
    let b = g.D.Device.disk c.set_note.new.dev in
    let To : Kept → Type 0 = λ k. Touches k a b in
    subst To c.self.view_is (log-touches (the_view c.self.inside) (c.set_note.ensures.crash t))

pub returns-clause-touches : goal.returns-clause-touches
returns-clause-touches g c t =
    let a = g.D.Device.disk c.args.dev.now in
    let b = g.D.Device.disk c.set_note.new.dev in
    let To : Kept → Type 0 = λ k. Touches k a b in
    subst To c.self.view_is (log-touches (the_view c.self.inside) (c.set_note.ensures.crash t))
