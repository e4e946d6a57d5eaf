use Rattle.std.proofs.Common.{◌≡◌, ◌∙◌, ◌++◌, inl, rules, sym, subst}
use Rattle.bk_device.specs.Compose.{effect_weaken}
use Rattle.bk_known.specs.Known.{known_bytes}
use Rattle.bk_paged.specs.Paged.{Touches}
use Rattle.bk_store.specs.Store.{IsStore, Kept, NotesOr}
use Rattle.bk_store.specs.Told.{stood_of}
use Rattle.bk_store.specs.LiftLaws.{crash-lift, moved-noting, moved-stands}
use Rattle.bk_store.specs.TouchLaws.{moved-touches}
use Rattle.bk_store.proofs.Renoted.{noted-crash, noted-stands, renotes}
use Rattle.bk_store.proofs.store.Store.set_note.Goals as goal

pub returns-in_err-bytes-clause-crash : goal.returns-in_err-bytes-clause-crash
returns-in_err-bytes-clause-crash g c t told is =
    let disk = g.D.Device.disk in
    let a = disk c.args.dev.now in
    let s : Kept = record { paged = c.self.inside.paged; shown = c.self.inside.shown; known = c.self.inside.known; note = c.self.inside.note.items } in
    let At : Kept → Type 0 = λ k. IsStore a k told in
    let b = disk c.at_rest.new.dev in
    let Crash : Kept → Type 0 = λ k. NotesOr k told c.args.note.now a b in
    let here = subst At (sym c.self.view_is) is in
    subst Crash c.self.view_is (effect_weaken (λ image old. inl old) (crash-lift s told a b here (c.at_rest.ensures.crash t (stood_of s.known told) here.paged)))

pub returns-in_err-copy-clause-crash : goal.returns-in_err-copy-clause-crash
returns-in_err-copy-clause-crash g c t told is =
    let disk = g.D.Device.disk in
    let a = disk c.args.dev.now in
    let s : Kept = record { paged = c.self.inside.paged; shown = c.self.inside.shown; known = c.self.inside.known; note = c.self.inside.note.items } in
    let At : Kept → Type 0 = λ k. IsStore a k told in
    let b = disk c.at_rest.new.dev in
    let Crash : Kept → Type 0 = λ k. NotesOr k told c.args.note.now a b in
    let here = subst At (sym c.self.view_is) is in
    subst Crash c.self.view_is (effect_weaken (λ image old. inl old) (crash-lift s told a b here (c.at_rest.ensures.crash t (stood_of s.known told) here.paged)))

pub returns-in_err-set_note-clause-crash : goal.returns-in_err-set_note-clause-crash
returns-in_err-set_note-clause-crash g c t told is =
    let disk = g.D.Device.disk in
    let a = disk c.args.dev.now in
    let s : Kept = record { paged = c.self.inside.paged; shown = c.self.inside.shown; known = c.self.inside.known; note = c.self.inside.note.items } in
    let At : Kept → Type 0 = λ k. IsStore a k told in
    let here = moved-stands disk c.args.dev.now c.at_rest.new.dev s told c.at_rest.ensures.same (subst At (sym c.self.view_is) is) in
    let b = disk c.set_note.new.dev in
    let bytes_are : c.deref.result.now ≡ known_bytes s.known ++ c.args.note.now = c.deref.ensures.value ∙ c.in_ok-bytes.ensures.bytes in
    let new = renotes s told c.args.note.now c.deref.result.now (disk c.at_rest.new.dev) here c.requires.short bytes_are in
    let Crash : Kept → Type 0 = λ k. NotesOr k told c.args.note.now a b in
    subst Crash c.self.view_is (moved-noting disk c.args.dev.now c.at_rest.new.dev s told c.args.note.now b c.at_rest.ensures.same
    (noted-crash s told s.known c.args.note.now c.deref.result.now (disk c.at_rest.new.dev) b here new (c.set_note.ensures.crash t (stood_of s.known told) here.paged)))

pub returns-clause-crash : goal.returns-clause-crash
returns-clause-crash g c t told is =
    let disk = g.D.Device.disk in
    let a = disk c.args.dev.now in
    let s : Kept = record { paged = c.self.inside.paged; shown = c.self.inside.shown; known = c.self.inside.known; note = c.self.inside.note.items } in
    let At : Kept → Type 0 = λ k. IsStore a k told in
    let here = moved-stands disk c.args.dev.now c.at_rest.new.dev s told c.at_rest.ensures.same (subst At (sym c.self.view_is) is) in
    let b = disk c.set_note.new.dev in
    let bytes_are : c.deref.result.now ≡ known_bytes s.known ++ c.args.note.now = c.deref.ensures.value ∙ c.in_ok-bytes.ensures.bytes in
    let new = renotes s told c.args.note.now c.deref.result.now (disk c.at_rest.new.dev) here c.requires.short bytes_are in
    let Crash : Kept → Type 0 = λ k. NotesOr k told c.args.note.now a b in
    subst Crash c.self.view_is (moved-noting disk c.args.dev.now c.at_rest.new.dev s told c.args.note.now b c.at_rest.ensures.same
    (noted-crash s told s.known c.args.note.now c.deref.result.now (disk c.at_rest.new.dev) b here new (c.set_note.ensures.crash t (stood_of s.known told) here.paged)))

pub returns-clause-stands : goal.returns-clause-stands
returns-clause-stands g c t told is =
    let disk = g.D.Device.disk in
    let a = disk c.args.dev.now in
    let s : Kept = record { paged = c.self.inside.paged; shown = c.self.inside.shown; known = c.self.inside.known; note = c.self.inside.note.items } in
    let At : Kept → Type 0 = λ k. IsStore a k told in
    let here = moved-stands disk c.args.dev.now c.at_rest.new.dev s told c.at_rest.ensures.same (subst At (sym c.self.view_is) is) in
    let b = disk c.set_note.new.dev in
    let bytes_are : c.deref.result.now ≡ known_bytes s.known ++ c.args.note.now = c.deref.ensures.value ∙ c.in_ok-bytes.ensures.bytes in
    let new = renotes s told c.args.note.now c.deref.result.now (disk c.at_rest.new.dev) here c.requires.short bytes_are in
    let copied : c.in_ok-copy.copy.items ≡ c.args.note.now = search rules in
    noted-stands s told s.known c.args.note.now c.in_ok-copy.copy.items c.deref.result.now c.set_note.new.self (disk c.at_rest.new.dev) b here new (c.in_ok-set_note.ensures.stands t (stood_of s.known told) here.paged) c.in_ok-set_note.ensures.same.1 copied

pub returns-in_err-set_note-clause-touches : goal.returns-in_err-set_note-clause-touches
returns-in_err-set_note-clause-touches g c t =
    let disk = g.D.Device.disk in
    subst (λ (k : Kept). Touches k.paged (disk c.args.dev.now) (disk c.set_note.new.dev)) c.self.view_is (moved-touches disk c.args.dev.now c.at_rest.new.dev c.self.inside.paged c.at_rest.ensures.same (c.set_note.ensures.touches t))

pub returns-clause-touches : goal.returns-clause-touches
returns-clause-touches g c t =
    let disk = g.D.Device.disk in
    subst (λ (k : Kept). Touches k.paged (disk c.args.dev.now) (disk c.set_note.new.dev)) c.self.view_is (moved-touches disk c.args.dev.now c.at_rest.new.dev c.self.inside.paged c.at_rest.ensures.same (c.set_note.ensures.touches t))
