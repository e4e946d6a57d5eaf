use Rattle.std.proofs.Common.{◌≡◌, ◌≤◌, ◌∙◌, ◌++◌, ℕ, List, ap, length, rules, sym, subst}
use Rattle.bk_known.specs.declared.known.Known.{Known}
use Rattle.bk_known.specs.Known.{KeepsKnown, known_bytes}
use Rattle.bk_paged.specs.Paged.{Touches}
use Rattle.bk_store.specs.Store.{Crashes, IsStore, Kept}
use Rattle.bk_store.specs.Told.{files_of, stood_of}
use Rattle.bk_store.specs.LiftLaws.{crash-lift, moved-crash, moved-stands}
use Rattle.bk_store.specs.TouchLaws.{moved-touches}
use Rattle.bk_store.proofs.Renoted.{noted-crash, noted-stands, one-note, renotes-end}
use Rattle.bk_store.proofs.store.Store.note_end.Goals as goal

pub returns-in_err-as_of-clause-crash : goal.returns-in_err-as_of-clause-crash
returns-in_err-as_of-clause-crash g c t told is =
    let disk = g.D.Device.disk in
    let a = disk c.args.dev.now in
    let s : Kept = record { paged = c.self.inside.paged; shown = c.self.inside.shown; known = c.self.inside.known; note = c.self.inside.note.items } in
    let At : Kept → Type 0 = λ k. IsStore a k told in
    let b = disk c.at_rest.new.dev in
    let Crash : Kept → Type 0 = λ k. Crashes k told a b in
    let here = subst At (sym c.self.view_is) is in
    subst Crash c.self.view_is (crash-lift s told a b here (c.at_rest.ensures.crash t (stood_of s.known told) here.paged))

pub returns-then-as_slice-gt-MOST_TABLES-clause-crash : goal.returns-then-as_slice-gt-MOST_TABLES-clause-crash
returns-then-as_slice-gt-MOST_TABLES-clause-crash g c t told is =
    let disk = g.D.Device.disk in
    let a = disk c.args.dev.now in
    let s : Kept = record { paged = c.self.inside.paged; shown = c.self.inside.shown; known = c.self.inside.known; note = c.self.inside.note.items } in
    let At : Kept → Type 0 = λ k. IsStore a k told in
    let b = disk c.at_rest.new.dev in
    let Crash : Kept → Type 0 = λ k. Crashes k told a b in
    let here = subst At (sym c.self.view_is) is in
    subst Crash c.self.view_is (crash-lift s told a b here (c.at_rest.ensures.crash t (stood_of s.known told) here.paged))

pub returns-in_err-bytes-clause-crash : goal.returns-in_err-bytes-clause-crash
returns-in_err-bytes-clause-crash g c t told is =
    let disk = g.D.Device.disk in
    let a = disk c.args.dev.now in
    let s : Kept = record { paged = c.self.inside.paged; shown = c.self.inside.shown; known = c.self.inside.known; note = c.self.inside.note.items } in
    let At : Kept → Type 0 = λ k. IsStore a k told in
    let b = disk c.at_rest.new.dev in
    let Crash : Kept → Type 0 = λ k. Crashes k told a b in
    let here = subst At (sym c.self.view_is) is in
    subst Crash c.self.view_is (crash-lift s told a b here (c.at_rest.ensures.crash t (stood_of s.known told) here.paged))

pub returns-in_err-set_note-clause-crash : goal.returns-in_err-set_note-clause-crash
returns-in_err-set_note-clause-crash g c t told is =
    let disk = g.D.Device.disk in
    let a = disk c.args.dev.now in
    let s : Kept = record { paged = c.self.inside.paged; shown = c.self.inside.shown; known = c.self.inside.known; note = c.self.inside.note.items } in
    let At : Kept → Type 0 = λ k. IsStore a k told in
    let Sealed : Kept → Type 0 = λ k. k.paged.log.stored ≡ k.paged.log.end in
    let here = moved-stands disk c.args.dev.now c.at_rest.new.dev s told c.at_rest.ensures.same (subst At (sym c.self.view_is) is) in
    let b = disk c.set_note.new.dev in
    let as_of = c.in_ok-as_of.as_of in
    let known : Known = record s.known { as_of = as_of } in
    let few : length as_of.tables ≤ 64 = search rules in
    let keeps : KeepsKnown known = record { path = c.self.invariant.0.path; storage = c.self.invariant.0.storage; tables = few } in
    let bytes_are : c.deref-2.result.now ≡ known_bytes known ++ s.note = c.deref-2.ensures.value ∙ c.in_ok-bytes.ensures.bytes ∙ ap (λ (n : List ℕ). known_bytes known ++ n) c.deref.ensures.value in
    let new = renotes-end s told as_of c.deref-2.result.now (disk c.at_rest.new.dev) here (subst Sealed (sym c.self.view_is) c.requires.sealed) c.in_ok-as_of.ensures.from (c.in_ok-as_of.ensures.says (files_of told) told.records here.shows) c.in_ok-bytes.ensures.fits keeps bytes_are in
    let Crash : Kept → Type 0 = λ k. Crashes k told a b in
    subst Crash c.self.view_is (moved-crash disk c.args.dev.now c.at_rest.new.dev s told b c.at_rest.ensures.same
    (one-note s told (disk c.at_rest.new.dev) b (noted-crash s told known told.note c.deref-2.result.now (disk c.at_rest.new.dev) b here new (c.set_note.ensures.crash t (stood_of s.known told) here.paged))))

pub returns-clause-crash : goal.returns-clause-crash
returns-clause-crash g c t told is =
    let disk = g.D.Device.disk in
    let a = disk c.args.dev.now in
    let s : Kept = record { paged = c.self.inside.paged; shown = c.self.inside.shown; known = c.self.inside.known; note = c.self.inside.note.items } in
    let At : Kept → Type 0 = λ k. IsStore a k told in
    let Sealed : Kept → Type 0 = λ k. k.paged.log.stored ≡ k.paged.log.end in
    let here = moved-stands disk c.args.dev.now c.at_rest.new.dev s told c.at_rest.ensures.same (subst At (sym c.self.view_is) is) in
    let b = disk c.set_note.new.dev in
    let as_of = c.in_ok-as_of.as_of in
    let known : Known = record s.known { as_of = as_of } in
    let few : length as_of.tables ≤ 64 = search rules in
    let keeps : KeepsKnown known = record { path = c.self.invariant.0.path; storage = c.self.invariant.0.storage; tables = few } in
    let bytes_are : c.deref-2.result.now ≡ known_bytes known ++ s.note = c.deref-2.ensures.value ∙ c.in_ok-bytes.ensures.bytes ∙ ap (λ (n : List ℕ). known_bytes known ++ n) c.deref.ensures.value in
    let new = renotes-end s told as_of c.deref-2.result.now (disk c.at_rest.new.dev) here (subst Sealed (sym c.self.view_is) c.requires.sealed) c.in_ok-as_of.ensures.from (c.in_ok-as_of.ensures.says (files_of told) told.records here.shows) c.in_ok-bytes.ensures.fits keeps bytes_are in
    let Crash : Kept → Type 0 = λ k. Crashes k told a b in
    subst Crash c.self.view_is (moved-crash disk c.args.dev.now c.at_rest.new.dev s told b c.at_rest.ensures.same
    (one-note s told (disk c.at_rest.new.dev) b (noted-crash s told known told.note c.deref-2.result.now (disk c.at_rest.new.dev) b here new (c.set_note.ensures.crash t (stood_of s.known told) here.paged))))

pub returns-clause-stands : goal.returns-clause-stands
returns-clause-stands g c t told is =
    let disk = g.D.Device.disk in
    let a = disk c.args.dev.now in
    let s : Kept = record { paged = c.self.inside.paged; shown = c.self.inside.shown; known = c.self.inside.known; note = c.self.inside.note.items } in
    let At : Kept → Type 0 = λ k. IsStore a k told in
    let Sealed : Kept → Type 0 = λ k. k.paged.log.stored ≡ k.paged.log.end in
    let here = moved-stands disk c.args.dev.now c.at_rest.new.dev s told c.at_rest.ensures.same (subst At (sym c.self.view_is) is) in
    let b = disk c.set_note.new.dev in
    let as_of = c.in_ok-as_of.as_of in
    let known : Known = record s.known { as_of = as_of } in
    let few : length as_of.tables ≤ 64 = search rules in
    let keeps : KeepsKnown known = record { path = c.self.invariant.0.path; storage = c.self.invariant.0.storage; tables = few } in
    let bytes_are : c.deref-2.result.now ≡ known_bytes known ++ s.note = c.deref-2.ensures.value ∙ c.in_ok-bytes.ensures.bytes ∙ ap (λ (n : List ℕ). known_bytes known ++ n) c.deref.ensures.value in
    let new = renotes-end s told as_of c.deref-2.result.now (disk c.at_rest.new.dev) here (subst Sealed (sym c.self.view_is) c.requires.sealed) c.in_ok-as_of.ensures.from (c.in_ok-as_of.ensures.says (files_of told) told.records here.shows) c.in_ok-bytes.ensures.fits keeps bytes_are in
    noted-stands s told known told.note s.note c.deref-2.result.now c.set_note.new.self (disk c.at_rest.new.dev) b here new (c.in_ok-set_note.ensures.stands t (stood_of s.known told) here.paged) c.in_ok-set_note.ensures.same.1 here.note

pub returns-in_err-set_note-clause-touches : goal.returns-in_err-set_note-clause-touches
returns-in_err-set_note-clause-touches g c t =
    let disk = g.D.Device.disk in
    subst (λ (k : Kept). Touches k.paged (disk c.args.dev.now) (disk c.set_note.new.dev)) c.self.view_is (moved-touches disk c.args.dev.now c.at_rest.new.dev c.self.inside.paged c.at_rest.ensures.same (c.set_note.ensures.touches t))

pub returns-clause-touches : goal.returns-clause-touches
returns-clause-touches g c t =
    let disk = g.D.Device.disk in
    subst (λ (k : Kept). Touches k.paged (disk c.args.dev.now) (disk c.set_note.new.dev)) c.self.view_is (moved-touches disk c.args.dev.now c.at_rest.new.dev c.self.inside.paged c.at_rest.ensures.same (c.set_note.ensures.touches t))
