use Rattle.std.proofs.Common.{◌≤◌, arith, map, rules, sym, subst}
use Rattle.std.specs.List.{AllByRecursion}
use Rattle.bk_paged.specs.Paged.{Touches}
use Rattle.bk_paths.specs.Paths.{KeepsOpen}
use Rattle.bk_shown.specs.declared.shown.Written.{Written}
use Rattle.bk_undo.specs.Spelled.{spelled}
use Rattle.bk_store.specs.Store.{Crashes, IsStore, Kept}
use Rattle.bk_store.specs.Told.{stood_of}
use Rattle.bk_store.specs.CutLaws.{keeps-open}
use Rattle.bk_store.specs.LiftLaws.{crash-lift, moved-crash, moved-stands, paged-stands}
use Rattle.bk_store.specs.TouchLaws.{moved-touches}
use Rattle.bk_store.proofs.store.Store.cut.Goals as goal

pub returns-then-not-may_cut-clause-crash : goal.returns-then-not-may_cut-clause-crash
returns-then-not-may_cut-clause-crash g c t told is =
    let disk = g.D.Device.disk in
    let a = disk c.args.dev.now in
    let s : Kept = record { paged = c.self.inside.paged; shown = c.self.inside.shown; known = c.self.inside.known; note = c.self.inside.note.items } in
    let At : Kept → Type 0 = λ k. IsStore a k told in
    let b = disk c.at_rest.new.dev in
    let Crash : Kept → Type 0 = λ k. Crashes k told a b in
    let here = subst At (sym c.self.view_is) is in
    subst Crash c.self.view_is (crash-lift s told a b here (c.at_rest.ensures.crash t (stood_of s.known told) here.paged))

pub returns-in_err-truncate-clause-crash : goal.returns-in_err-truncate-clause-crash
returns-in_err-truncate-clause-crash g c t told is =
    let disk = g.D.Device.disk in
    let a = disk c.args.dev.now in
    let s : Kept = record { paged = c.self.inside.paged; shown = c.self.inside.shown; known = c.self.inside.known; note = c.self.inside.note.items } in
    let At : Kept → Type 0 = λ k. IsStore a k told in
    let here = moved-stands disk c.args.dev.now c.at_rest.new.dev s told c.at_rest.ensures.same (subst At (sym c.self.view_is) is) in
    let all : AllByRecursion (λ (w : Written). c.args.to ≤ w.begin) c.self.inside.shown.written.items = search rules in
    let opened : KeepsOpen c.args.to (map spelled told.records) = keeps-open c.settling_law.ensures.opened s told c.args.to (disk c.at_rest.new.dev) here all in
    let early : c.args.to ≤ c.self.inside.known.as_of.from = search rules in
    let b = disk c.truncate.new.dev in
    let Crash : Kept → Type 0 = λ k. Crashes k told a b in
    subst Crash c.self.view_is (moved-crash disk c.args.dev.now c.at_rest.new.dev s told b c.at_rest.ensures.same
    (crash-lift s told (disk c.at_rest.new.dev) b here (c.truncate.ensures.crash t (stood_of s.known told) here.paged opened early)))

pub returns-clause-crash : goal.returns-clause-crash
returns-clause-crash g c t told is =
    let disk = g.D.Device.disk in
    let a = disk c.args.dev.now in
    let s : Kept = record { paged = c.self.inside.paged; shown = c.self.inside.shown; known = c.self.inside.known; note = c.self.inside.note.items } in
    let At : Kept → Type 0 = λ k. IsStore a k told in
    let here = moved-stands disk c.args.dev.now c.at_rest.new.dev s told c.at_rest.ensures.same (subst At (sym c.self.view_is) is) in
    let all : AllByRecursion (λ (w : Written). c.args.to ≤ w.begin) c.self.inside.shown.written.items = search rules in
    let opened : KeepsOpen c.args.to (map spelled told.records) = keeps-open c.settling_law.ensures.opened s told c.args.to (disk c.at_rest.new.dev) here all in
    let early : c.args.to ≤ c.self.inside.known.as_of.from = search rules in
    let b = disk c.truncate.new.dev in
    let Crash : Kept → Type 0 = λ k. Crashes k told a b in
    subst Crash c.self.view_is (moved-crash disk c.args.dev.now c.at_rest.new.dev s told b c.at_rest.ensures.same
    (crash-lift s told (disk c.at_rest.new.dev) b here (c.truncate.ensures.crash t (stood_of s.known told) here.paged opened early)))

pub returns-clause-stands : goal.returns-clause-stands
returns-clause-stands g c t told is =
    let disk = g.D.Device.disk in
    let a = disk c.args.dev.now in
    let s : Kept = record { paged = c.self.inside.paged; shown = c.self.inside.shown; known = c.self.inside.known; note = c.self.inside.note.items } in
    let At : Kept → Type 0 = λ k. IsStore a k told in
    let here = moved-stands disk c.args.dev.now c.at_rest.new.dev s told c.at_rest.ensures.same (subst At (sym c.self.view_is) is) in
    let all : AllByRecursion (λ (w : Written). c.args.to ≤ w.begin) c.self.inside.shown.written.items = search rules in
    let opened : KeepsOpen c.args.to (map spelled told.records) = keeps-open c.settling_law.ensures.opened s told c.args.to (disk c.at_rest.new.dev) here all in
    let early : c.args.to ≤ c.self.inside.known.as_of.from = search rules in
    paged-stands s told c.truncate.new.self (disk c.at_rest.new.dev) (disk c.truncate.new.dev) here (c.in_ok-truncate.ensures.stands t (stood_of s.known told) here.paged opened early) (omega (arith, c.in_ok-truncate.ensures.ends.1))

pub returns-in_err-truncate-clause-touches : goal.returns-in_err-truncate-clause-touches
returns-in_err-truncate-clause-touches g c t =
    let disk = g.D.Device.disk in
    subst (λ (k : Kept). Touches k.paged (disk c.args.dev.now) (disk c.truncate.new.dev)) c.self.view_is (moved-touches disk c.args.dev.now c.at_rest.new.dev c.self.inside.paged c.at_rest.ensures.same (c.truncate.ensures.touches t))

pub returns-clause-touches : goal.returns-clause-touches
returns-clause-touches g c t =
    let disk = g.D.Device.disk in
    subst (λ (k : Kept). Touches k.paged (disk c.args.dev.now) (disk c.truncate.new.dev)) c.self.view_is (moved-touches disk c.args.dev.now c.at_rest.new.dev c.self.inside.paged c.at_rest.ensures.same (c.truncate.ensures.touches t))
