use Rattle.std.proofs.Common.{sym, subst}
use Rattle.bk_store.specs.Store.{Crashes, IsStore, Kept}
use Rattle.bk_store.specs.Told.{stood_of}
use Rattle.bk_store.specs.LiftLaws.{crash-lift}
use Rattle.bk_store.proofs.store.Store.at_rest.Goals as goal

pub returns-clause-crash : goal.returns-clause-crash
returns-clause-crash g c t told is =
    let a = g.D.Device.disk c.args.dev.now in
    let r = g.D.Device.disk c.at_rest.new.dev in
    let At : Kept → Type 0 = λ k. IsStore a k told in
    let Crash : Kept → Type 0 = λ k. Crashes k told a r in
    let here = subst At (sym c.self.view_is) is in
    subst Crash c.self.view_is (crash-lift _ told a r here (c.at_rest.ensures.crash t (stood_of c.self.inside.known told) here.paged))
