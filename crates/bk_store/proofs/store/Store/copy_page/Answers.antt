use Rattle.std.proofs.Common.{◌≤◌, sym, subst}
use Rattle.bk_paged.specs.Paged.{Touches}
use Rattle.bk_store.specs.Store.{Crashes, IsStore, Kept}
use Rattle.bk_store.specs.Told.{stood_of}
use Rattle.bk_store.specs.LiftLaws.{crash-lift, paged-stands}
use Rattle.bk_store.proofs.store.Store.copy_page.Goals as goal

pub returns-in_err-bytes-clause-crash : goal.returns-in_err-bytes-clause-crash
returns-in_err-bytes-clause-crash g c t told is =
    let a = g.D.Device.disk c.args.dev.now in
    let b = g.D.Device.disk c.copy_page.new.dev in
    let At : Kept → Type 0 = λ k. IsStore a k told in
    let Crash : Kept → Type 0 = λ k. Crashes k told a b in
    let here = subst At (sym c.self.view_is) is in
    subst Crash c.self.view_is (crash-lift _ told a b here (c.copy_page.ensures.crash t (stood_of c.self.inside.known told) here.paged))

pub returns-clause-crash : goal.returns-clause-crash
returns-clause-crash g c t told is =
    let a = g.D.Device.disk c.args.dev.now in
    let b = g.D.Device.disk c.copy_page.new.dev in
    let At : Kept → Type 0 = λ k. IsStore a k told in
    let Crash : Kept → Type 0 = λ k. Crashes k told a b in
    let here = subst At (sym c.self.view_is) is in
    subst Crash c.self.view_is (crash-lift _ told a b here (c.copy_page.ensures.crash t (stood_of c.self.inside.known told) here.paged))

pub returns-clause-stands : goal.returns-clause-stands
returns-clause-stands g c t told is =
    let a = g.D.Device.disk c.args.dev.now in
    let b = g.D.Device.disk c.copy_page.new.dev in
    let At : Kept → Type 0 = λ k. IsStore a k told in
    let here = subst At (sym c.self.view_is) is in
    let stood = stood_of c.self.inside.known told in
    paged-stands _ told c.copy_page.new.self a b here (c.in_ok-bytes.ensures.stands t stood here.paged) (c.in_ok-bytes.ensures.later t stood here.paged)

pub returns-clause-later : goal.returns-clause-later
returns-clause-later g c t told is =
    let a = g.D.Device.disk c.args.dev.now in
    let At : Kept → Type 0 = λ k. IsStore a k told in
    let Later : Kept → Type 0 = λ k. k.paged.log.stored ≤ c.copy_page.new.self.log.stored in
    let here = subst At (sym c.self.view_is) is in
    subst Later c.self.view_is (c.in_ok-bytes.ensures.later t (stood_of c.self.inside.known told) here.paged)

pub returns-clause-page : goal.returns-clause-page
returns-clause-page g c t told is =
    let a = g.D.Device.disk c.args.dev.now in
    let At : Kept → Type 0 = λ k. IsStore a k told in
    let here = subst At (sym c.self.view_is) is in
    c.in_ok-bytes.ensures.page t (stood_of c.self.inside.known told) here.paged

pub returns-in_err-bytes-clause-touches : goal.returns-in_err-bytes-clause-touches
returns-in_err-bytes-clause-touches g c t =
    subst (λ (k : Kept). Touches k.paged (g.D.Device.disk c.args.dev.now) (g.D.Device.disk c.copy_page.new.dev)) c.self.view_is (c.copy_page.ensures.touches t)

pub returns-clause-touches : goal.returns-clause-touches
returns-clause-touches g c t =
    subst (λ (k : Kept). Touches k.paged (g.D.Device.disk c.args.dev.now) (g.D.Device.disk c.copy_page.new.dev)) c.self.view_is (c.copy_page.ensures.touches t)
