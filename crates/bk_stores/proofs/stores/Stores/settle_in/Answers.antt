use Rattle.std.proofs.Common.{rules, ◌≡◌, ◌∙◌, true, false, sym, subst}
use Rattle.bk_master.specs.declared.record.Record.{Record}
use Rattle.bk_stores.specs.Loading.{shut}
use Rattle.bk_stores.specs.StandLaws.{rest-crash}
use Rattle.bk_stores.specs.Standing.{AreNumbered, AreShut}
use Rattle.bk_stores.specs.Stores.{AreEntries}
use Rattle.bk_stores.specs.TouchLaws.{none-touched}
use Rattle.bk_stores.proofs.Loaded.{entries-differ, shut-none}
use Rattle.bk_stores.proofs.stores.Stores.settle_in.Goals as goal

pub returns-in_err-self-inside-clause-crash : goal.returns-in_err-self-inside-clause-crash
returns-in_err-self-inside-clause-crash g c t tolds is = rest-crash (g.D.Device.disk c.args.dev.now) (shut c.args.self.now.master) tolds is

pub returns-then-not-is_sound-clause-crash : goal.returns-then-not-is_sound-clause-crash
returns-then-not-is_sound-clause-crash g c t tolds is = rest-crash (g.D.Device.disk c.args.dev.now) (shut c.args.self.now.master) tolds is

pub returns-then-not-is_sound-clause-broken : goal.returns-then-not-is_sound-clause-broken
returns-then-not-is_sound-clause-broken g c broken tolds is =
    let record_is : c.record.result.now ≡ c.args.self.now.master.record = search rules in
    let here : AreEntries c.record.result.now tolds = subst (λ (r : Record). AreEntries r tolds) (sym record_is) is in
    let both : false ≡ true = sym c.if-not-is_sound.true ∙ c.is_sound.ensures.all here.keeps here.below here.under (entries-differ c.record.result.now tolds here) in
    cc

pub returns-clause-standing : goal.returns-clause-standing
returns-clause-standing g c t =
    let record_is : c.record.result.now ≡ c.self.inside.master.record = search rules in
    let numbers : AreNumbered c.self.inside.master.record = subst AreNumbered record_is (c.is_sound.ensures.numbered c.if-not-is_sound.false) in
    let none : AreShut c.in_ok-self-inside.field-0.items = shut-none _ c.in_ok-self-inside.field-0.items c.in_ok-self-inside.ensures in
    c.tidy.ensures.standing t numbers none

pub returns-in_err-self-inside-clause-touches : goal.returns-in_err-self-inside-clause-touches
returns-in_err-self-inside-clause-touches g c t = none-touched (g.D.Device.disk c.args.dev.now)

pub returns-then-not-is_sound-clause-touches : goal.returns-then-not-is_sound-clause-touches
returns-then-not-is_sound-clause-touches g c t = none-touched (g.D.Device.disk c.args.dev.now)
