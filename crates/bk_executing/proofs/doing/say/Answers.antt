use Rattle.std.proofs.Common.{◌∙◌, sym, subst}
use Rattle.bk_device.specs.Compose.{effect_weaken}
use Rattle.bk_engine.specs.Stands.{StandsFor}
use Rattle.bk_engine.specs.TouchLaws.{rest-touch}
use Rattle.bk_restarts.specs.CutLaws.{cut-first}
use Rattle.bk_stores.specs.Standing.{AreStanding}
use Rattle.bk_executing.proofs.Results.{moved}
use Rattle.std.specs.List.{AllByRecursion}
use Rattle.bk_ids.specs.declared.record.Rec.{Rec}
use Rattle.bk_record.specs.Spelling.{KeepsLimits}
use Rattle.std.proofs.Common.{List}
use Rattle.bk_executing.proofs.Stored.{says-cuts, says-does}
use Rattle.bk_executing.proofs.doing.say.Goals as goal

pub say-requires-clause-limits : goal.say-requires-clause-limits
say-requires-clause-limits g c = subst (λ (rs : List Rec). AllByRecursion (λ (r : Rec). KeepsLimits r.body) rs) (sym c.as_slice-2.ensures) c.requires.keeps.limits

pub returns-in_err-transactions-clause-crash : goal.returns-in_err-transactions-clause-crash
returns-in_err-transactions-clause-crash g c tells w act acts is stored = effect_weaken (λ image covers. cut-first w _ image covers) (c.at_rest.ensures.crash tells w is)

pub returns-in_err-transactions-clause-touches : goal.returns-in_err-transactions-clause-touches
returns-in_err-transactions-clause-touches g c tells = rest-touch g.D.Device.disk c.args.dev.now c.at_rest.new.dev c.at_rest.ensures.same

pub say-requires-clause-standing : goal.say-requires-clause-standing
say-requires-clause-standing g c = λ tells. subst (λ d. AreStanding (g.D.Device.disk d) c.args.engine.now.hosting.stores) (sym c.at_rest.ensures.same) (c.requires.standing tells)

pub returns-clause-does : goal.returns-clause-does
returns-clause-does g c tells =
    says-does c.say.result c.args.engine.now c.say.new.self (g.D.Device.disk c.args.dev.now) (g.D.Device.disk c.say.new.dev) c.args.name.now c.as_str.result.now c.args.transactions.now c.in_ok-transactions.transactions c.args.records.now c.as_slice-2.result.now c.as_str.ensures.spelling (c.in_ok-transactions.ensures ∙ c.as_slice.ensures) c.as_slice-2.ensures c.requires.keeps
    (λ w said is may. c.say.ensures.stands tells w said (subst (λ d. StandsFor (g.D.Device.disk d) c.args.engine.now w) (sym c.at_rest.ensures.same) is) may)

pub returns-clause-crash : goal.returns-clause-crash
returns-clause-crash g c tells =
    says-cuts c.say.result c.args.engine.now c.say.new.self (g.D.Device.disk c.args.dev.now) (g.D.Device.disk c.say.new.dev) c.args.name.now c.as_str.result.now c.args.transactions.now c.in_ok-transactions.transactions c.args.records.now c.as_slice-2.result.now c.as_str.ensures.spelling (c.in_ok-transactions.ensures ∙ c.as_slice.ensures) c.as_slice-2.ensures c.requires.keeps
    (λ w said is may. moved g.D.Device.disk c.args.dev.now c.at_rest.new.dev c.at_rest.ensures.same (c.say.ensures.crash tells w said (subst (λ d. StandsFor (g.D.Device.disk d) c.args.engine.now w) (sym c.at_rest.ensures.same) is) may))

pub returns-clause-touches : goal.returns-clause-touches
returns-clause-touches g c tells = moved g.D.Device.disk c.args.dev.now c.at_rest.new.dev c.at_rest.ensures.same (c.say.ensures.touches tells)
