use Rattle.std.proofs.Common.{◌∙◌, List, sym, subst}
use Rattle.std.specs.List.{AllByRecursion}
use Rattle.bk_engine.specs.Stands.{StandsFor}
use Rattle.bk_engine.specs.TouchLaws.{rest-touch}
use Rattle.bk_ids.specs.declared.record.Rec.{Rec}
use Rattle.bk_record.specs.Spelling.{KeepsLimits}
use Rattle.bk_stores.specs.Standing.{AreStanding}
use Rattle.bk_executing.specs.Waiting.{stamp_of}
use Rattle.bk_executing.proofs.Results.{moved}
use Rattle.bk_executing.proofs.Waited.{none-said, said-cuts, said-stamp}
use Rattle.bk_executing.proofs.waiting.say_stamp.Goals as goal

pub returns-in_err-transactions-clause-crash : goal.returns-in_err-transactions-clause-crash
returns-in_err-transactions-clause-crash g c tells w stands may = none-said w c.args.finish.now (c.at_rest.ensures.crash tells w stands)

pub returns-in_err-transactions-clause-touches : goal.returns-in_err-transactions-clause-touches
returns-in_err-transactions-clause-touches g c tells = rest-touch g.D.Device.disk c.args.dev.now c.at_rest.new.dev c.at_rest.ensures.same

pub finish_set-requires-clause-limits : goal.finish_set-requires-clause-limits
finish_set-requires-clause-limits g c = subst (λ (rs : List Rec). AllByRecursion (λ (r : Rec). KeepsLimits r.body) rs) (sym c.as_slice-2.ensures) c.requires.keeps.records.limits

pub finish_set-requires-clause-standing : goal.finish_set-requires-clause-standing
finish_set-requires-clause-standing g c = λ tells. subst (λ d. AreStanding (g.D.Device.disk d) c.args.engine.now.hosting.stores) (sym c.at_rest.ensures.same) (c.requires.standing tells)

pub returns-in_err-finishing-clause-crash : goal.returns-in_err-finishing-clause-crash
returns-in_err-finishing-clause-crash g c tells w stands may =
    moved g.D.Device.disk c.args.dev.now c.at_rest.new.dev c.at_rest.ensures.same
    (said-cuts w c.args.finish.now may c.as_str.result.now c.in_ok-transactions.transactions c.as_slice-2.result.now c.as_str.ensures.spelling (c.in_ok-transactions.ensures ∙ c.as_slice.ensures) c.as_slice-2.ensures (λ ends. c.finish_set.ensures.crash tells w may.job (stamp_of c.args.finish.now) (subst (λ d. StandsFor (g.D.Device.disk d) c.args.engine.now w) (sym c.at_rest.ensures.same) stands) ends))

pub returns-in_err-finishing-clause-touches : goal.returns-in_err-finishing-clause-touches
returns-in_err-finishing-clause-touches g c tells = moved g.D.Device.disk c.args.dev.now c.at_rest.new.dev c.at_rest.ensures.same (c.finish_set.ensures.touches tells)

pub returns-clause-ended : goal.returns-clause-ended
returns-clause-ended g c tells w may stands =
    said-stamp w c.args.finish.now may c.as_str.result.now c.in_ok-transactions.transactions c.as_slice-2.result.now c.as_str.ensures.spelling (c.in_ok-transactions.ensures ∙ c.as_slice.ensures) c.as_slice-2.ensures (g.D.Device.disk c.finish_set.new.dev) c.finish_set.new.self c.in_ok-finishing.finishing
    (λ ends. c.in_ok-finishing.ensures.stands tells w may.job (stamp_of c.args.finish.now) (subst (λ d. StandsFor (g.D.Device.disk d) c.args.engine.now w) (sym c.at_rest.ensures.same) stands) ends)
    (λ db ends found. c.in_ok-finishing.ensures.holds tells w may.job (stamp_of c.args.finish.now) db (subst (λ d. StandsFor (g.D.Device.disk d) c.args.engine.now w) (sym c.at_rest.ensures.same) stands) ends found)

pub returns-clause-crash : goal.returns-clause-crash
returns-clause-crash g c tells w stands may =
    moved g.D.Device.disk c.args.dev.now c.at_rest.new.dev c.at_rest.ensures.same
    (said-cuts w c.args.finish.now may c.as_str.result.now c.in_ok-transactions.transactions c.as_slice-2.result.now c.as_str.ensures.spelling (c.in_ok-transactions.ensures ∙ c.as_slice.ensures) c.as_slice-2.ensures (λ ends. c.finish_set.ensures.crash tells w may.job (stamp_of c.args.finish.now) (subst (λ d. StandsFor (g.D.Device.disk d) c.args.engine.now w) (sym c.at_rest.ensures.same) stands) ends))

pub returns-clause-touches : goal.returns-clause-touches
returns-clause-touches g c tells = moved g.D.Device.disk c.args.dev.now c.at_rest.new.dev c.at_rest.ensures.same (c.finish_set.ensures.touches tells)
