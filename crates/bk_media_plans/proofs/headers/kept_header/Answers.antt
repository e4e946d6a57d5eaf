use Rattle.std.proofs.Common.{◌≡◌, true, sym, subst}
use Rattle.bk_header.specs.Conditions.{KeepsConditions}
use Rattle.bk_lemmas.specs.Tests.{clash}
use Rattle.bk_media_plans.proofs.SetFits.{header-keeps}
use Rattle.bk_media_plans.proofs.headers.kept_header.Goals as goal

pub returns-else-keeps-clause-unfit : goal.returns-else-keeps-clause-unfit
returns-else-keeps-clause-unfit c = λ unfit w may.
    let keeps : c.keeps.result ≡ true =
    c.keeps.ensures.found (subst KeepsConditions (sym (c.in_ok-header.ensures w may.shows)) (header-keeps w c.args.database.now c.args.job.now c.args.last c.args.time may)) in
    clash c.keeps.result keeps c.if-keeps.false
