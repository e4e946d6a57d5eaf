use Rattle.std.proofs.Common.{◌∙◌, ap}
use Rattle.std.proofs.lemmas.Result.{IfOk-weaker}
use Rattle.bk_time.specs.Times.{time_of}
use Rattle.bk_time.proofs.TextLemmas.{spelled_back}
use Rattle.bk_time.proofs.time_text.Goals as goal

pub returns-clause-read : goal.returns-clause-read
returns-clause-read c =
    IfOk-weaker c.text.result _ _ (λ s e. ap time_of e ∙ spelled_back c.moment_of.result c.args.ms c.moment_of.ensures) c.text.ensures
