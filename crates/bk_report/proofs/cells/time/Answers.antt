use Rattle.std.proofs.Common.{arith}
use Rattle.std.proofs.lemmas.Result.{IfOk-weaker}
use Rattle.std.specs.String.{string_bytes}
use Rattle.bk_report.proofs.MomentLemmas.{text-is}
use Rattle.bk_report.proofs.cells.time.Goals as goal

pub returns : goal.returns
returns c =
    IfOk-weaker c.time_text.result _ _ (λ s is. text-is c.args.ms c.min.result (string_bytes s) (omega (arith, c.min.ensures)) is) c.time_text.ensures.text
