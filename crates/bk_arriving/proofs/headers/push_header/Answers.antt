use Rattle.std.proofs.Common.{ap, rules, arith, ◌∙◌}
use Rattle.std.proofs.lemmas.Result.{on_ok_weaker}
use Rattle.bk_restoring.specs.Arriving.{Kept}
use Rattle.bk_arriving.specs.Steps.{IsDue, rest_of}
use Rattle.bk_arriving.proofs.Rest.{rest_header}
use Rattle.bk_arriving.proofs.headers.push_header.Goals as goal

pub returns-clause-rest : goal.returns-clause-rest
returns-clause-rest g c =
    let k = c.args.arriving.now in
    let due : IsDue k.filling = c.is_due.ensures.yes (search rules) in
    on_ok_weaker c.push_fresh_extent.result (λ next. ap (λ (m : Kept). rest_of m.filling) next ∙ rest_header k.filling c.requires.even due.0 due.1) c.push_fresh_extent.ensures.next

pub returns-clause-brings : goal.returns-clause-brings
returns-clause-brings g c t given headers =
    let k = c.args.arriving.now in
    let due : IsDue k.filling = c.is_due.ensures.yes (search rules) in
    c.push_fresh_extent.ensures.brings t given (λ j below. headers _ _ (omega (arith, due.1, below)))
