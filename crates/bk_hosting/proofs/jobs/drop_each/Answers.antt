use Rattle.std.proofs.Common.{◌≡◌, ◌<◌, ◌∙◌, List, length, get_or, set, ap, rules}
use Rattle.bk_hosting.specs.declared.hosting.State.{State}
use Rattle.bk_hosting.specs.Jobs.{without_job}
use Rattle.bk_hosting.proofs.Dropped.{item-is, set-next}
use Rattle.bk_hosting.proofs.jobs.drop_each.Goals as goal

pub loop-state-preserved : goal.loop-state-preserved
loop-state-preserved c =
    let i = c.loop-state.state-index in
    let xs = c.args.states.now in
    let x = c.state-item.result in
    let lt : i < length xs = search rules in
    let same : get_or c.loop-state.states i x ≡ get_or xs i x = ap (λ (ys : List State). get_or ys i x) c.loop-state.invariant ∙ item-is xs i x lt in
    ap (λ (v : State). set c.loop-state.states i (without_job v)) same
    ∙ ap (λ (ys : List State). set ys i (without_job (get_or xs i x))) c.loop-state.invariant ∙ set-next xs i x lt
