use Rattle.std.proofs.Common.{rules}
use Rattle.bk_kept.specs.Numbers.{LeaveNumbers}
use Rattle.bk_executing.proofs.Closings.{held-rolls}
use Rattle.bk_executing.proofs.closing.rolling_back_seen.Goals as goal

pub returns-in_ok-rollback_act-in-Some-clause-act : goal.returns-in_ok-rollback_act-in-Some-clause-act
returns-in_ok-rollback_act-in-Some-clause-act c =
    let numbers : LeaveNumbers c.args.seen.now.databases.items = search rules in
    held-rolls c.args.seen.now c.in-Some.held c.in_ok-rollback_act-in-Some.field-0 c.runs_are_closed_one_by_one.ensures.may c.in_ok-rollback_act-in-Some.ensures.is_done c.in-Some.ensures.first (c.in-Some.ensures.shows numbers)
