use Rattle.bk_executing.proofs.RestoringDone.{never-bad}
use Rattle.bk_executing.proofs.restoring.read_log.Goals as goal

pub returns-in-Err-clause-broken : goal.returns-in-Err-clause-broken
returns-in-Err-clause-broken g c tells is body there =
    let whole = there.is_body.log in
    let bad = c.in-Err.ensures in
    never-bad c.log_law.ensures.one_list c.in-Ok.bytes.items body.log whole.0 bad.0 c.in-Err.field-0.at (c.in-Ok.ensures.log tells body there) whole.1 bad.1
