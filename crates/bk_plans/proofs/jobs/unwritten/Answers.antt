use Rattle.std.proofs.Common.{◌≡◌, subst}
use Rattle.bk_kept.specs.declared.kept.Kept.{Kept}
use Rattle.bk_plans.proofs.Written.{any_writes, unwritten-passed, written-refused}
use Rattle.bk_plans.proofs.jobs.unwritten.Goals as goal

pub returns-then-is_written : goal.returns-then-is_written
returns-then-is_written c = λ w sees.
    let same : c.is_written.result ≡ any_writes c.args.path.now c.args.kept.now.databases.items =
    subst (λ (k : Kept). c.is_written.result ≡ any_writes c.args.path.now k.databases.items) c.kept.view_is (rw (← c.deref.ensures.value, ← c.as_str.ensures) c.is_written.ensures) in
    written-refused w c.args.kept.now c.args.path.now c.is_written.result c.taken.result sees same c.if-is_written.true (rw (← c.as_str-then-is_written.ensures) c.taken.ensures)

pub returns : goal.returns
returns c = λ w sees.
    let same : c.is_written.result ≡ any_writes c.args.path.now c.args.kept.now.databases.items =
    subst (λ (k : Kept). c.is_written.result ≡ any_writes c.args.path.now k.databases.items) c.kept.view_is (rw (← c.deref.ensures.value, ← c.as_str.ensures) c.is_written.ensures) in
    unwritten-passed w c.args.kept.now c.args.path.now c.is_written.result sees same c.if-is_written.false
