use Rattle.std.proofs.lemmas.Result.{err_from_is_err_and}
use Rattle.bk_lemmas.specs.Tests.{same_error}
use Rattle.bk_master.proofs.Steps.{opened_files, broken_record}
use Rattle.bk_master.specs.declared.error.MasterError.TheVariants.{Broken}
use Rattle.bk_master.proofs.master.Master.open.Goals as goal

pub returns-in_err-record-clause-broken : goal.returns-in_err-record-clause-broken
returns-in_err-record-clause-broken g c t made =
    let p = err_from_is_err_and c.from_residual-in_err-record.result c.from_residual-in_err-record.ensures.1 in
    rw (p.1, p.2) (λ is. broken_record (g.D.Device.disk c.args.dev.now) c.in_ok-control.control.content made (c.in_ok-control.ensures.content t) (c.in_err-record.ensures.broken (same_error c.in_err-record.field-0.0 Broken is)))

pub returns-clause-loaded : goal.returns-clause-loaded
returns-clause-loaded g c t made = opened_files (g.D.Device.disk c.args.dev.now) c.in_ok-control.control.content c.in_ok-record.record made (c.in_ok-control.ensures.content t) c.in_ok-record.ensures.reads
