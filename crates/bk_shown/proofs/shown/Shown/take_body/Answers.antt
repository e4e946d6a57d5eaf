use Rattle.std.proofs.Common.{sym, subst, OnOk}
use Rattle.bk_record.specs.View.{body_of}
use Rattle.bk_shown.specs.Steps.{TakesBody}
use Rattle.bk_shown.proofs.shown.Shown.take_body.Goals as goal

pub returns-in-Write-clause-ok : goal.returns-in-Write-clause-ok
returns-in-Write-clause-ok c =
    subst (λ body. OnOk c.take_write.result (TakesBody c.args.taken.lsn c.args.taken.begin (body_of body) c.args.self.now c.take_write.new.self)) (sym c.in-Write.is) c.take_write.ensures.ok
