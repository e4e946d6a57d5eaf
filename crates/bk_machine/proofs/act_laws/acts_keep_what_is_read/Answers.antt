use Rattle.bk_machine.proofs.Acting.{act-reads, acts-read}
use Rattle.bk_machine.proofs.act_laws.acts_keep_what_is_read.Goals as goal

pub returns-clause-act : goal.returns-clause-act
returns-clause-act c = act-reads

pub returns-clause-acts : goal.returns-clause-acts
returns-clause-acts c = acts-read
