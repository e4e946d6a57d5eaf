use Rattle.bk_machine.proofs.CutRuns.{run-cut, run-leaves, run-whole}
use Rattle.bk_machine.proofs.crash_laws.runs_are_cut_in_whole_worlds.Goals as goal
use Rattle.bk_machine.proofs.statements.Running.{runs-well}

pub returns-clause-whole : goal.returns-clause-whole
returns-clause-whole c = λ old statements moments outcomes least before cut whole sound run cuts. run-whole old outcomes least before cut whole sound (runs-well old statements moments outcomes run) cuts

pub returns-clause-cut : goal.returns-clause-cut
returns-clause-cut c = λ old statements moments outcomes least before cut whole sound run cuts. run-cut old outcomes least before cut whole sound (runs-well old statements moments outcomes run) cuts

pub returns-clause-leaves : goal.returns-clause-leaves
returns-clause-leaves c = λ old statements moments outcomes least before cut whole sound run cuts. run-leaves old outcomes least before cut whole sound (runs-well old statements moments outcomes run) cuts
