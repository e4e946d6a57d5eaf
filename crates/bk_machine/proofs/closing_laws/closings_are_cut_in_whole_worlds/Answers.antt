use Rattle.bk_machine.proofs.CutRuns.{run-cut, run-leaves, run-whole}
use Rattle.bk_machine.proofs.closing_laws.closings_are_cut_in_whole_worlds.Goals as goal
use Rattle.bk_machine.proofs.statements.Closing.{closed-well}
use Rattle.bk_machine.proofs.statements.Leaving.{left-sound}

pub returns-clause-whole : goal.returns-clause-whole
returns-clause-whole c = λ old statements moments outcomes acts least before cut whole sound run closing cuts.
    run-whole old _ least before cut whole sound (closed-well old statements moments outcomes acts run closing) cuts

pub returns-clause-cut : goal.returns-clause-cut
returns-clause-cut c = λ old statements moments outcomes acts least before cut whole sound run closing cuts.
    run-cut old _ least before cut whole sound (closed-well old statements moments outcomes acts run closing) cuts

pub returns-clause-leaves : goal.returns-clause-leaves
returns-clause-leaves c = λ old statements moments outcomes acts least before cut whole sound run closing cuts.
    run-leaves old _ least before cut whole sound (closed-well old statements moments outcomes acts run closing) cuts

pub returns-clause-sound : goal.returns-clause-sound
returns-clause-sound c = λ old statements moments outcomes acts least left sound run closing leaves.
    left-sound old _ least left sound (closed-well old statements moments outcomes acts run closing) leaves
