use Rattle.bk_undo.proofs.holding.holding_law.Goals as goal
use Rattle.bk_undo.proofs.HeldBegin.{holds-begin}
use Rattle.bk_undo.proofs.HeldCommit.{holds-commit}
use Rattle.bk_undo.proofs.HeldUndone.{holds-undone}
use Rattle.bk_undo.proofs.HeldWrite.{holds-write}

pub returns-clause-begins : goal.returns-clause-begins
returns-clause-begins c = holds-begin

pub returns-clause-writes : goal.returns-clause-writes
returns-clause-writes c = holds-write

pub returns-clause-commits : goal.returns-clause-commits
returns-clause-commits c = holds-commit

pub returns-clause-undoes : goal.returns-clause-undoes
returns-clause-undoes c = holds-undone
