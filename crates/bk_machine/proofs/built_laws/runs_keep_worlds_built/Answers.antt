use Rattle.bk_machine.proofs.RunsBuilt.{between-built, crash-built, empty-built, ended-built, front-built, opened-built, restarted-built, run-built}
use Rattle.bk_machine.proofs.statements.Each.{statement-plain}
use Rattle.bk_machine.proofs.built_laws.runs_keep_worlds_built.Goals as goal

pub returns-clause-nothing : goal.returns-clause-nothing
returns-clause-nothing c = empty-built

pub returns-clause-says : goal.returns-clause-says
returns-clause-says c = λ w s now outcome sound built may. statement-plain w sound built s now outcome may

pub returns-clause-statement : goal.returns-clause-statement
returns-clause-statement c = front-built

pub returns-clause-run : goal.returns-clause-run
returns-clause-run c = run-built

pub returns-clause-between : goal.returns-clause-between
returns-clause-between c = between-built

pub returns-clause-opened : goal.returns-clause-opened
returns-clause-opened c = opened-built

pub returns-clause-ended : goal.returns-clause-ended
returns-clause-ended c = ended-built

pub returns-clause-restarted : goal.returns-clause-restarted
returns-clause-restarted c = restarted-built

pub returns-clause-crash : goal.returns-clause-crash
returns-clause-crash c = λ before whole cut left is built l. crash-built before whole cut left is built l
