use Rattle.std.proofs.Common.{sym, ◌∙◌}
use Rattle.bk_machine.proofs.ActsBegin.{recovered-found, recovered-log}
use Rattle.bk_machine.specs.NamedLaws.{name-of-named, named-alike, named-own}
use Rattle.bk_machine.proofs.act_laws.a_recovery_is_said_last.Goals as goal
use Rattle.bk_machine.specs.Acts.{goes_online}

pub returns-clause-found : goal.returns-clause-found
returns-clause-found c = λ w name db r is found may.
    named-alike (goes_online w db r).databases name db.name (sym (name-of-named w.databases name db found)) ∙ recovered-found w db r is (named-own w.databases name db found) may

pub returns-clause-log : goal.returns-clause-log
returns-clause-log c = λ w name db r is found may. recovered-log w db r is (named-own w.databases name db found) may
