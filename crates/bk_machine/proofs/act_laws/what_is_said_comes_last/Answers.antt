use Rattle.std.proofs.Common.{sym, ◌∙◌}
use Rattle.bk_machine.proofs.ActsSays.{says-found, says-log}
use Rattle.bk_machine.specs.NamedLaws.{name-of-named, named-alike, named-own}
use Rattle.bk_machine.proofs.act_laws.what_is_said_comes_last.Goals as goal
use Rattle.bk_machine.specs.Acts.{says}

pub returns-clause-found : goal.returns-clause-found
returns-clause-found c = λ w name db said transactions whole is may.
    named-alike (says w db said transactions).databases name db.name (sym (name-of-named w.databases name db is)) ∙ says-found w db said transactions whole (named-own w.databases name db is) may

pub returns-clause-log : goal.returns-clause-log
returns-clause-log c = λ w name db said transactions whole is may. says-log w db said transactions whole (named-own w.databases name db is) may
