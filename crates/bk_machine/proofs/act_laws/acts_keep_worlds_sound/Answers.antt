use Rattle.bk_machine.proofs.Acting.{act-sound, acts-sound}
use Rattle.bk_machine.proofs.ActsSays.{says-whole}
use Rattle.bk_machine.specs.NamedLaws.{named-own}
use Rattle.bk_machine.proofs.act_laws.acts_keep_worlds_sound.Goals as goal

pub returns-clause-says : goal.returns-clause-says
returns-clause-says c = λ w name db said transactions whole is may. says-whole w db said transactions whole (named-own w.databases name db is) may

pub returns-clause-act : goal.returns-clause-act
returns-clause-act c = act-sound

pub returns-clause-acts : goal.returns-clause-acts
returns-clause-acts c = acts-sound
