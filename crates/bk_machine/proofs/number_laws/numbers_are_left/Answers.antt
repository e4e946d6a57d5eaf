use Rattle.bk_machine.specs.UpLaws.{is-up}
use Rattle.bk_machine.proofs.LeftNumbers.{numbers-held}
use Rattle.bk_machine.proofs.Sets.{set-sound}
use Rattle.bk_machine.proofs.number_laws.numbers_are_left.Goals as goal

pub returns-clause-online : goal.returns-clause-online
returns-clause-online c = λ w db sound named up. (is-up w db sound named up).opens.numbers

pub returns-clause-held : goal.returns-clause-held
returns-clause-held c = numbers-held

pub returns-clause-sets : goal.returns-clause-sets
returns-clause-sets c = λ w path header sound there. (set-sound w path header sound there).numbers
