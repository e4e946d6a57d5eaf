use Rattle.bk_acts.specs.MeaningLaws.{nothing-said, said-more, one-number, spell-from}
use Rattle.bk_acts.proofs.laws.said_law.Goals as goal

pub returns : goal.returns
returns c = record { nothing = nothing-said; one_more = said-more; one_number = one-number; from = spell-from }
