use Rattle.bk_carried.proofs.Given.{given-fresh, own-page}
use Rattle.bk_carried.proofs.laws.pages_are_given.Goals as goal

pub returns : goal.returns
returns c = record { fresh = given-fresh; copied = own-page }
