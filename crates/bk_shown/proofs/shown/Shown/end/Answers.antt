use Rattle.std.proofs.Common.{◌≡◌, ◌+◌, length, arith}
use Rattle.bk_shown.proofs.Taken.{counts-length}
use Rattle.bk_shown.proofs.shown.Shown.end.Goals as goal

pub returns-clause-shown : goal.returns-clause-shown
returns-clause-shown c = λ files rs shows. let is : c.args.self.now.end ≡ length rs + 1 = counts-length 1 rs c.args.self.now.end shows.log.counts in omega (arith, is)
