use Rattle.std.proofs.Common.{◌+◌, ◌*◌, ◌/◌, arith}
use Rattle.bk_redo.proofs.Halves.{rest_share}
use Rattle.bk_redo.proofs.share.Share.halves.Goals as goal

pub returns-clause-back : goal.returns-clause-back
returns-clause-back c =
    let share = c.args.self in
    let front = share.workers / 2 * share.least + c.min.result in
    let rest = rest_share share.workers (share.workers / 2) share.least c.args.count front (omega arith) c.requires.share.at_least c.requires.share.at_most (omega arith) in
    record {
      some = omega arith;
      at_least = omega (arith, rest.0);
      at_most = omega (arith, rest.1);
      numbered = omega arith;
    }
