use Rattle.std.proofs.Common.{◌++◌, ◌-◌, arith}
use Rattle.bk_redo.specs.Tasks.{IsDone}
use Rattle.bk_redo.proofs.Parts.{done_joined}
use Rattle.bk_redo.proofs.worker.+sharing.Goals as goal

pub returns : goal.returns
returns g t c =
    let task = c.args.task in
    let first = c.args.share.first in
    let ahead = c.halves.result.0.first in
    let behind = c.halves.result.1.first in
    let split = c.split_at_mut-front in
    let ahead_does = c.join_mut.ensures.0.met in
    let behind_does = c.join_mut.ensures.1.met in
    let joined : IsDone task first c.args.pages.now (c.join_mut.new.f.4.now ++ c.join_mut.new.g.4.now) =
    done_joined task first ahead behind (behind - first) c.args.pages.now split.result.0.now split.result.1.now c.join_mut.new.f.4.now c.join_mut.new.g.4.now ahead_does.1 behind_does.1
    split.ensures.front split.ensures.back c.halves.ensures.first (omega arith) (omega arith) in
    grind (arith, joined)
