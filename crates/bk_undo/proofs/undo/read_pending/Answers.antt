use Rattle.std.proofs.Common.{[], ◌∷◌, ◌++◌, ◌∙◌, ap, sym}
use Rattle.bk_record.specs.View.{record_of}
use Rattle.bk_record.specs.WalkLaws.{walked_more}
use Rattle.bk_undo.specs.Losers.{noted}
use Rattle.bk_undo.proofs.Replay.{pending-noted}
use Rattle.bk_undo.proofs.undo.read_pending.Goals as goal

pub loop-record-preserved : goal.loop-record-preserved
loop-record-preserved c =
    let step = rw c.in_ok-record.was at c.in-Some.ensures.steps in
    let behind = c.loop-record.invariant.walked in
    let r = record_of c.in_ok-record.record in
    record {
      can = tt;
      finite = tt;
      walked = (behind.0 ++ r ∷ [], walked_more c.args.log.now behind.0 c.loop-record.record-iterator c.next.new.self r behind.1 step, c.in_ok-note.ensures ∙ ap (noted c.args.below r) behind.2 ∙ sym (pending-noted c.args.below behind.0 r));
    }
