use Rattle.std.proofs.Common.{[], ◌∷◌, ◌++◌}
use Rattle.bk_record.specs.View.{record_of}
use Rattle.bk_record.specs.WalkLaws.{walked_more}
use Rattle.bk_record.proofs.check.check_log.Goals as goal

pub loop-record-preserved : goal.loop-record-preserved
loop-record-preserved c =
    let step = rw c.in_ok-_record.was at c.in-Some.ensures.steps in
    let behind = c.loop-record.invariant.walked in
    record {
      can = tt;
      finite = tt;
      walked = (behind.0 ++ record_of c.in_ok-_record._record ∷ [], walked_more c.args.bytes.now behind.0 c.loop-record.record-iterator c.next.new.self (record_of c.in_ok-_record._record) behind.1 step);
    }
