use Rattle.std.proofs.Common.{◌≡◌, ◌≤◌, ◌+◌, ◌^◌, arith}
use Rattle.bk_record.specs.View.{record_of}
use Rattle.bk_segments.specs.BatchLaws.{counted_more, counted_whole, counted_other, counted_bad}
use Rattle.bk_segments.proofs.walk.walk_blob.Goals as goal

pub returns-in_default-clause-none : goal.returns-in_default-clause-none
returns-in_default-clause-none c none to part small =
    let step = rw c.in_default.is at c.in-Some.ensures.steps in
    counted_bad c.args.from c.args.bytes.now c.loop-record.at c.loop-record.record-iterator c.next.new.self c.in_default.field-0 c.loop-record.invariant.counted step part.batch

pub returns-then-record-at-clause-none : goal.returns-then-record-at-clause-none
returns-then-record-at-clause-none c none to part small =
    let step = rw c.in-Ok.is at c.in-Some.ensures.steps in
    counted_other c.args.from c.args.bytes.now c.loop-record.at to c.loop-record.record-iterator c.next.new.self (record_of c.in-Ok.record) c.loop-record.invariant.counted step (λ same. absurd (c.if-record-at.true same)) part small

pub returns-in_err-at-clause-none : goal.returns-in_err-at-clause-none
returns-in_err-at-clause-none c none to part small =
    let step = rw c.in-Ok.is at c.in-Some.ensures.steps in
    let past : 2 ^ 64 ≤ c.loop-record.at + 1 = omega (arith, c.in_err-at.ensures) in
    counted_other c.args.from c.args.bytes.now c.loop-record.at to c.loop-record.record-iterator c.next.new.self (record_of c.in-Ok.record) c.loop-record.invariant.counted step (λ same. past) part small

pub loop-record-preserved : goal.loop-record-preserved
loop-record-preserved c =
    let step = rw c.in-Ok.is at c.in-Some.ensures.steps in
    let next : c.in_ok-at.at ≡ c.loop-record.at + 1 = omega (arith, c.in_ok-at.ensures) in
    record {
      can = tt;
      finite = tt;
      counted = rw next (counted_more c.args.from c.args.bytes.now c.loop-record.at c.loop-record.record-iterator c.next.new.self (record_of c.in-Ok.record) c.loop-record.invariant.counted step c.if-record-at.false);
    }

pub returns-clause-part : goal.returns-clause-part
returns-clause-part c = counted_whole c.args.from c.args.bytes.now c.loop-record.at c.loop-record.record-iterator c.loop-record.invariant.counted c.in-None.ensures.steps.0
