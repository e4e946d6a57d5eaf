use Rattle.std.proofs.Common.{◌∙◌}
use Rattle.bk_record.specs.View.{record_of}
use Rattle.bk_record.specs.RecordsLaws.{fewer_behind, step_behind, stops_here, stops_last}
use Rattle.bk_record.proofs.records.rest_from.Goals as goal

pub loop-record-smaller : goal.loop-record-smaller
loop-record-smaller c = fewer_behind c.loop-record.rest.now (record_of c.in-Some.record) c.in-Some.after.now c.in-Some.ensures

pub loop-record-preserved : goal.loop-record-preserved
loop-record-preserved c = λ records log.
    let so = c.loop-record.invariant records log in
    let next = step_behind c.loop-record.rest.now c.args.lsn so.0 (record_of c.in-Some.record) c.in-Some.after.now so.1.1 c.in-Some.ensures c.if-record-lsn.true in
    (next.0, (so.1.0 ∙ next.1.0, next.1.1))

pub returns-in_default : goal.returns-in_default
returns-in_default c = λ records log.
    let so = c.loop-record.invariant records log in
    rw so.1.0 (stops_here c.loop-record.rest.now c.args.lsn so.0 (record_of c.in-Some.record) c.in-Some.after.now so.1.1 c.in-Some.ensures c.if-record-lsn.false)

pub returns-in_default-2 : goal.returns-in_default-2
returns-in_default-2 c = λ records log.
    let so = c.loop-record.invariant records log in
    rw so.1.0 (stops_last c.loop-record.rest.now c.args.lsn so.0 so.1.1 (rw c.in_default.is at c.split_record.ensures))
