use Rattle.std.proofs.lemmas.Result.{err_from_is_err_and}
use Rattle.bk_bytes.specs.Codec.{times_at}
use Rattle.bk_bytes.specs.LoopLaws.{goes_on, is_done}
use Rattle.bk_body.specs.Reading.{table_form}
use Rattle.bk_reading.specs.Laws.{refuses_list}
use Rattle.bk_body.proofs.tables.read_so_many.Goals as goal

pub returns-in_err-table : goal.returns-in_err-table
returns-in_err-table c =
    let p = err_from_is_err_and c.from_residual.result c.from_residual.ensures.1 in
    rw (p.1, p.2) (refuses_list table_form.reading c.loop.tables.items c.args.count c.loop.counter c.loop.rest.now (times_at table_form.reading c.args.count c.args.bytes.now) c.in_err-table.field-0.0 c.loop-test.true c.in_err-table.ensures c.loop.invariant)

pub loop-preserved : goal.loop-preserved
loop-preserved c =
    rw c.in_ok-push.ensures.items (goes_on table_form.reading c.loop.tables.items c.args.count c.loop.counter c.loop.rest.now c.in_ok-table.table c.in_ok-table.after.now (times_at table_form.reading c.args.count c.args.bytes.now) c.loop-test.true c.in_ok-table.ensures c.loop.invariant)

pub returns : goal.returns
returns c = is_done table_form.reading c.loop.tables.items c.args.count c.loop.counter c.loop.rest.now (times_at table_form.reading c.args.count c.args.bytes.now) c.loop-test.false c.loop.invariant
