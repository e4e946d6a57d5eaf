use Rattle.std.proofs.lemmas.Result.{err_from_is_err_and}
use Rattle.bk_bytes.specs.Codec.{times_at}
use Rattle.bk_bytes.specs.LoopLaws.{goes_on, is_done}
use Rattle.bk_fields.specs.Guids.{guid_form}
use Rattle.bk_reading.specs.Laws.{refuses_list}
use Rattle.bk_master.proofs.reading.read_so_many_sets.Goals as goal

pub returns-in_err-set : goal.returns-in_err-set
returns-in_err-set c =
    let p = err_from_is_err_and c.from_residual.result c.from_residual.ensures.1 in
    rw (p.1, p.2) (refuses_list guid_form.reading c.loop.sets.items c.args.count c.loop.counter c.loop.rest.now (times_at guid_form.reading c.args.count c.args.bytes.now) c.in_err-set.field-0.0 c.loop-test.true c.in_err-set.ensures c.loop.invariant)

pub loop-preserved : goal.loop-preserved
loop-preserved c =
    rw c.in_ok-push.ensures.items (goes_on guid_form.reading c.loop.sets.items c.args.count c.loop.counter c.loop.rest.now c.in_ok-set.set c.in_ok-set.after.now (times_at guid_form.reading c.args.count c.args.bytes.now) c.loop-test.true c.in_ok-set.ensures c.loop.invariant)

pub returns : goal.returns
returns c = is_done guid_form.reading c.loop.sets.items c.args.count c.loop.counter c.loop.rest.now (times_at guid_form.reading c.args.count c.args.bytes.now) c.loop-test.false c.loop.invariant
