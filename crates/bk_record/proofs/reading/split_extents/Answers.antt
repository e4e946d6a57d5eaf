use Rattle.bk_record.proofs.ExtentRuns.{list_at-extents, list_at-no_count, list_at-no_extents}
use Rattle.bk_record.proofs.reading.split_extents.Goals as goal

pub returns-in_err-count : goal.returns-in_err-count
returns-in_err-count c = rw c.from_residual.ensures (list_at-no_count c.args.bytes.now c.in_err-count.ensures)

pub returns-in_err-bytes : goal.returns-in_err-bytes
returns-in_err-bytes c = rw c.from_residual-in_err-bytes.ensures (list_at-no_extents c.args.bytes.now c.in_ok-count.count c.in_ok-count.rest.now c.in_ok-count.ensures c.in_err-bytes.ensures)

pub returns : goal.returns
returns c = rw c.over.ensures (list_at-extents c.args.bytes.now c.in_ok-count.count c.in_ok-count.rest.now c.in_ok-bytes.bytes.now c.in_ok-bytes.rest.now c.in_ok-count.ensures c.in_ok-bytes.ensures)
