use Rattle.std.proofs.Common.{sym, length, ◌/◌}
use Rattle.bk_record.proofs.ExtentRuns.{length-extents_in}
use Rattle.bk_record.proofs.extents.Extents.len.Goals as goal

pub returns : goal.returns
returns c = sym (length-extents_in (length c.args.self.now.bytes.now / 6) c.args.self.now.bytes.now)
