use Rattle.std.proofs.Common.{rules}
use Rattle.bk_device.specs.Calls.{contents}
use Rattle.bk_gate.specs.BlobLaws.{foreign_blobs}
use Rattle.bk_segments.proofs.walk.read_gate.Goals as goal

pub returns-in-Err-Foreign-clause-foreign : goal.returns-in-Err-Foreign-clause-foreign
returns-in-Err-Foreign-clause-foreign g c t is = foreign_blobs (contents ((g.D.Device.disk c.args.dev.now).files c.args.name.now)) (c.in-Err-Foreign.ensures.foreign t (search rules))
