use Rattle.bk_segments.proofs.First.{first_found}
use Rattle.bk_segments.proofs.walk.has_blob.Goals as goal

pub returns : goal.returns
returns c is_gate = first_found c.args.file.now (λ b. b.now) c.blob_behind.result c.is_some.result is_gate c.is_some.ensures c.blob_behind.ensures.some c.blob_behind.ensures.bytes c.blob_behind.ensures.none
