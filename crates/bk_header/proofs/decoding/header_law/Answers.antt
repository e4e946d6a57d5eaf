use Rattle.bk_header.specs.Laws.{one_header}
use Rattle.bk_header.proofs.decoding.header_law.Goals as goal

pub returns : goal.returns
returns c = one_header
