use Rattle.bk_gate.proofs.Reading.{begins}
use Rattle.bk_gate.proofs.gate.from_bytes.is_gate_file.Goals as goal

pub returns-then-file-ge17 : goal.returns-then-file-ge17
returns-then-file-ge17 c = begins c.starts_with.result c.args.file.now c.if-file-ge17.true c.starts_with.ensures.value
