use Rattle.std.proofs.Common.{arith}
use Rattle.bk_lemmas.specs.Numbers.{number_bytes}
use Rattle.bk_gate.specs.BlobLaws as laws
use Rattle.bk_gate.proofs.blob.put_all.Goals as goal

pub returns : goal.returns
unfolding number_bytes
returns c = laws.put_all c.args.bytes.now c.args.room.now c.write_u64.new.buf c.put_behind.new.room (omega arith) c.write_u64.ensures c.put_behind.ensures
