use Rattle.bk_bytes.specs.CodecLaws.{number-IsCodec, run-IsCodec, text-IsCodec}
use Rattle.bk_bytes.proofs.codec.codec_law.Goals as goal

pub returns : goal.returns
returns c = record { number = number-IsCodec; run = run-IsCodec; text = text-IsCodec }
