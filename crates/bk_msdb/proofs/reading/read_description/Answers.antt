use Rattle.bk_bytes.specs.CodecLaws.{string_at-IsString}
use Rattle.bk_msdb.proofs.reading.read_description.Goals as goal

pub new-requires-clause-short : goal.new-requires-clause-short
new-requires-clause-short c = (string_at-IsString 0 65535 c.args.bytes.now c.in-Some.text.now c.in-Some.rest.now c.in-Some.ensures).most_bytes
