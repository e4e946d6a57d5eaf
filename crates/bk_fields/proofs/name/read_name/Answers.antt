use Rattle.std.proofs.Common.{arith}
use Rattle.bk_bytes.specs.CodecLaws.{string_at-IsString}
use Rattle.bk_fields.proofs.name.read_name.Goals as goal

pub new-requires : goal.new-requires
new-requires c =
    let is = string_at-IsString 1 64 c.args.bytes.now c.in-Some.text.now c.in-Some.rest.now c.in-Some.ensures in
    omega (arith, is.least_bytes)

pub returns-in-Err-TooLong : goal.returns-in-Err-TooLong
returns-in-Err-TooLong c =
    let is = string_at-IsString 1 64 c.args.bytes.now c.in-Some.text.now c.in-Some.rest.now c.in-Some.ensures in
    let long = rw c.in-Err-TooLong.field-0-is at c.in-Err-TooLong.ensures.error in
    absurd (omega (arith, is.most_bytes, long.0))
