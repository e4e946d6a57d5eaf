use Rattle.std.proofs.Common.{◌++◌, List, ℕ, ap, ◌∙◌, append_assoc, arith}
use Rattle.bk_bytes.specs.Field.{bytes_of}
use Rattle.bk_record.specs.LengthLaws.{length-spelling, spelling-parts}
use Rattle.bk_record.specs.Spelling.{inside}
use Rattle.bk_record.proofs.writing.encode_reserved.Goals as goal

pub add_u32-requires : goal.add_u32-requires
add_u32-requires c = omega (arith, c.requires.room, length-spelling c.args.r.now c.requires.limits)

pub add_inside-requires-clause-room : goal.add_inside-requires-clause-room
add_inside-requires-clause-room c = omega (arith, c.requires.room, length-spelling c.args.r.now c.requires.limits, c.add_u32.ensures.len, c.add_u32.ensures.room)

pub returns-clause-items : goal.returns-clause-items
returns-clause-items c =
    c.add_inside.ensures.items
    ∙ ap (λ (out : List ℕ). out ++ inside c.args.r.now) c.add_u32.ensures.items
    ∙ append_assoc c.args.out.now.items (bytes_of 4 c.spelled_len-len.result) (inside c.args.r.now)
    ∙ ap (λ (s : List ℕ). c.args.out.now.items ++ s) (spelling-parts c.args.r.now c.spelled_len-len.result c.spelled_len-len.ensures.len)

pub returns-clause-len : goal.returns-clause-len
returns-clause-len c = omega (arith, c.add_inside.ensures.len, c.add_u32.ensures.len, length-spelling c.args.r.now c.requires.limits)
