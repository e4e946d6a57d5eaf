use Rattle.bk_bytes.specs.TextLaws.{string_at-some, string_at-none}
use Rattle.bk_bytes.proofs.split.split_str.Goals as goal

pub returns-in-Ok : goal.returns-in-Ok
returns-in-Ok c = rw c.in-Ok.ensures.cases.0 (string_at-some c.args.least c.args.most c.args.bytes.now c.in_ok-text.text.now c.in_ok-text.rest.now c.in_ok-text.ensures (record { least_bytes = c.if-text-least.false; most_bytes = c.if-most-text.false; utf8 = c.in-Ok.ensures.cases.1 }))

pub returns-in-Err : goal.returns-in-Err
returns-in-Err c = string_at-none c.args.least c.args.most c.args.bytes.now c.in_ok-text.text.now c.in_ok-text.rest.now c.in_ok-text.ensures c.in-Err.ensures.cases.0
