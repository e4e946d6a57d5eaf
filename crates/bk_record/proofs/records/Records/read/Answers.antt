use Rattle.std.proofs.Common.{rules, arith, ◌≡◌, ◌∙◌, List, ℕ, Some, sym, ap}
use Rattle.bk_bytes.specs.Field.{AreBytes}
use Rattle.bk_record.specs.RecordsLaws.{records_in-some, records_in-none}
use Rattle.bk_record.proofs.records.Records.read.Goals as goal

pub returns-in_ok-bytes-in-Ok : goal.returns-in_ok-bytes-in-Ok
returns-in_ok-bytes-in-Ok c =
    let copied : c.in_ok-bytes-in-Ok.bytes.items ≡ c.args.bytes.now = search rules in
    ap (λ (b : List ℕ). Some b) copied ∙ sym (records_in-some c.args.bytes.now c.in-Ok.ensures)

pub returns-in-Err : goal.returns-in-Err
returns-in-Err c =
    let fits : AreBytes c.args.bytes.now = λ i. omega (arith, c.type_inv.bytes i) in
    sym (records_in-none c.args.bytes.now c.in-Err.ensures.0 c.in-Err.field-0.at fits c.in-Err.ensures.1)
