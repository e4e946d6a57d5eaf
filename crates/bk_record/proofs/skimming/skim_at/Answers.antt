use Rattle.std.proofs.Common.{◌+◌, refl, sym, ◌∙◌, drop, arith}
use Rattle.std.proofs.lemmas.List.{take_rest}
use Rattle.bk_record.specs.Laws.{one_record}
use Rattle.bk_record.specs.RecordsLaws.{some_bytes}
use Rattle.bk_record.specs.View.{record_of}
use Rattle.bk_record.specs.WalkLaws.{step_reads}
use Rattle.bk_record.proofs.Skims.{begin_there, behind_one, lsn_there}
use Rattle.bk_record.proofs.skimming.skim_at.Goals as goal

pub returns-then-is_write-clause-shows : goal.returns-then-is_write-clause-shows
returns-then-is_write-clause-shows c r after begins =
    let rest = take_rest c.args.bytes.now c.args.at in
    let is = (rw rest at c.is_write.ensures).is c.if-is_write.true r after begins in
    let some = (rw rest at c.is_write.ensures).some c.if-is_write.true in
    let lsn = (rw rest at c.lsn_of.ensures) (omega (arith, some)) in
    let begin = (rw rest at c.begin_of.ensures) (omega (arith, some)) in
    ((is.0, (sym (lsn_there (drop c.args.at c.args.bytes.now) r after begins) ∙ sym lsn, sym (begin_there (drop c.args.at c.args.bytes.now) r after begins) ∙ sym begin)), behind_one c.args.bytes.now c.args.at 288 (c.args.at + 288) r after begins is.1 refl)

pub returns-clause-inside : goal.returns-clause-inside
returns-clause-inside c =
    let rest = take_rest c.args.bytes.now c.args.at in
    let r = record_of c.in_ok-record.record in
    let step = step_reads c.args.bytes.now c.args.at r c.in_ok-record.after.now c.requires (rw rest at c.in_ok-record.ensures) in
    (omega (arith, step.at, some_bytes r), omega arith)

pub returns-clause-shows : goal.returns-clause-shows
returns-clause-shows c r after begins =
    let rest = take_rest c.args.bytes.now c.args.at in
    let step = step_reads c.args.bytes.now c.args.at (record_of c.in_ok-record.record) c.in_ok-record.after.now c.requires (rw rest at c.in_ok-record.ensures) in
    one_record (record_of c.in_ok-record.record) r _ after step.begins.is_record begins.is_record (sym step.begins.spelled ∙ begins.spelled)
