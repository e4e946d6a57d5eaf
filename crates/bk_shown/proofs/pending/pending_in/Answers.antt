use Rattle.std.proofs.Common.{rules}
use Rattle.std.specs.Prelude.{IsErrOf}
use Rattle.bk_record.specs.View.{body_of, record_of}
use Rattle.bk_shown.specs.Steps.{IsUnnoted}
use Rattle.bk_shown.specs.declared.error.TakeError.TheVariants.{Unfit}
use Rattle.bk_shown.proofs.Noted.{noted-bad, noted-end, noted-more, noted-start, noted-unfit}
use Rattle.bk_shown.proofs.pending.pending_in.Goals as goal

pub returns-in_err-record-clause-unfit : goal.returns-in_err-record-clause-unfit
returns-in_err-record-clause-unfit c = λ unfit files rs first end counts sound placed holds.
    let step = rw c.in_err-record.was at c.in-Some.ensures.steps in
    let so = c.loop-record.invariant.noted files holds.spells.before holds.spells.from (noted-start files rs first c.args.log.now placed holds) holds.spells.spelled_is in
    noted-bad files holds.spells.before holds.spells.from c.loop-record.record-iterator c.next.new.self c.in_err-record.field-0.0 c.loop-record.writes.items so step

pub loop-record-preserved : goal.loop-record-preserved
loop-record-preserved c =
    let step = rw c.in_ok-record.was at c.in-Some.ensures.steps in
    record {
      can = tt;
      finite = tt;
      noted = λ files before from placed log.
          noted-more files before from c.loop-record.record-iterator c.next.new.self (record_of c.in_ok-record.record) c.loop-record.writes.items c.note.new.writes.items
          (c.loop-record.invariant.noted files before from placed log) step c.in_ok-note.ensures.ok;
    }

unnoted : (c : goal.After-drop-writes-in_err-note) → IsErrOf c.from_residual-in_err-note.result Unfit → IsUnnoted (body_of c.in_ok-record.record.body)
unnoted c e = search rules

pub returns-in_err-note-clause-unfit : goal.returns-in_err-note-clause-unfit
returns-in_err-note-clause-unfit c = λ unfit files rs first end counts sound placed holds.
    let step = rw c.in_ok-record.was at c.in-Some.ensures.steps in
    let so = c.loop-record.invariant.noted files holds.spells.before holds.spells.from (noted-start files rs first c.args.log.now placed holds) holds.spells.spelled_is in
    noted-unfit files holds.spells.before holds.spells.from c.loop-record.record-iterator c.next.new.self (record_of c.in_ok-record.record) c.loop-record.writes.items so step (unnoted c unfit)

pub returns-clause-pending : goal.returns-clause-pending
returns-clause-pending c = λ files rs first end counts sound placed holds.
    noted-end files rs first end c.args.log.now counts sound placed holds c.loop-record.record-iterator.bytes c.loop-record.writes.items
    (c.loop-record.invariant.noted files holds.spells.before holds.spells.from (noted-start files rs first c.args.log.now placed holds) holds.spells.spelled_is) c.in-None.ensures.steps.0
