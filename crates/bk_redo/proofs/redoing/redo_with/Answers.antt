use Rattle.std.proofs.Common.{◌≡◌, ℕ, List, length, Result, Ok, Err, ap, ◌∙◌, refl, subst, rules}
use Rattle.bk_redo.specs.declared.error.RedoError.{RedoError}
use Rattle.bk_redo.specs.declared.error.RedoError.TheVariants.{BadRecord}
use Rattle.bk_redo.specs.declared.writes.CellWrite.{CellWrite}
use Rattle.bk_redo.specs.CellWrites.{PartWritten}
use Rattle.bk_redo.specs.Redo.{records_between}
use Rattle.bk_redo.proofs.Whole.{frames_redone, never_bad}
use Rattle.bk_redo.proofs.redoing.redo_with.Goals as goal

pub returns-clause-redone : goal.returns-clause-redone
returns-clause-redone g c =
    let whole = c.in_ok-writes.ensures.listed in
    let places = c.args.pages.now in
    let logged = records_between c.args.from c.args.to whole.0 in
    let split = c.split_at_mut-front in
    let writes = c.in_ok-writes.writes.items in
    let is : c.deref.result.now ≡ writes = search rules in
    let part = subst (λ (list : List CellWrite). PartWritten 0 list split.result.0.now c.redo_share.new.pages) is
    (subst (λ (first : ℕ). PartWritten first c.deref.result.now split.result.0.now c.redo_share.new.pages) c.whole-share.ensures.first c.redo_share.ensures.made) in (
      whole.0,
      whole.1,
      frames_redone places logged writes (length places) c.args.frames.now c.as_mut_slice.result.now split.result.0.now split.result.1.now c.redo_share.new.pages whole.2 part
          c.as_mut_slice.ensures.value split.ensures.front split.ensures.back refl c.requires.enough,
    )

pub returns-in_err-writes-clause-bad : goal.returns-in_err-writes-clause-bad
returns-in_err-writes-clause-bad g c =
    let same : c.from_residual.result ≡ Err c.in_err-writes.field-0.0 = search rules in
    λ at. (
      (λ bad. let is : c.in_err-writes.field-0.0 ≡ BadRecord at = cc in (c.in_err-writes.ensures.bad at).0 (ap (λ (e : RedoError). Err e) is)),
      (λ broken. let is : c.in_err-writes.field-0.0 ≡ BadRecord at = cc ((c.in_err-writes.ensures.bad at).1 broken) in same ∙ ap (λ (e : RedoError). Err e) is),
    )

pub returns-clause-bad : goal.returns-clause-bad
returns-clause-bad g c =
    let whole = c.in_ok-writes.ensures.listed in
    never_bad c.args.log.now whole.0 (λ (at : ℕ). let result : Result (Unit {0}) RedoError = Ok tt in result ≡ Err (BadRecord at)) (λ at bad. cc) whole.1
