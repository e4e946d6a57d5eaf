use Rattle.std.proofs.Common.{◌≡◌, true}
use Rattle.std.proofs.lemmas.Result.{err_from_is_err_and}
use Rattle.bk_reopening.specs.declared.noting.Noted.{Noted}
use Rattle.bk_reopening.specs.declared.error.OpenError.TheVariants.{Foreign}
use Rattle.bk_reopening.proofs.Causes.{foreign-note, same_cause}
use Rattle.bk_reopening.proofs.Notes.{note-kept, note-refused, tells-is}
use Rattle.bk_reopening.proofs.noting.noted_in.Goals as goal

pub returns-in_err-known-clause-foreign : goal.returns-in_err-known-clause-foreign
returns-in_err-known-clause-foreign c = λ is known note.
    let p = err_from_is_err_and c.from_residual.result c.from_residual.ensures.1 in
    note-refused c.args.bytes.now c.in_err-known.field-0.0 known note c.in_err-known.ensures (foreign-note c.in_err-known.field-0.0 p.0 p.2 (same_cause p.0 Foreign p.1 is))

pub returns-then-not-may_keep-clause-foreign : goal.returns-then-not-may_keep-clause-foreign
returns-then-not-may_keep-clause-foreign c = λ is known note its.
    let kept = note-kept c.args.bytes.now c.in_ok-known.known c.in_ok-known.rest.now known note c.in_ok-known.ensures its in
    c.may_keep.ensures.no c.if-not-may_keep.true kept.0 kept.1.0 kept.1.1

pub returns-clause-tells : goal.returns-clause-tells
returns-clause-tells c =
    let noted : Noted = record { known = c.in_ok-known.known; note = c.in_ok-note.note } in
    let kept : c.may_keep.result ≡ true = c.if-not-may_keep.false in
    tells-is c.args.bytes.now noted c.in_ok-known.rest.now (c.in_ok-note.ensures.items_if_clones_equal (λ x y e. e)) c.in_ok-known.ensures (c.may_keep.ensures.yes kept) (c.may_keep.ensures.files kept) (c.may_keep.ensures.short kept)
