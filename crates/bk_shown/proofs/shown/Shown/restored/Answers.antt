use Rattle.std.proofs.Common.{◌≡◌, [], List, Result, Ok, Err, map, refl, sym, subst, rules}
use Rattle.std.specs.Prelude.{IsErrAnd, IsErrOf}
use Rattle.bk_world.specs.declared.database.FileSpec.{FileSpec}
use Rattle.bk_world.specs.Pending as log
use Rattle.bk_shown.specs.Shown.{AreNumbered, pending_of}
use Rattle.bk_shown.specs.Steps.{HasRows, MayHold, MayPend, home_among}
use Rattle.bk_shown.specs.declared.error.TakeError.{TakeError}
use Rattle.bk_shown.specs.declared.error.TakeError.TheVariants.{NoMemory, Unfit}
use Rattle.bk_shown.proofs.Restored.{has-none, has-no-writes, may-hold, may-pend, numbers-of, shows-restored}
use Rattle.bk_shown.proofs.shown.Shown.restored.Goals as goal

pub returns-in_err-add_all-clause-unfit : goal.returns-in_err-add_all-clause-unfit
returns-in_err-add_all-clause-unfit c = λ e rs is.
    let unfit : (files : List FileSpec) → HasRows files [] [] c.in_ok-shown.shown → AreNumbered 1 c.args.tables.now → MayHold files c.args.rows.now → ⊥ = search (rules, c.in_err-add_all.ensures.unfit) in
    unfit c.args.files.now (has-none c.args.files.now c.in_ok-shown.shown c.in_ok-shown.ensures)
    (numbers-of c.args.files.now rs c.args.tables.now c.args.rows.now c.args.log.now c.args.model c.args.time c.args.end is)
    (may-hold c.args.files.now rs c.args.tables.now c.args.rows.now c.args.log.now c.args.model c.args.time c.args.end is c.requires)

same-error : {T U : Type 0} (e : TakeError) (r : Result U TakeError) → IsErrAnd r (λ x. x ≡ e) → IsErrOf r Unfit → IsErrOf {T = T} {E = TakeError} (Err e) Unfit
same-error Unfit r is unfit = refl
same-error NoMemory (Ok u) is unfit = absurd is
same-error NoMemory (Err x) is unfit = absurd (cc (is, unfit))

pub returns-in_err-writes-clause-unfit : goal.returns-in_err-writes-clause-unfit
returns-in_err-writes-clause-unfit c = λ e rs is.
    c.in_err-writes.ensures.unfit (same-error c.in_err-writes.field-0.0 c.from_residual-in_err-writes.result c.from_residual-in_err-writes.ensures.1 e)
    c.args.files.now rs is.first c.args.end is.counts is.sound is.placed is.holds

pub returns-in_err-add_writes-clause-unfit : goal.returns-in_err-add_writes-clause-unfit
returns-in_err-add_writes-clause-unfit c = λ e rs is.
    let pend : map pending_of c.in_ok-writes.writes.items ≡ log.pending rs = c.in_ok-writes.ensures.pending c.args.files.now rs is.first c.args.end is.counts is.sound is.placed is.holds in
    c.in_err-add_writes.ensures.unfit (same-error c.in_err-add_writes.field-0.0 c.from_residual-in_err-add_writes.result c.from_residual-in_err-add_writes.ensures.1 e)
    c.args.files.now c.args.tables.now c.args.rows.now
    (has-no-writes c.args.files.now c.args.tables.now c.args.rows.now c.add_all.new.self (c.in_ok-add_all.ensures.ok c.args.files.now (has-none c.args.files.now c.in_ok-shown.shown c.in_ok-shown.ensures)))
    (subst (MayPend c.args.files.now (home_among c.args.rows.now)) (sym pend)
    (may-pend c.args.files.now rs c.args.tables.now c.args.rows.now c.args.log.now c.args.model c.args.time c.args.end is c.requires))

pub returns-clause-ok : goal.returns-clause-ok
returns-clause-ok c = λ rs is.
    let pend : map pending_of c.in_ok-writes.writes.items ≡ log.pending rs = c.in_ok-writes.ensures.pending c.args.files.now rs is.first c.args.end is.counts is.sound is.placed is.holds in
    shows-restored c.args.files.now rs c.args.tables.now c.args.rows.now c.args.log.now c.args.model c.args.time c.args.end is c.in_ok-writes.writes.items c.add_writes.new.self c.requires pend
    (c.in_ok-add_writes.ensures.ok c.args.files.now c.args.tables.now c.args.rows.now
    (has-no-writes c.args.files.now c.args.tables.now c.args.rows.now c.add_all.new.self (c.in_ok-add_all.ensures.ok c.args.files.now (has-none c.args.files.now c.in_ok-shown.shown c.in_ok-shown.ensures))))
