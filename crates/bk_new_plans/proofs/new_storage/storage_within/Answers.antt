use Rattle.std.proofs.Common.{◌≡◌, List, sym, ◌∙◌, ap, subst}
use Rattle.std.specs.Prelude.{nat_lt}
use Rattle.std.proofs.lemmas.Result.{err_from_is_err_and}
use Rattle.bk_machine.specs.Checks.{refuse_if}
use Rattle.bk_machine.specs.Fits.{FitsStorage}
use Rattle.bk_machine.specs.statements.CreateDatabase.{new_files, new_groups, new_log_name, new_log_path}
use Rattle.bk_world.specs.declared.database.FileSpec.{FileSpec}
use Rattle.bk_world.specs.declared.rule.Limit.TheVariants as which
use Rattle.bk_world.specs.declared.rule.Rule.TheVariants.{LimitReached}
use Rattle.bk_plans.specs.Checking.{IsRefused}
use Rattle.bk_new_plans.proofs.Limits.{at-extents, at-files, at-groups, few-files, few-groups, few-made, made-new, small-files, within}
use Rattle.bk_new_plans.proofs.Fits.{storage-fits}
use Rattle.bk_new_plans.proofs.new_storage.storage_within.Goals as goal

pub returns-in_err-refuse_if-clause-check : goal.returns-in_err-refuse_if-clause-check
returns-in_err-refuse_if-clause-check c =
    let p = err_from_is_err_and c.from_residual.result c.from_residual.ensures.1 in
    rw (p.1, p.2) (at-files c.args.name.now c.args.primary.now c.args.groups.now c.args.log.now c.has_too_many_files.result c.has_too_many_files.ensures c.in_err-refuse_if.field-0.0 c.in_err-refuse_if.ensures.check)

pub returns-in_err-refuse_if-2-clause-check : goal.returns-in_err-refuse_if-2-clause-check
returns-in_err-refuse_if-2-clause-check c =
    let p = err_from_is_err_and c.from_residual-in_err-refuse_if-2.result c.from_residual-in_err-refuse_if-2.ensures.1 in
    rw (p.1, p.2) (at-groups c.args.name.now c.args.primary.now c.args.groups.now c.args.log.now c.has_too_many_files.result c.has_too_many_files.ensures c.in_ok-refuse_if.ensures.passes
    c.in_err-refuse_if-2.field-0.0 c.in_err-refuse_if-2.ensures.check)

pub extents_in-requires : goal.extents_in-requires
extents_in-requires c =
    few-made c.args.name.now c.args.primary.now c.args.groups.now c.args.log.now c.has_too_many_files.result c.has_too_many_files.ensures c.in_ok-refuse_if.ensures.passes c.in_ok-refuse_if-2.ensures.passes
    c.deref.result.now (c.deref.ensures.value ∙ c.in_ok-files.ensures)

pub returns-in_err-refuse_if-3-clause-check : goal.returns-in_err-refuse_if-3-clause-check
returns-in_err-refuse_if-3-clause-check c =
    let p = err_from_is_err_and c.from_residual-in_err-refuse_if-3.result c.from_residual-in_err-refuse_if-3.ensures.1 in
    rw (p.1, p.2) (at-extents c.args.name.now c.args.primary.now c.args.groups.now c.args.log.now c.has_too_many_files.result c.has_too_many_files.ensures c.in_ok-refuse_if.ensures.passes
    c.in_ok-refuse_if-2.ensures.passes c.deref.result.now (c.deref.ensures.value ∙ c.in_ok-files.ensures) c.in_err-refuse_if-3.field-0.0
    (subst (λ n. IsRefused c.in_err-refuse_if-3.field-0.0 (refuse_if (nat_lt 4096 n) (LimitReached which.Extents))) c.extents_in.ensures c.in_err-refuse_if-3.ensures.check))

pub returns-clause-check : goal.returns-clause-check
returns-clause-check c =
    within c.args.name.now c.args.primary.now c.args.groups.now c.args.log.now c.has_too_many_files.result c.has_too_many_files.ensures c.in_ok-refuse_if.ensures.passes c.in_ok-refuse_if-2.ensures.passes
    c.deref.result.now (c.deref.ensures.value ∙ c.in_ok-files.ensures) (ap (nat_lt 4096) (sym c.extents_in.ensures) ∙ c.in_ok-refuse_if-3.ensures.passes)

pub returns-clause-is : goal.returns-clause-is
returns-clause-is c =
    let own : c.deref.result.now ≡ new_files c.args.name.now c.args.primary.now c.args.groups.now =
    made-new c.args.name.now c.args.primary.now c.args.groups.now c.args.log.now c.has_too_many_files.result c.has_too_many_files.ensures c.in_ok-refuse_if.ensures.passes c.in_ok-refuse_if-2.ensures.passes
    c.deref.result.now (c.deref.ensures.value ∙ c.in_ok-files.ensures) (ap (nat_lt 4096) (sym c.extents_in.ensures) ∙ c.in_ok-refuse_if-3.ensures.passes) in
    c.in_ok-with_files.ensures
    ∙ ap (λ (fs : List FileSpec). record { groups = new_groups c.args.groups.now; files = fs; log_name = new_log_name c.args.name.now c.args.log.now; log_path = new_log_path c.args.name.now c.args.log.now })
    (sym c.deref.ensures.value ∙ own)

pub returns-clause-fits : goal.returns-clause-fits
returns-clause-fits c = subst FitsStorage (sym (returns-clause-is c))
    (storage-fits c.args.name.now c.args.primary.now c.args.groups.now c.args.log.now c.requires
    (few-files c.args.name.now c.args.primary.now c.args.groups.now c.args.log.now c.has_too_many_files.result c.has_too_many_files.ensures c.in_ok-refuse_if.ensures.passes)
    (few-groups c.args.name.now c.args.primary.now c.args.groups.now c.args.log.now c.has_too_many_files.result c.has_too_many_files.ensures c.in_ok-refuse_if.ensures.passes c.in_ok-refuse_if-2.ensures.passes
    c.deref.result.now (c.deref.ensures.value ∙ c.in_ok-files.ensures))
    (small-files c.args.name.now c.args.primary.now c.args.groups.now c.args.log.now c.has_too_many_files.result c.has_too_many_files.ensures c.in_ok-refuse_if.ensures.passes c.in_ok-refuse_if-2.ensures.passes
    c.deref.result.now (c.deref.ensures.value ∙ c.in_ok-files.ensures) (ap (nat_lt 4096) (sym c.extents_in.ensures) ∙ c.in_ok-refuse_if-3.ensures.passes)))
