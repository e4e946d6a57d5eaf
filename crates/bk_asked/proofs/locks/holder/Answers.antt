use Rattle.std.proofs.Common.{◌≡◌, ◌∙◌, None, Some, not, ap, subst, rules}
use Rattle.std.specs.Prelude.{◌==◌, ◌&&◌}
use Rattle.std.specs.List.{find}
use Rattle.std.specs.Option.{option_map}
use Rattle.bk_kept.specs.declared.kept.Database.{Database as KeptDatabase}
use Rattle.bk_kept.specs.declared.kept.Kept.{Kept}
use Rattle.bk_asked.proofs.Locking.{IsFirst, holder-none, holder-is}
use Rattle.bk_asked.proofs.locks.holder.Goals as goal

pub returns-in_err-begin : goal.returns-in_err-begin
returns-in_err-begin c = λ w sees shows.
    let none : c.from_residual.result ≡ None = search rules in
    let gone : c.holder.result ≡ None = search rules in
    let first : IsFirst w c.args.kept.now c.args.database.now (c.args.table.now.number, c.args.key) c.holder.result =
    subst (λ (d : KeptDatabase). IsFirst w c.args.kept.now d (c.args.table.now.number, c.args.key) c.holder.result) c.database.view_is (c.holder.ensures.holder c.database.inside.files.now, c.holder.ensures.alone c.database.inside.files.now) in
    ap (option_map (λ t. t.now)) none
    ∙ holder-none w c.args.kept.now c.args.database.now (c.args.table.now.number, c.args.key) (subst (IsFirst w c.args.kept.now c.args.database.now (c.args.table.now.number, c.args.key)) gone first) sees shows

pub returns : goal.returns
returns c = λ w sees shows.
    let there : c.holder.result ≡ Some c.in_ok-begin.begin = search rules in
    let first : IsFirst w c.args.kept.now c.args.database.now (c.args.table.now.number, c.args.key) c.holder.result =
    subst (λ (d : KeptDatabase). IsFirst w c.args.kept.now d (c.args.table.now.number, c.args.key) c.holder.result) c.database.view_is (c.holder.ensures.holder c.database.inside.files.now, c.holder.ensures.alone c.database.inside.files.now) in
    holder-is w c.args.kept.now c.args.database.now (c.args.table.now.number, c.args.key) c.in_ok-begin.begin (option_map (λ t. t.now) c.of_another.result)
    (subst (IsFirst w c.args.kept.now c.args.database.now (c.args.table.now.number, c.args.key)) there first)
    (subst (λ (k : Kept). option_map (λ t. t.now) c.of_another.result ≡ find (λ t. not (t.session == k.session) && t.begin == c.in_ok-begin.begin) c.args.database.now.transactions) c.kept.view_is
    (c.of_another.ensures ∙ ap (find (λ t. not (t.session == c.kept.inside.session) && t.begin == c.in_ok-begin.begin)) (c.as_slice.ensures ∙ ap (λ (d : KeptDatabase). d.transactions) c.database.view_is))) sees shows
