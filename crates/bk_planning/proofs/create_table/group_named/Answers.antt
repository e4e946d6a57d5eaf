use Rattle.std.proofs.Common.{◌∙◌, ap, sym}
use Rattle.bk_planning.proofs.PlannedCreateTable.{among-first, first_of, first-kept, first-left}
use Rattle.bk_planning.proofs.create_table.group_named.Goals as goal

pub returns-in_err-at : goal.returns-in_err-at
returns-in_err-at c = c.from_residual.ensures ∙ ap (first_of 8) c.in_err-at.ensures ∙ sym (among-first 8 c.args.groups.now c.args.name.now)

pub returns-then-at-lt-MOST_GROUPS : goal.returns-then-at-lt-MOST_GROUPS
returns-then-at-lt-MOST_GROUPS c = first-kept c.in_ok-at.at c.if-at-lt-MOST_GROUPS.true ∙ ap (first_of 8) c.in_ok-at.ensures ∙ sym (among-first 8 c.args.groups.now c.args.name.now)

pub returns-else-at-lt-MOST_GROUPS : goal.returns-else-at-lt-MOST_GROUPS
returns-else-at-lt-MOST_GROUPS c = first-left c.in_ok-at.at c.if-at-lt-MOST_GROUPS.false ∙ ap (first_of 8) c.in_ok-at.ensures ∙ sym (among-first 8 c.args.groups.now c.args.name.now)
