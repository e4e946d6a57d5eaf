use Rattle.std.proofs.Common.{◌∙◌, sym, ap}
use Rattle.bk_machine.specs.Checks.{table_named}
use Rattle.bk_kept.proofs.Tells.{first-table}
use Rattle.bk_kept.proofs.views.DatabaseView.table_named.Goals as goal

pub returns : goal.returns
returns c = λ w shows. c.first_table.ensures ∙ first-table c.args.name.now c.tables.result.now ∙ ap (λ ts. table_named ts c.args.name.now) (sym (c.tables.ensures w shows))
