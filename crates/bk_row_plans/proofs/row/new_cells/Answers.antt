use Rattle.std.proofs.Common.{ℕ, List, Some, refl, ap, subst, ◌∙◌}
use Rattle.bk_shown.specs.Values.{IsValue}
use Rattle.bk_undo.specs.Spelled.{image}
use Rattle.bk_row_plans.proofs.row.new_cells.Goals as goal

pub returns-clause-are : goal.returns-clause-are
returns-clause-are c = record {
  old_is = c.free_image.ensures.image c.args.table c.args.key;
  new_is = c.row_image.ensures.image ∙ ap (λ (v : List ℕ). image c.args.table c.args.key (Some v)) c.as_str.ensures;
  fits = record { table_fits = c.ranges.table.fits; key_fits = c.requires.low; before_fits = tt; value_fits = subst (λ (v : List ℕ). IsValue (Some v)) c.as_str.ensures c.row_image.ensures.fits; there = refl };
}
