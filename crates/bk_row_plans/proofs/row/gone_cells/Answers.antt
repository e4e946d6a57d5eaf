use Rattle.std.proofs.Common.{ℕ, List, Some, refl, ap, subst, ◌∙◌}
use Rattle.bk_shown.specs.Values.{IsValue}
use Rattle.bk_undo.specs.Spelled.{image}
use Rattle.bk_row_plans.proofs.row.gone_cells.Goals as goal

pub returns-clause-are : goal.returns-clause-are
returns-clause-are c = record {
  old_is = c.row_image.ensures.image ∙ ap (λ (v : List ℕ). image c.args.table c.args.key (Some v)) c.as_str.ensures.bytes;
  new_is = c.free_image.ensures.image c.args.table c.args.key;
  fits = record { table_fits = c.ranges.table.fits; key_fits = c.requires; before_fits = subst (λ (v : List ℕ). IsValue (Some v)) c.as_str.ensures.bytes c.row_image.ensures.fits; value_fits = tt; there = refl };
}
