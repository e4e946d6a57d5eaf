use Rattle.std.proofs.Common.{Some, ap, sym, ◌∙◌}
use Rattle.bk_items.specs.declared.item.Catalog.{Catalog}
use Rattle.bk_machine.specs.statements.Catalog.{rows_of}
use Rattle.bk_world.specs.declared.reply.Listing.TheVariants.{Backups, Restores, Marks}
use Rattle.bk_executing.proofs.Catalogued.{backups-are, marks-are, restores-are}
use Rattle.bk_executing.proofs.listing.listing_of.Goals as goal

pub returns-in-BackupSet : goal.returns-in-BackupSet
returns-in-BackupSet c = λ w same. ap (λ rows. Some (Backups rows)) (c.into_backups.ensures ∙ backups-are w c.args.tables same) ∙ ap (λ (k : Catalog). rows_of w k) (sym c.in-BackupSet.is)

pub returns-in-RestoreHistory : goal.returns-in-RestoreHistory
returns-in-RestoreHistory c = λ w same. ap (λ rows. Some (Restores rows)) (c.into_restores.ensures ∙ restores-are w c.args.tables same) ∙ ap (λ (k : Catalog). rows_of w k) (sym c.in-RestoreHistory.is)

pub returns-in-LogMarkHistory : goal.returns-in-LogMarkHistory
returns-in-LogMarkHistory c = λ w same. ap (λ rows. Some (Marks rows)) (c.into_marks.ensures ∙ marks-are w c.args.tables same) ∙ ap (λ (k : Catalog). rows_of w k) (sym c.in-LogMarkHistory.is)
