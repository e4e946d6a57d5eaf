-- SELECT of the tables of msdb. SQL Server: backupset, restorehistory, logmarkhistory (Transact-SQL).
use Rattle.std.specs.Prelude.{◌≡◌, ℕ, Option, Some, None}
use Rattle.bk_items.specs.declared.item.Catalog.{Catalog}
use Rattle.bk_items.specs.declared.item.Catalog.TheVariants.{BackupSet, RestoreHistory, LogMarkHistory, Databases}
use Rattle.bk_world.specs.declared.reply.Listing.{Listing}
use Rattle.bk_world.specs.declared.reply.Listing.TheVariants.{Backups, Restores, Marks}
use Rattle.bk_world.specs.declared.reply.Reply.TheVariants.{Listed}
use Rattle.bk_world.specs.declared.rule.Rule.TheVariants.{NotBuilt}
use Rattle.bk_machine.specs.Checks.{Checked, or_refuse}
use Rattle.bk_machine.specs.Outcome.{Outcome, answered}
use Rattle.bk_machine.specs.World.{World}

-- the rows of a table; that of the databases isn't built yet
abbrev pub rows_of : World → Catalog → Option Listing
rows_of w BackupSet = Some (Backups w.backups)
rows_of w RestoreHistory = Some (Restores w.restores)
rows_of w LogMarkHistory = Some (Marks w.marks)
rows_of w Databases = None

unfoldable pub check_catalog : World → ℕ → Catalog → Checked Listing
check_catalog w line catalog = or_refuse (rows_of w catalog) (NotBuilt line)

abbrev pub DoesSelectCatalog : Listing → Outcome → Type 0
DoesSelectCatalog listing outcome = outcome ≡ answered (Listed listing)
