-- What is answered where system rows are selected.
-- SQL Server: backupset, restorehistory, logmarkhistory (Transact-SQL).
use Rattle.std.specs.Prelude.{Ok, Err}
use Rattle.bk_machine.specs.Checks.{Checked}
use Rattle.bk_world.specs.declared.reply.Listing.{Listing}
use Rattle.bk_world.specs.declared.reply.Reply.{Reply}
use Rattle.bk_world.specs.declared.reply.Reply.TheVariants.{Listed, Refused}

-- what checks that found rows come to: the rows, or the refusal by the first rule that is broken
abbrev pub listed : Checked Listing → Reply
listed (Ok listing) = Listed listing
listed (Err rule) = Refused rule
