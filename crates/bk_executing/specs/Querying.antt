-- What is answered where a medium is asked of.
-- SQL Server: RESTORE HEADERONLY, RESTORE FILELISTONLY, RESTORE VERIFYONLY (Transact-SQL).
use Rattle.std.specs.Prelude.{Ok, Err}
use Rattle.bk_machine.specs.Checks.{Checked}
use Rattle.bk_world.specs.declared.reply.Reply.{Reply}
use Rattle.bk_world.specs.declared.reply.Reply.TheVariants.{Refused}

-- what checks that found a reply come to: that reply, or the refusal by the first rule that is broken
abbrev pub replied : Checked Reply → Reply
replied (Ok answer) = answer
replied (Err rule) = Refused rule
