-- ROLLBACK. SQL Server: ROLLBACK TRANSACTION (Transact-SQL).
use Rattle.std.specs.Prelude.{◌≡◌}
use Rattle.bk_world.specs.declared.reply.Reply.TheVariants.{Done}
use Rattle.bk_world.specs.declared.rule.Rule.TheVariants.{NoTransaction}
use Rattle.bk_world.specs.Pending.{pending}
use Rattle.bk_world.specs.Says.{rollback_said}
use Rattle.bk_machine.specs.Acts.{Act, logged}
use Rattle.bk_machine.specs.Checks.{Checked, or_refuse}
use Rattle.bk_machine.specs.Outcome.{Outcome, in_one}
use Rattle.bk_machine.specs.World.{World, Held, log_of, own_held, without_begin}

unfoldable pub check_rollback : World → Checked Held
check_rollback w = or_refuse (own_held w) NoTransaction

-- the writes of the transaction are undone, its last one first, and it ends
abbrev pub rolls_back : World → Held → Act
rolls_back w held =
    logged held.database.name (rollback_said held.transaction.begin (pending (log_of w.history held.database))) (without_begin held.database.transactions held.transaction.begin)

abbrev pub DoesRollback : World → Held → Outcome → Type 0
DoesRollback w held outcome = outcome ≡ in_one (rolls_back w held) Done
