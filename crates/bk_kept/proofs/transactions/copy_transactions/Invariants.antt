use Rattle.std.proofs.Common.{◌≡◌, take}
use Rattle.bk_kept.proofs.transactions.copy_transactions.Given as goal

abbrev pub invariant-loop-transaction : goal.invariant-loop-transaction
invariant-loop-transaction l = l.copy.items ≡ take l.transaction-index l.transactions
