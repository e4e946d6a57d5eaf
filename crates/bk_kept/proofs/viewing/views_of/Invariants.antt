use Rattle.std.proofs.Common.{◌≡◌, take}
use Rattle.bk_kept.proofs.viewing.views_of.Given as goal

abbrev pub invariant-loop-database : goal.invariant-loop-database
invariant-loop-database l = l.views.items ≡ take l.database-index l.databases
