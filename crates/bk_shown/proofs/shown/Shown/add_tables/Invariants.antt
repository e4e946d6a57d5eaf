use Rattle.std.proofs.Common.{List, [], take}
use Rattle.bk_world.specs.declared.database.FileSpec.{FileSpec}
use Rattle.bk_shown.specs.Steps.{HasRows}
use Rattle.bk_shown.proofs.shown.Shown.add_tables.Given as goal

abbrev pub invariant-loop-table : goal.invariant-loop-table
invariant-loop-table l = (files : List FileSpec) → HasRows files [] [] l.initial.self → HasRows files (take l.table-index l.tables) [] l.self
