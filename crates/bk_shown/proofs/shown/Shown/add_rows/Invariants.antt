use Rattle.std.proofs.Common.{List, [], take}
use Rattle.bk_world.specs.declared.database.FileSpec.{FileSpec}
use Rattle.bk_world.specs.declared.database.TableSpec.{TableSpec}
use Rattle.bk_shown.specs.Steps.{HasRows}
use Rattle.bk_shown.proofs.shown.Shown.add_rows.Given as goal

abbrev pub invariant-loop-row : goal.invariant-loop-row
invariant-loop-row l = (files : List FileSpec) (made : List TableSpec) → HasRows files made [] l.initial.self → HasRows files made (take l.row-index l.rows) l.self
