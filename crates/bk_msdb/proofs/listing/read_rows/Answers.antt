use Rattle.std.proofs.Common.{rules, ◌∙◌, sym}
use Rattle.bk_device.specs.Laws.{nothing_then}
use Rattle.bk_msdb.specs.Laws.{foreign_shown}
use Rattle.bk_msdb.specs.Msdb.{msdb_file}
use Rattle.bk_msdb.proofs.Steps.{gate_there, spans_there}
use Rattle.bk_msdb.proofs.listing.read_rows.Goals as goal

pub read_tables-requires-clause-spans : goal.read_tables-requires-clause-spans
read_tables-requires-clause-spans g c t = spans_there c.in-Ok.gate msdb_file c.in-Ok.ensures.name (c.load.ensures.effect t) (c.in-Ok.ensures.spans t)

pub read_tables-requires-clause-gate_file : goal.read_tables-requires-clause-gate_file
read_tables-requires-clause-gate_file g c t = gate_there c.in-Ok.gate msdb_file c.in-Ok.ensures.name (c.load.ensures.effect t) (c.in-Ok.ensures.gate_file t)

pub returns-in-Ok-clause-effect : goal.returns-in-Ok-clause-effect
returns-in-Ok-clause-effect g c t = nothing_then (g.met.D.Device.lawful t c.args.dev.now) (c.load.ensures.effect t) (c.read_tables.ensures.effect t)

pub returns-in-Err-Foreign-clause-shows : goal.returns-in-Err-Foreign-clause-shows
returns-in-Err-Foreign-clause-shows g c t = foreign_shown ((g.D.Device.disk c.args.dev.now).files msdb_file) (c.in-Err-Foreign.ensures.foreign t (search rules)) ∙ sym c.new.ensures
