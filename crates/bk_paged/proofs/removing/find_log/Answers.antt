use Rattle.std.proofs.Common.{rules, ◌∙◌}
use Rattle.bk_device.specs.Laws.{durable_by_nothing}
use Rattle.bk_segments.specs.Files.{control_file}
use Rattle.bk_paged.proofs.Removed.{control_stands, named_files, names_moved, settling_names, still_names}
use Rattle.bk_paged.proofs.removing.find_log.Goals as goal

pub returns-in_err-settle-clause-crash : goal.returns-in_err-settle-clause-crash
returns-in_err-settle-clause-crash g c t durable = settling_names c.args.db (g.D.Device.disk c.args.dev.now) (g.D.Device.disk c.settle.new.dev) durable (c.settle.ensures.crash t)

pub returns-in-Ok-clause-found : goal.returns-in-Ok-clause-found
returns-in-Ok-clause-found g c t files names = named_files c.args.db files (g.D.Device.disk c.settle.new.dev).files c.in-Ok.log (c.in-Ok.ensures.loaded t) (names_moved c.args.db files (c.in_ok-settle.ensures.effect t) names)

pub returns-in-Ok-clause-control : goal.returns-in-Ok-clause-control
returns-in-Ok-clause-control g c t = control_stands c.args.db (g.D.Device.disk c.load.new.dev) c.in-Ok.log c.in-Ok.ensures.db (c.in-Ok.ensures.stands t (c.in_ok-settle.ensures.settled t))

pub returns-in-Ok-clause-crash : goal.returns-in-Ok-clause-crash
returns-in-Ok-clause-crash g c t durable = still_names c.args.db (g.met.D.Device.lawful t c.args.dev.now) (c.in_ok-settle.ensures.effect t) durable (c.load.ensures.crash t)

pub returns-in-Err-Foreign-clause-found : goal.returns-in-Err-Foreign-clause-found
returns-in-Err-Foreign-clause-found g c t files names = let there = names_moved c.args.db files (c.in_ok-settle.ensures.effect t) names in c.in-Err-Foreign.ensures.foreign t (search rules) there.log there.log_is

pub returns-in-Err-Foreign-clause-control : goal.returns-in-Err-Foreign-clause-control
returns-in-Err-Foreign-clause-control g c t = durable_by_nothing (control_file c.args.db) (c.in-Err-Foreign.ensures.still t (search rules)) (c.in_ok-settle.ensures.settled t).control

pub returns-in-Err-Foreign-clause-crash : goal.returns-in-Err-Foreign-clause-crash
returns-in-Err-Foreign-clause-crash g c t durable = still_names c.args.db (g.met.D.Device.lawful t c.args.dev.now) (c.in_ok-settle.ensures.effect t) durable (c.load.ensures.crash t)

pub returns-in-Err-Fault-clause-crash : goal.returns-in-Err-Fault-clause-crash
returns-in-Err-Fault-clause-crash g c t durable = still_names c.args.db (g.met.D.Device.lawful t c.args.dev.now) (c.in_ok-settle.ensures.effect t) durable (c.load.ensures.crash t)

pub returns-in-Err-NoMemory-clause-crash : goal.returns-in-Err-NoMemory-clause-crash
returns-in-Err-NoMemory-clause-crash g c t durable = still_names c.args.db (g.met.D.Device.lawful t c.args.dev.now) (c.in_ok-settle.ensures.effect t) durable (c.load.ensures.crash t)

pub returns-in-Ok-clause-same : goal.returns-in-Ok-clause-same
returns-in-Ok-clause-same g c t = c.in-Ok.ensures.control t ∙ (c.in_ok-settle.ensures.effect t).files (control_file c.args.db)

pub returns-in-Err-Foreign-clause-same : goal.returns-in-Err-Foreign-clause-same
returns-in-Err-Foreign-clause-same g c t = (c.in-Err-Foreign.ensures.still t (search rules)).files (control_file c.args.db) ∙ (c.in_ok-settle.ensures.effect t).files (control_file c.args.db)
