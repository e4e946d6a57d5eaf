use Rattle.std.proofs.Common.{rules}
use Rattle.bk_msdb.proofs.Steps.{begun_ready}
use Rattle.bk_msdb.proofs.adding.open_file.Goals as goal

pub returns-in_ok-gate-in-Err-Foreign-clause-ready : goal.returns-in_ok-gate-in-Err-Foreign-clause-ready
returns-in_ok-gate-in-Err-Foreign-clause-ready g c t durable =
    begun_ready c.in_ok-gate-in-Err-Foreign.gate c.in_ok-gate-in-Err-Foreign.ensures.name c.in_ok-gate-in-Err-Foreign.ensures.opened (c.load.ensures.effect t) durable (c.in-Err-Foreign.ensures.foreign t (search rules))
