use Rattle.std.proofs.lemmas.Result.{on_ok_weaker}
use Rattle.std.proofs.Common.{rules}
use Rattle.bk_msdb.proofs.writing.append_restore.Goals as goal

pub returns-clause-fits : goal.returns-clause-fits
returns-clause-fits c =
    on_ok_weaker c.append_ending.result (λ stop. record { time = search rules; database = c.in_ok-append_name.ensures.fits; set = c.in_ok-append_set.ensures.fits; stop = stop }) c.append_ending.ensures.fits
