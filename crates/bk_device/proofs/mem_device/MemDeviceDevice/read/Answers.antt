-- The call that was counted does nothing.
use Rattle.std.proofs.Common.{Option, List, ℕ, length, ap, ◌∙◌}
use Rattle.bk_device.specs.Calls.{contents, read_at, filled}
use Rattle.bk_device.specs.Replayed.{still_then, nothing_done, files_still}
use Rattle.bk_device.proofs.mem_device.MemDeviceDevice.read.Goals as goal

pub returns-then-next_call-clause-effect : goal.returns-then-next_call-clause-effect
returns-then-next_call-clause-effect c = nothing_done _ _ (still_then c.next_call.ensures.still c.disk_fault.ensures.still)

pub returns-clause-bytes : goal.returns-clause-bytes
returns-clause-bytes c =
    c.read_file.ensures.bytes
    ∙ ap (λ (file : Option (List ℕ)). filled c.args.buf.now (read_at (contents file) c.args.at (length c.args.buf.now))) (files_still c.next_call.ensures.still c.args.name.now)

pub returns-clause-effect : goal.returns-clause-effect
returns-clause-effect c = nothing_done _ _ c.next_call.ensures.still
