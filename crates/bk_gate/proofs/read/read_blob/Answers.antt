use Rattle.std.proofs.Common.{refl, arith}
use Rattle.bk_device.specs.Calls.{contents}
use Rattle.bk_gate.specs.BlobLaws.{short_blob}
use Rattle.bk_gate.proofs.Reading.{read_open, read_shut, read_long}
use Rattle.bk_gate.proofs.read.read_blob.Goals as goal
use Rattle.bk_gate.proofs.read.read_blob.Goals.{else-head-eq1-via-then-head-eq1+else-size-len, else-head-eq1-via-else-head-eq1}

pub returns-then-len-gate-lt9-clause-blob : goal.returns-then-len-gate-lt9-clause-blob
returns-then-len-gate-lt9-clause-blob g c t size = short_blob _ c.args.gate (omega (arith, size, c.if-len-gate-lt9.true, c.requires))

pub returns-then-size-len-clause-blob : goal.returns-then-size-len-clause-blob
returns-then-size-len-clause-blob g c t size =
    read_open (contents ((g.D.Device.disk c.args.dev.now).files c.args.name.now)) _ c.read.new.buf c.args.gate c.read_number-size.result refl (omega (arith, size, c.if-len-gate-lt9.false, c.requires)) (c.in_ok-read.ensures.bytes t) c.if-head-eq1.true c.read_number-size.ensures (omega (arith, size, c.if-len-gate-lt9.false, c.if-size-len.true, c.requires))

pub returns-else-head-eq1-clause-blob : goal.returns-else-head-eq1-clause-blob
returns-else-head-eq1-clause-blob g c t size =
    let file = contents ((g.D.Device.disk c.args.dev.now).files c.args.name.now) in
    elim c.else-head-eq1.branch [
      | else-head-eq1-via-then-head-eq1+else-size-len w ↦ read_long file _ c.read.new.buf c.args.gate c.read_number-size.result refl (omega (arith, size, c.if-len-gate-lt9.false, c.requires)) (c.in_ok-read.ensures.bytes t) c.read_number-size.ensures (omega (arith, size, c.if-len-gate-lt9.false, w.if-size-len.false, c.requires))
      | else-head-eq1-via-else-head-eq1 w ↦ read_shut file _ c.read.new.buf c.args.gate refl (omega (arith, size, c.if-len-gate-lt9.false, c.requires)) (c.in_ok-read.ensures.bytes t) w.if-head-eq1.false
    ]
