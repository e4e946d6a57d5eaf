use Rattle.bk_volume.proofs.Opened.{span_opens, span_in}
use Rattle.bk_volume.proofs.medium.reading.open_span.Goals as goal

pub open_blob-requires-clause-inside : goal.open_blob-requires-clause-inside
open_blob-requires-clause-inside g c t =
    span_in (g.D.Device.disk c.args.dev.now).files c.args.gate.now.name c.name.result.now c.args.gate.now.spans c.span-at.result c.args.i c.name.ensures (c.requires.spans t) c.span-at.ensures.span

pub returns-clause-answer : goal.returns-clause-answer
returns-clause-answer g c t = λ blob there.
    span_opens (g.D.Device.disk c.args.dev.now).files c.args.gate.now.name c.name.result.now blob c.args.gate.now.spans c.span-at.result c.args.i c.open_blob.result c.name.ensures (c.requires.gate_file t) (c.requires.spans t) c.span-at.ensures.span there
    (c.open_blob.ensures.answer t)
