use Rattle.std.proofs.lemmas.Result.{IfOk-weaker}
use Rattle.std.proofs.Common.{◌+◌, ◌≤◌, ℕ, List, length, Some, sym, ap, subst, ◌∙◌}
use Rattle.bk_device.specs.Calls.{contents, read_at}
use Rattle.bk_gate.specs.Laws.{span_inside, blob_there}
use Rattle.bk_gate.proofs.gate.Gate.read.Goals as goal

pub read_span-requires : goal.read_span-requires
read_span-requires g c t =
    let Inside : List ℕ → Type 0 = λ n. c.span-at.result.0 + c.span-at.result.1 ≤ length (contents ((g.D.Device.disk c.args.dev.now).files n)) in
    subst Inside (sym c.name.ensures) (span_inside (contents ((g.D.Device.disk c.args.dev.now).files c.args.self.now.name)) c.args.self.now.spans c.args.i c.span-at.result (c.requires.spans t) c.span-at.ensures.span)

pub returns-clause-bytes : goal.returns-clause-bytes
returns-clause-bytes g c t =
    let At : List ℕ → List ℕ = λ n. read_at (contents ((g.D.Device.disk c.args.dev.now).files n)) c.span-at.result.0 c.span-at.result.1 in
    IfOk-weaker c.read_span.result _ _ (λ b read. blob_there (contents ((g.D.Device.disk c.args.dev.now).files c.args.self.now.name)) c.args.self.now.spans c.args.i c.span-at.result (c.requires.gate_file t) (c.requires.spans t) c.span-at.ensures.span ∙ ap (λ (b : List ℕ). Some b) (ap At (sym c.name.ensures) ∙ sym read)) (c.read_span.ensures.bytes t)
