use Rattle.std.proofs.Common.{◌≡◌, ◌+◌, ◌-◌, ℕ, take, drop, sym, ap, ◌∙◌, arith}
use Rattle.bk_lemmas.specs.Numbers.{number}
use Rattle.bk_gate.specs.BlobLaws.{is_blob, no_blob, short_blob, long_blob}
use Rattle.bk_gate.proofs.whole.size_behind.Goals as goal
use Rattle.bk_gate.proofs.whole.size_behind.Goals.{else-file-gate-eq1-via-then-file-gate-eq1+else-size-file, else-file-gate-eq1-via-else-file-gate-eq1}

pub returns-then-file-gate-lt9-clause-size : goal.returns-then-file-gate-lt9-clause-size
returns-then-file-gate-lt9-clause-size c = short_blob c.args.file.now c.args.gate (omega (arith, c.if-file-gate-lt9.true, c.requires))

pub returns-then-size-file-clause-size : goal.returns-then-size-file-clause-size
returns-then-size-file-clause-size c =
    let eight : c.args.gate + 9 - (c.args.gate + 1) ≡ 8 = omega arith in
    is_blob c.args.file.now c.args.gate c.read_number-size.result c.if-file-gate-eq1.true
    (sym (c.read_number-size.ensures ∙ ap (λ (n : ℕ). number (take n (drop (c.args.gate + 1) c.args.file.now))) eight))
    (omega (arith, c.if-size-file.true, c.if-file-gate-lt9.false, c.requires))

pub returns-else-file-gate-eq1-clause-size : goal.returns-else-file-gate-eq1-clause-size
returns-else-file-gate-eq1-clause-size c =
    let eight : c.args.gate + 9 - (c.args.gate + 1) ≡ 8 = omega arith in
    elim c.else-file-gate-eq1.branch [
      | else-file-gate-eq1-via-then-file-gate-eq1+else-size-file w ↦ long_blob c.args.file.now c.args.gate c.read_number-size.result (sym (c.read_number-size.ensures ∙ ap (λ (n : ℕ). number (take n (drop (c.args.gate + 1) c.args.file.now))) eight)) (omega (arith, w.if-size-file.false, c.if-file-gate-lt9.false, c.requires))
      | else-file-gate-eq1-via-else-file-gate-eq1 w ↦ no_blob c.args.file.now c.args.gate w.if-file-gate-eq1.false
    ]
