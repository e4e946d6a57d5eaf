use Rattle.std.proofs.lemmas.Result.{on_ok_weaker}
use Rattle.std.proofs.Common.{◌≡◌, ◌*◌, ◌-◌, ◌+◌, ◌%◌, ◌∙◌, length, take, refl, ap, arith, rules}
use Rattle.std.proofs.lemmas.List.{length-take}
use Rattle.bk_gate.specs.Gate.{Kept}
use Rattle.bk_volume.proofs.Copying.{copying_none, copying_more, gate_same}
use Rattle.bk_volume.proofs.piece.copy_part.Goals as goal

pub pieces-init : goal.pieces-init
pieces-init g c = record {
  fit = c.requires.fit;
  begun = c.requires.begun;
  same = refl;
  size = c.requires.size;
  copied = λ t. copying_none c.args.from.now c.args.at c.args.gate.now c.args.hasher.now (g.D.Device.disk c.args.dev.now) (c.requires.stands t) (c.requires.hashed t);
  cause = search rules;
}

pub pieces-preserved : goal.pieces-preserved
pieces-preserved g c = record {
  fit = c.in_ok-copy_piece.ensures.fit;
  begun = c.in_ok-copy_piece.ensures.begun;
  same = gate_same c.args.gate.now c.pieces.gate c.copy_piece.new.gate c.pieces.invariant.same c.in_ok-copy_piece.ensures.same;
  size = c.copy_piece.ensures.size ∙ c.pieces.invariant.size;
  copied = λ t.
      copying_more c.args.from.now c.args.at (1048576 * c.pieces.i) (length c.pieces.buffer) (c.args.at + 1048576 * c.pieces.i) (1048576 * (c.pieces.i + 1)) c.args.gate.now c.pieces.gate c.copy_piece.new.gate c.pieces.hasher c.copy_piece.new.hasher
      (ap (λ (k : Kept). k.name) c.pieces.invariant.same) refl (omega (arith, c.pieces.invariant.size)) (c.pieces.invariant.copied t) (c.in_ok-copy_piece.ensures.copied t) (c.copy_piece.ensures.crash t);
  cause = search rules;
}

pub returns-clause-copied : goal.returns-clause-copied
returns-clause-copied g c t =
    let rest : length (take (c.args.len % 1048576) c.pieces.buffer) ≡ c.args.len % 1048576 = simp length-take (omega (arith, c.pieces.invariant.size)) in
    let pieces : c.args.len ≡ 1048576 * c.pieces.i + c.args.len % 1048576 = omega (arith, c.pieces-test.false, c.pieces.auto.i-end) in
    on_ok_weaker c.copy_piece-2.result (λ copied. (copying_more c.args.from.now c.args.at (1048576 * c.pieces.i) (length (take (c.args.len % 1048576) c.pieces.buffer)) (c.args.at + (c.args.len - c.args.len % 1048576)) c.args.len c.args.gate.now c.pieces.gate c.copy_piece-2.new.gate
    c.pieces.hasher c.copy_piece-2.new.hasher (ap (λ (k : Kept). k.name) c.pieces.invariant.same) (omega (arith, pieces)) (omega (arith, pieces, rest)) (c.pieces.invariant.copied t) copied
    (c.copy_piece-2.ensures.crash t)).copies) (c.copy_piece-2.ensures.copied t)

pub returns-clause-same : goal.returns-clause-same
returns-clause-same g c = on_ok_weaker c.copy_piece-2.result (gate_same c.args.gate.now c.pieces.gate c.copy_piece-2.new.gate c.pieces.invariant.same) c.copy_piece-2.ensures.same
