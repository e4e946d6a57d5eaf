use Rattle.std.proofs.Common.{◌≡◌, ◌*◌, ◌-◌, ◌+◌, ◌%◌, ◌∙◌, length, take, refl, ap, arith, rules}
use Rattle.std.proofs.lemmas.List.{length-take}
use Rattle.bk_device.specs.Calls.{contents}
use Rattle.bk_device.specs.Laws.{nothing_yet, nothing_then}
use Rattle.bk_volume.proofs.Digests.{hashed_more}
use Rattle.bk_volume.proofs.digest.digest_of.Goals as goal

pub pieces-init : goal.pieces-init
pieces-init g c = record {
  size = c.requires.size;
  hashed = λ t. c.new-hasher.ensures;
  source = λ t. refl;
  effect = λ t. nothing_yet (g.D.Device.disk c.args.dev.now);
  cause = search rules;
}

pub pieces-preserved : goal.pieces-preserved
pieces-preserved g c = record {
  size = c.hash_piece.ensures.size ∙ c.pieces.invariant.size;
  hashed = λ t.
      hashed_more c.hash_piece.new.hasher (contents ((g.D.Device.disk c.args.dev.now).files c.args.from.now)) (contents ((g.D.Device.disk c.pieces.dev).files c.args.from.now)) c.args.at (1048576 * c.pieces.i) (length c.pieces.buffer)
      (c.args.at + 1048576 * c.pieces.i) (1048576 * (c.pieces.i + 1)) (c.pieces.invariant.source t) refl (omega (arith, c.pieces.invariant.size)) (c.in_ok-hash_piece.ensures.hashed t _ (c.pieces.invariant.hashed t));
  source = λ t. ap contents ((c.hash_piece.ensures.effect t).files c.args.from.now) ∙ c.pieces.invariant.source t;
  effect = λ t. nothing_then (g.met.D.Device.lawful t c.args.dev.now) (c.pieces.invariant.effect t) (c.hash_piece.ensures.effect t);
  cause = search rules;
}

pub returns-clause-digest : goal.returns-clause-digest
returns-clause-digest g c t =
    let rest : length (take (c.args.len % 1048576) c.pieces.buffer) ≡ c.args.len % 1048576 = simp length-take (omega (arith, c.pieces.invariant.size)) in
    let pieces : c.args.len ≡ 1048576 * c.pieces.i + c.args.len % 1048576 = omega (arith, c.pieces-test.false, c.pieces.auto.i-end) in
    c.finalize.ensures _ (hashed_more c.hash_piece-2.new.hasher (contents ((g.D.Device.disk c.args.dev.now).files c.args.from.now)) (contents ((g.D.Device.disk c.pieces.dev).files c.args.from.now)) c.args.at (1048576 * c.pieces.i) (length (take (c.args.len % 1048576) c.pieces.buffer))
    (c.args.at + (c.args.len - c.args.len % 1048576)) c.args.len (c.pieces.invariant.source t) (omega (arith, pieces)) (omega (arith, pieces, rest)) (c.in_ok-hash_piece-2.ensures.hashed t _ (c.pieces.invariant.hashed t)))

pub returns-in_err-hash_piece-2-clause-effect : goal.returns-in_err-hash_piece-2-clause-effect
returns-in_err-hash_piece-2-clause-effect g c t = nothing_then (g.met.D.Device.lawful t c.args.dev.now) (c.pieces.invariant.effect t) (c.hash_piece-2.ensures.effect t)

pub returns-in_err-hash_piece-clause-effect : goal.returns-in_err-hash_piece-clause-effect
returns-in_err-hash_piece-clause-effect g c t = nothing_then (g.met.D.Device.lawful t c.args.dev.now) (c.pieces.invariant.effect t) (c.hash_piece.ensures.effect t)

pub returns-clause-effect : goal.returns-clause-effect
returns-clause-effect g c t = nothing_then (g.met.D.Device.lawful t c.args.dev.now) (c.pieces.invariant.effect t) (c.hash_piece-2.ensures.effect t)
