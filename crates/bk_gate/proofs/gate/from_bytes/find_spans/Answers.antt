use Rattle.std.proofs.Common.{◌+◌, ℕ, length, refl, arith}
use Rattle.bk_gate.proofs.Gates.{within_pushed}
use Rattle.bk_gate.proofs.Reading.{read_more}
use Rattle.bk_gate.proofs.gate.from_bytes.find_spans.Goals as goal

pub blobs-preserved : goal.blobs-preserved
blobs-preserved c =
    let gate : ℕ = c.blobs.gate in
    let size : ℕ = length c.in-Some.blob.now in
    record {
      inside = omega (arith, c.in-Some.ensures.inside);
      lies = read_more c.args.file.now c.args.file.now gate size _ _ refl c.blobs.invariant.lies c.in-Some.ensures.some c.in_ok-push.ensures.items;
      within = within_pushed gate (gate + (9 + size)) _ _ (gate + 9, size) (omega arith) (omega arith) c.in_ok-push.ensures.items c.blobs.invariant.within;
    }
