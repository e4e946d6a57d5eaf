use Rattle.std.proofs.Common.{List, [], ◌∷◌, ◌++◌, ℕ, refl, sym, ap, ◌∙◌, arith}
use Rattle.std.proofs.lemmas.List.{append-nil}
use Rattle.bk_gate.specs.Laws.{up_to_none, up_to_more, up_to_end}
use Rattle.bk_segments.specs.Records.{joined}
use Rattle.bk_segments.proofs.Joined.{joined_more}
use Rattle.bk_segments.proofs.reading.add_blobs.Goals as goal

pub blobs-init : goal.blobs-init
blobs-init c = record { inside = c.requires; added = ([], up_to_none c.args.file.now, sym (append-nil c.args.out.now.items)) }

pub blobs-preserved : goal.blobs-preserved
blobs-preserved c =
    let so_far = c.blobs.invariant.added in
    let blob : List ℕ = c.in-Some.blob.now in
    record {
      inside = omega (arith, c.in-Some.ensures.inside);
      added = (so_far.0 ++ blob ∷ [], up_to_more c.args.file.now c.blobs.gate so_far.0 blob so_far.1 c.in-Some.ensures.some c.in-Some.ensures.bytes, joined_more so_far.0 c.args.out.now.items c.blobs.out.items blob c.extend_from_slice.new.self.items so_far.2 c.in_ok-extend_from_slice.ensures.items);
    }

pub returns : goal.returns
returns c is_gate =
    let so_far = c.blobs.invariant.added in
    so_far.2 ∙ ap (λ (bs : List (List ℕ)). c.args.out.now.items ++ joined bs) (sym (up_to_end c.args.file.now c.blobs.gate so_far.0 is_gate c.blobs.invariant.inside so_far.1 (c.in_default.ensures.none refl)))
