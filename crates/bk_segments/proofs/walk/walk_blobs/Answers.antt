use Rattle.std.proofs.Common.{List, [], ◌∷◌, ◌++◌, ℕ, refl, sym, subst, arith}
use Rattle.bk_gate.specs.Laws.{up_to_none, up_to_more, up_to_next, up_to_end}
use Rattle.bk_segments.specs.Records.{IsRun}
use Rattle.bk_segments.specs.RunLaws.{run_none, run_more, run_stuck}
use Rattle.bk_segments.proofs.walk.walk_blobs.Goals as goal

pub blobs-init : goal.blobs-init
blobs-init c = record { inside = c.requires; run = ([], up_to_none c.args.file.now, run_none c.args.from) }

pub blobs-preserved : goal.blobs-preserved
blobs-preserved c =
    let so_far = c.blobs.invariant.run in
    let blob : List ℕ = c.in-Some.blob.now in
    record {
      inside = omega (arith, c.in-Some.ensures.inside);
      run = (so_far.0 ++ blob ∷ [], up_to_more c.args.file.now c.blobs.gate so_far.0 blob so_far.1 c.in-Some.ensures.some c.in-Some.ensures.bytes, run_more c.args.from c.blobs.at c.in_ok-at.at so_far.0 blob so_far.2 c.in_ok-at.ensures.part);
    }

pub returns-in_err-at-clause-none : goal.returns-in_err-at-clause-none
returns-in_err-at-clause-none c is_gate none to run small =
    let so_far = c.blobs.invariant.run in
    let blob : List ℕ = c.in-Some.blob.now in
    let next = up_to_next c.args.file.now c.blobs.gate so_far.0 blob is_gate so_far.1 c.in-Some.ensures.some c.in-Some.ensures.bytes in
    run_stuck c.args.from c.blobs.at to so_far.0 blob next.0 so_far.2 (c.in_err-at.ensures.none refl) (subst (λ (bs : List (List ℕ)). IsRun c.args.from bs to) next.1 run) small

pub returns-clause-run : goal.returns-clause-run
returns-clause-run c is_gate =
    let so_far = c.blobs.invariant.run in
    subst (λ (bs : List (List ℕ)). IsRun c.args.from bs c.blobs.at) (sym (up_to_end c.args.file.now c.blobs.gate so_far.0 is_gate c.blobs.invariant.inside so_far.1 (c.in_default.ensures.none refl))) so_far.2
