use Rattle.std.proofs.Common.{◌≡◌, ℕ, ◌+◌, List, [], ◌∷◌, ◌++◌, length, length-append, replicate, sym, ap, ◌∙◌, arith}
use Rattle.std.proofs.lemmas.List.{replicate_more}
use Rattle.bk_frames.specs.Pages.{zeroed_page}
use Rattle.bk_frames.proofs.block.Block.zeroed.Goals as goal

pub loop-block-preserved : goal.loop-block-preserved
loop-block-preserved g c =
    let old = c.loop-block.block.pages in
    let new = c.push.new.self.pages in
    let kept = c.loop-block.invariant in
    let pushed = c.push.ensures in
    let long : length new ≡ length old + 1 = ap length pushed.2 ∙ length-append old (zeroed_page ∷ []) in
    record {
      alloc = pushed.0 ∙ kept.alloc;
      room = pushed.1 ∙ kept.room;
      zeros = pushed.2 ∙ ap (λ (l : List (List ℕ)). l ++ zeroed_page ∷ []) kept.zeros ∙ replicate_more (length old) zeroed_page ∙ ap (λ (k : ℕ). replicate k zeroed_page) (sym long);
      within = omega (arith, long, c.len.ensures, c.loop-block-test.true);
    }
