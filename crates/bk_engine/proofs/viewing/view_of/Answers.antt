use Rattle.std.proofs.Common.{◌≡◌, ◌∙◌, Some, sym, ap, subst, arith}
use Rattle.std.specs.Option.{option_map}
use Rattle.bk_engine.specs.Viewing.{IsSeenAs, seen_by}
use Rattle.bk_engine.proofs.Viewed.{seen-at}
use Rattle.bk_engine.proofs.viewing.view_of.Goals as goal

pub returns : goal.returns
returns c = λ hosted h memory there.
    let found : Some c.in-Some.spec.now ≡ Some h.spec = ap (option_map (λ s. s.now)) (sym c.in-Some.is) ∙ c.spec.ensures hosted h memory.described there in
    let same : c.in-Some.spec.now ≡ h.spec = cc in
    let none : c.state-state.result.now.points.next_checkpoint ≡ 0 = omega (arith, c.if-state-ne0.false) in
    subst (IsSeenAs h) (sym (c.joined.ensures ∙ ap (seen_by c.in-Some.spec.now c.state-state.result.now) c.shown_of.ensures))
    (seen-at c.args.hosting.now hosted h c.args.at (option_map (λ s. s.now) c.store.result) c.state-state.result.now c.args.ended.now c.in-Some.spec.now memory there c.store.ensures c.state-state.ensures same
    (c.requires.ends c.state-state.result.now c.state-state.ensures) none)
