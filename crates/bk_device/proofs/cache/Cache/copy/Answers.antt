-- Each file is copied from the one in its place.
use Rattle.std.proofs.Common.{◌≡◌, ◌+◌, [], ◌∷◌, ◌++◌, ℕ, List, length, ap, ◌∙◌, arith, subst, sym}
use Rattle.std.proofs.lemmas.List.{length_push}
use Rattle.bk_device.specs.Held.{current_of, current_files}
use Rattle.bk_device.specs.declared.held.Held.{Held}
use Rattle.bk_device.proofs.Made.{AreMade, IsMadeFrom, made_at_end, made_begin, made_durable, made_current}
use Rattle.bk_device.proofs.cache.Cache.copy.Goals as goal

pub loop-file-preserved : goal.loop-file-preserved
loop-file-preserved c =
    let Made : List Held → Type 0 = λ items. AreMade current_of c.deref-file-items.result.now items (c.loop-file.file-index + 1) in
    let copied : IsMadeFrom current_of c.file-item.result c.in_ok-copy.field-0 = record { name = c.in_ok-copy.ensures.name; begin = c.in_ok-copy.ensures.begin; durable = c.in_ok-copy.ensures.durable; current = c.in_ok-copy.ensures.current } in
    let From : Held → Type 0 = λ held. IsMadeFrom current_of held c.in_ok-copy.field-0 in
    let one = made_at_end current_of c.deref-file-items.result.now c.loop-file.held.items c.loop-file.file-index c.file-item.result c.in_ok-copy.field-0 c.loop-file.invariant.1 c.loop-file-test.true (subst From c.file-item.is copied) c.loop-file.invariant.0 in
    let pushed : c.push.new.self.items ≡ c.loop-file.held.items ++ c.in_ok-copy.field-0 ∷ [] = c.in_ok-push.ensures.items in
    (subst Made (sym pushed) one, ap length c.in_ok-push.ensures.items ∙ length_push c.loop-file.held.items c.in_ok-copy.field-0 ∙ ap (λ (n : ℕ). n + 1) c.loop-file.invariant.1)

same_length : (c : goal.After-result-1) → length c.loop-file.held.items ≡ length c.deref-file-items.result.now
same_length c = omega (arith, c.loop-file.invariant.1)

made : (c : goal.After-result-1) → AreMade current_of c.deref-file-items.result.now c.loop-file.held.items (length c.deref-file-items.result.now)
made c = record { below = λ k d under. c.loop-file.invariant.0.below k d (omega arith) }

pub returns-clause-current : goal.returns-clause-current
returns-clause-current c = made_current current_of _ _ (same_length c) (made c) ∙ ap current_files c.deref-file-items.ensures.value

pub returns-clause-durable : goal.returns-clause-durable
returns-clause-durable c = made_durable current_of _ _ (same_length c) (made c) ∙ ap current_files c.deref-file-items.ensures.value

pub returns-clause-begin : goal.returns-clause-begin
returns-clause-begin c = made_begin current_of _ _ (same_length c) (made c) ∙ ap current_files c.deref-file-items.ensures.value
