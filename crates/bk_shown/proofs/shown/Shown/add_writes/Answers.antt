use Rattle.std.proofs.Common.{◌≡◌, List, [], ◌∷◌, ◌++◌, length, refl, sym, ◌∙◌, ap, subst, append_assoc, append-nil, arith, rules}
use Rattle.std.specs.Prelude.{IsErrOf}
use Rattle.std.specs.Vec.Iter.{into_iter_items}
use Rattle.bk_shown.specs.Steps.{HasWrites, MayLie}
use Rattle.bk_shown.specs.Writes.{row_of}
use Rattle.bk_shown.specs.declared.error.TakeError.TheVariants.{Unfit}
use Rattle.bk_shown.specs.declared.shown.Written.{Written}
use Rattle.bk_shown.proofs.Restored.{has-write, may-write}
use Rattle.bk_shown.proofs.shown.Shown.add_writes.Goals as goal

nothing_left : {X : Type 0} (l : List X) → length l ≡ 0 → l ≡ []
nothing_left [] h = refl
nothing_left (x ∷ xs) h = absurd (omega arith)

pub loop-write-preserved : goal.loop-write-preserved
loop-write-preserved c =
    let at = c.loop-write in
    let write = c.in-Some.write in
    let steps : into_iter_items at.write-iterator ≡ write ∷ into_iter_items c.next.new.self = c.in-Some.ensures.steps.0 in
    record {
      left = append_assoc at.yielded (write ∷ []) (into_iter_items c.next.new.self) ∙ rw (← steps) at.invariant.left;
      many = let was = at.invariant.many in
          let gone = c.in-Some.ensures.steps.1 in
          let short = ap length steps in
          omega arith;
      has = λ files made listed has. has-write files made listed at.yielded write at.self c.add_write.new.self (at.invariant.has files made listed has) c.in_ok-add_write.ensures.ok;
    }

unfit : (c : goal.After-drop-write-iterator) → IsErrOf c.from_residual.result Unfit → MayLie c.loop-write.self.groups (row_of c.in-Some.write) c.in-Some.write.place → ⊥
unfit c e = search rules

pub returns-in_err-add_write-clause-unfit : goal.returns-in_err-add_write-clause-unfit
returns-in_err-add_write-clause-unfit c = λ e files made listed has may.
    let at = c.loop-write in
    let write = c.in-Some.write in
    let steps : into_iter_items at.write-iterator ≡ write ∷ into_iter_items c.next.new.self = c.in-Some.ensures.steps.0 in
    let all : at.yielded ++ write ∷ into_iter_items c.next.new.self ≡ c.args.writes.items = rw (← steps) at.invariant.left ∙ c.into_iter-write-iterator.ensures.into_iter_gives.0 in
    unfit c e (may-write files made listed c.args.writes.items at.yielded write (into_iter_items c.next.new.self) at.self (sym all) (at.invariant.has files made listed has) may)

pub returns-clause-ok : goal.returns-clause-ok
returns-clause-ok c = λ files made listed has.
    let at = c.loop-write in
    let empty : into_iter_items at.write-iterator ≡ [] = nothing_left _ (sym at.invariant.many ∙ c.in-None.ensures.steps.0) in
    let all : at.yielded ≡ c.args.writes.items = sym (append-nil at.yielded) ∙ rw empty at at.invariant.left ∙ c.into_iter-write-iterator.ensures.into_iter_gives.0 in
    subst (λ (ws : List Written). HasWrites files made listed ws at.self) all (at.invariant.has files made listed has)
