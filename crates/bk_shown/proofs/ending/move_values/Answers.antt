use Rattle.std.proofs.Common.{◌≡◌, ◌<◌, ℕ, ◌∷◌, [], List, true, length, take, get_or, set, sym, ◌∙◌, ap, subst, rules}
use Rattle.bk_shown.specs.Writes.{Settles, lacks_entry, own_of, spent}
use Rattle.bk_shown.specs.declared.shown.Written.{Written}
use Rattle.bk_shown.proofs.Moves.{item-is, lacks-among, own-next, partly, set-next, settles-both}
use Rattle.bk_shown.proofs.ending.move_values.Goals as goal

its : (begin i : ℕ) (w : Written) (xs now : List Written) → i < length xs → now ≡ partly (spent begin) xs i → get_or now i w ≡ get_or xs i w
its begin i w xs now lt e = ap (λ (ws : List Written). get_or ws i w) e ∙ item-is (spent begin) xs i w lt

pub returns-then-not-move_value-clause-lacks : goal.returns-then-not-move_value-clause-lacks
returns-then-not-move_value-clause-lacks c = λ e.
    let i = c.loop-write.write-index in
    let xs = c.args.written.now in
    let w = c.write-item.result in
    let lt : i < length xs = search rules in
    lacks-among c.args.begin c.args.rows.now c.loop-write.rows xs i w lt c.loop-write.invariant.moved.entries
    (subst (λ (v : Written). lacks_entry c.args.begin c.loop-write.rows (v ∷ []) ≡ true) (its c.args.begin i w xs c.loop-write.written lt c.loop-write.invariant.written)
    (c.move_value.ensures.lacks c.if-not-move_value.true))

pub loop-write-preserved : goal.loop-write-preserved
loop-write-preserved c =
    let i = c.loop-write.write-index in
    let xs = c.args.written.now in
    let w = c.write-item.result in
    let lt : i < length xs = search rules in
    let same = its c.args.begin i w xs c.loop-write.written lt c.loop-write.invariant.written in
    record {
      written = ap (λ (v : Written). set c.loop-write.written i v) (c.move_value.ensures.spent c.if-not-move_value.false ∙ ap (spent c.args.begin) same)
          ∙ ap (λ (ws : List Written). set ws i (spent c.args.begin (get_or xs i w))) c.loop-write.invariant.written ∙ set-next (spent c.args.begin) xs i w lt;
      moved = subst (λ (ws : List Written). Settles ws c.args.rows.now c.move_value.new.rows) (sym (own-next c.args.begin xs i w lt))
          (settles-both (own_of c.args.begin (take i xs)) (own_of c.args.begin (get_or xs i w ∷ [])) c.args.rows.now c.loop-write.rows c.move_value.new.rows
          c.loop-write.invariant.moved (subst (λ (v : Written). Settles (own_of c.args.begin (v ∷ [])) c.loop-write.rows c.move_value.new.rows) same (c.move_value.ensures.moved c.if-not-move_value.false)));
    }
