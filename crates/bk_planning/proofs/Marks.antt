-- The mark of a commit, by whether the transaction has written something.
use Rattle.std.proofs.Common.{◌≡◌, ℕ, Bool, true, false, cond, List, [], ◌∷◌, map, Option, None, refl}
use Rattle.std.specs.Prelude.{◌==◌, ◌||◌}
use Rattle.std.specs.List.{list_any}
use Rattle.bk_ids.specs.declared.record.Mark.{Mark}
use Rattle.bk_machine.specs.statements.Commit.{mark_with}
use Rattle.bk_shown.specs.Shown.{pending_of}
use Rattle.bk_shown.specs.declared.shown.Written.{Written}
use Rattle.bk_world.specs.Pending.{of_transaction}

module _ (begin : ℕ) where
  pub marked : (ws : List Written) (mark : Option Mark) → list_any (λ (w : Written). w.begin == begin) ws ≡ true → mark_with (of_transaction begin (map pending_of ws)) mark ≡ mark
  marked [] mark any = absurd (cc (any))
  marked (w ∷ ws) mark any = by (w.begin == begin) any (marked ws mark)
    where
      by : (b : Bool) → (b || list_any (λ (v : Written). v.begin == begin) ws) ≡ true → (list_any (λ (v : Written). v.begin == begin) ws ≡ true → mark_with (of_transaction begin (map pending_of ws)) mark ≡ mark)
          → mark_with (cond b (pending_of w ∷ of_transaction begin (map pending_of ws)) (of_transaction begin (map pending_of ws))) mark ≡ mark
      by true any rest = refl
      by false any rest = rest any

  pub unmarked : (ws : List Written) (mark : Option Mark) → list_any (λ (w : Written). w.begin == begin) ws ≡ false → mark_with (of_transaction begin (map pending_of ws)) mark ≡ None
  unmarked [] mark none = refl
  unmarked (w ∷ ws) mark none = by (w.begin == begin) none (unmarked ws mark)
    where
      by : (b : Bool) → (b || list_any (λ (v : Written). v.begin == begin) ws) ≡ false → (list_any (λ (v : Written). v.begin == begin) ws ≡ false → mark_with (of_transaction begin (map pending_of ws)) mark ≡ None)
          → mark_with (cond b (pending_of w ∷ of_transaction begin (map pending_of ws)) (of_transaction begin (map pending_of ws))) mark ≡ None
      by true none rest = absurd (cc (none))
      by false none rest = rest none
