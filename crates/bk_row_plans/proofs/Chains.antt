-- Checks that come one after the other.
use Rattle.std.proofs.Common.{◌≡◌, ℕ, Bool, true, false, cond, List, Option, Some, None, Ok, refl, sym, ◌∙◌, ap, subst}
use Rattle.std.specs.Prelude.{◌&&◌, Err, MatchOption, is_some}
use Rattle.bk_machine.specs.Checks.{Checked, ◌>>=◌, limit, refuse_if, used_up}
use Rattle.bk_machine.specs.World.{World}
use Rattle.bk_machine.specs.statements.Target.{Target, check_key, check_lock, check_new, group_name, has_all_writes, is_full_for, sees_key}
use Rattle.bk_world.specs.declared.rule.Limit.TheVariants.{Writes}
use Rattle.bk_world.specs.declared.rule.Rule.{Rule}
use Rattle.bk_world.specs.declared.rule.Rule.TheVariants.{DuplicateKey, GroupFull, LimitReached}
use Rattle.bk_plans.specs.CheckingLaws.{refused-first}
use Rattle.bk_row_plans.specs.Targets.{check_more}
use Rattle.bk_plans.specs.Checking.{IsRefused}
use Rattle.bk_plans.specs.declared.refusal.Refusal.{Refusal}

-- behind one that was passed the next ones are passed, or refuse
pub through : {A B : Type 0} (first : Checked A) (next : A → Checked B) (a : A) (b : B) → first ≡ Ok a → next a ≡ Ok b → (first >>= next) ≡ Ok b
through first next a b is rest = ap (λ (c : Checked _). c >>= next) is ∙ rest

pub refused-behind : {A B : Type 0} (refusal : Refusal) (first : Checked A) (next : A → Checked B) (a : A) → first ≡ Ok a → IsRefused refusal (next a) → IsRefused refusal (first >>= next)
refused-behind refusal first next a is rest = subst (λ (c : Checked _). IsRefused refusal (c >>= next)) (sym is) rest

-- and where the first one refuses, they all do
-- two of them in one
pub joined : {A B C : Type 0} (first : Checked A) (second : A → Checked B) (next : B → Checked C) → ((first >>= second) >>= next) ≡ (first >>= (λ a. second a >>= next))
joined (Err rule) second next = refl
joined (Ok a) second next = refl

-- where something is written one check more is made of the two of it
pub left-is : {A : Type 0} (b all used : Bool) (rule : Rule) (a : A) → (refuse_if (b && all) rule >>= (λ _. limit (b && used) >>= (λ _. Ok a))) ≡ (cond b (refuse_if all rule >>= (λ _. limit used)) (Ok tt) >>= (λ _. Ok a))
left-is true all used rule a = sym (joined (refuse_if all rule) (λ _. limit used) (λ _. Ok a))
left-is false all used rule a = refl

-- a row is found where one is seen
pub found-is : {X : Type 0} (o : Option X) (r : Option (List ℕ)) (before : X → List ℕ) (P : X → Type 0) → MatchOption o (r ≡ None) (λ x. (r ≡ Some (before x)) × P x) → is_some o ≡ is_some r
found-is None r before P is = ap is_some (sym is)
found-is (Some x) r before P is = ap is_some (sym is.0)

-- The checks of a row that is new.

module _ (w : World) (to : Target) (key : ℕ) where
  -- the room of the group
  abbrev roomy : Unit {0} → Checked Target
  roomy u = refuse_if (is_full_for w to key) (GroupFull (group_name to.database to.table.group)) >>= (λ (v : Unit {0}). Ok to)

  -- behind the key
  abbrev last_checks : Unit {0} → Checked Target
  last_checks u = refuse_if (has_all_writes w to) (LimitReached Writes) >>= (λ (v : Unit {0}). (limit (used_up to.database.end) >>= roomy))

  last-is : (check_more w to >>= roomy) ≡ last_checks tt
  last-is = joined (refuse_if (has_all_writes w to) (LimitReached Writes)) (λ (v : Unit {0}). limit (used_up to.database.end)) roomy

  module _ (lock : check_lock w to key ≡ Ok tt) (absent : refuse_if (sees_key w to key) (DuplicateKey key) ≡ Ok tt) (low : check_key key ≡ Ok tt) where
    behind : (refusal : Refusal) → IsRefused refusal (last_checks tt) → IsRefused refusal (check_new w to key)
    behind refusal rest =
        refused-behind refusal (check_lock w to key) _ tt lock (refused-behind refusal (refuse_if (sees_key w to key) (DuplicateKey key)) _ tt absent (refused-behind refusal (check_key key) last_checks tt low rest))

    pub new-unleft : (refusal : Refusal) → IsRefused refusal (check_more w to) → IsRefused refusal (check_new w to key)
    new-unleft refusal is = behind refusal (subst (IsRefused refusal) last-is (refused-first refusal (check_more w to) roomy is))

    pub new-full : (refusal : Refusal) → check_more w to ≡ Ok tt → IsRefused refusal (refuse_if (is_full_for w to key) (GroupFull (group_name to.database to.table.group))) → IsRefused refusal (check_new w to key)
    new-full refusal left full =
        behind refusal (subst (IsRefused refusal) last-is (refused-behind refusal (check_more w to) roomy tt left
        (refused-first refusal (refuse_if (is_full_for w to key) (GroupFull (group_name to.database to.table.group))) (λ (v : Unit {0}). Ok to) full)))

    pub new-passed : check_more w to ≡ Ok tt → refuse_if (is_full_for w to key) (GroupFull (group_name to.database to.table.group)) ≡ Ok tt → check_new w to key ≡ Ok to
    new-passed left room =
        let last : last_checks tt ≡ Ok to = sym last-is ∙ through (check_more w to) roomy tt to left (through (refuse_if (is_full_for w to key) (GroupFull (group_name to.database to.table.group))) (λ (v : Unit {0}). Ok to) tt to room refl) in
        through (check_lock w to key) _ tt to lock (through (refuse_if (sees_key w to key) (DuplicateKey key)) _ tt to absent (through (check_key key) last_checks tt to low last))
