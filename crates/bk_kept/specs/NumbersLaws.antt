-- What is known of databases that leave numbers.
use Rattle.std.proofs.Common.{◌≡◌, ◌<◌, ◌≤◌, ℕ, zero, suc, ◌+◌, Bool, true, false, cond, List, [], ◌∷◌, length, Some, refl, sym, ◌∙◌, ap, subst, arith}
use Rattle.std.specs.Prelude.{◌==◌, nat_le, slice_get}
use Rattle.std.specs.List.{AllByRecursion, list_all}
use Rattle.std.proofs.lemmas.Bool.{and_parts, leb-true}
use Rattle.std.proofs.lemmas.Bool.Decides.{nat_tests}
use Rattle.bk_machine.specs.Checks.{last_number}
use Rattle.bk_machine.specs.statements.Restore.{is_online}
use Rattle.bk_world.specs.Lines.{RecordLines}
use Rattle.bk_kept.specs.declared.kept.Database.{Database as KeptDatabase}
use Rattle.bk_kept.specs.Keeps.{IsSeenOf, ShowsLog}
use Rattle.bk_kept.specs.Numbers.{CanEnd, CanSettle, LeaveNumbers, leaves_numbers}

module _ (d : KeptDatabase) (leaves : leaves_numbers d ≡ true) where
  chosen : (t : Bool) → is_online d.status ≡ t → cond t (nat_le (d.shown.«end» + (length d.shown.written.items + length d.transactions)) last_number) (length d.transactions == 0) ≡ true
  chosen t is = sym (ap (λ b. cond b (nat_le (d.shown.«end» + (length d.shown.written.items + length d.transactions)) last_number) (length d.transactions == 0)) is) ∙ leaves

  are-left : is_online d.status ≡ true → d.shown.«end» + (length d.shown.written.items + length d.transactions) ≤ last_number
  are-left up = leb-true (d.shown.«end» + (length d.shown.written.items + length d.transactions)) last_number (chosen true up)

  -- where it is online
  pub can-settle : is_online d.status ≡ true → CanSettle d
  can-settle up = omega (arith, are-left up)

  -- where a transaction is open in it, it is online
  pub open-online : 0 < length d.transactions → is_online d.status ≡ true
  open-online some = by (is_online d.status) refl
    where
      by : (t : Bool) → is_online d.status ≡ t → is_online d.status ≡ true
      by true is = is
      by false is = let none : (length d.transactions == 0) ≡ true = chosen false is in absurd (grind (arith, nat_tests, none, some))

  pub can-end : 0 < length d.transactions → CanEnd d
  can-end some = omega (arith, are-left (open-online some), some)

  -- and what is seen of it is kept
  pub open-kept : (history : RecordLines) → 0 < length d.transactions → IsSeenOf history d → ShowsLog history d
  open-kept history some seen = seen (open-online some)

-- each of some databases that leave numbers leaves them
pub leaves-at : (ds : List KeptDatabase) (i : ℕ) (d : KeptDatabase) → LeaveNumbers ds → slice_get ds i ≡ Some d → leaves_numbers d ≡ true
leaves-at [] i d all there = absurd (cc)
leaves-at (x ∷ ds) zero d all there =
    let same : x ≡ d = (cc) in
    ap leaves_numbers (sym same) ∙ (and_parts (leaves_numbers x) (list_all leaves_numbers ds) all).0
leaves-at (x ∷ ds) (suc i) d all there = leaves-at ds i d (and_parts (leaves_numbers x) (list_all leaves_numbers ds) all).1 there

-- and each of them in which a transaction is open is kept, where they are seen
pub kept-at : (history : RecordLines) (ds : List KeptDatabase) (i : ℕ) (d : KeptDatabase) → LeaveNumbers ds → AllByRecursion (IsSeenOf history) ds → slice_get ds i ≡ Some d → 0 < length d.transactions → ShowsLog history d
kept-at history [] i d all seen there some = absurd (cc)
kept-at history (x ∷ ds) zero d all seen there some =
    let same : x ≡ d = (cc) in
    let own : leaves_numbers x ≡ true = (and_parts (leaves_numbers x) (list_all leaves_numbers ds) all).0 in
    subst (λ (k : KeptDatabase). 0 < length k.transactions → ShowsLog history k) same (λ one. open-kept x own history one seen.0) some
kept-at history (x ∷ ds) (suc i) d all seen there some = kept-at history ds i d (and_parts (leaves_numbers x) (list_all leaves_numbers ds) all).1 seen.1 there some
