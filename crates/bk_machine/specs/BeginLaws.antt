-- What is open in a database behind an act was open before, or begins at its end or behind it.
use Rattle.std.proofs.Common.{◌≡◌, ◌≤◌, inl, inr, ℕ, Bool, true, false, not, ◌||◌, List, [], ◌∷◌, ◌++◌, min, refl, ◌∙◌, ap, subst, arith, append_assoc}
use Rattle.std.specs.Prelude.{◌==◌}
use Rattle.std.specs.List.{AllByRecursion}
use Rattle.std.proofs.Math.Nat.{le-min, min-le_left, min-le_right}
use Rattle.std.proofs.lemmas.Bool.Decides.{nat_tests}
use Rattle.bk_lemmas.specs.Lists.{all_filter, all_joined, all_mapped}
use Rattle.bk_machine.specs.MayDo.{IsOpenOrNew}
use Rattle.bk_machine.specs.Sound.{has_begin}
use Rattle.bk_world.specs.declared.transaction.Open.{Open}
use Rattle.bk_machine.specs.World.{Database, least_begin, without_begin}

-- Each is so.

-- each of some transactions has its own begin
own-begins : (front ts : List Open) → AllByRecursion (λ (t : Open). has_begin (front ++ ts) t.begin ≡ true) ts
own-begins front [] = tt
own-begins front (t ∷ ts) = (here front, subst (λ (us : List Open). AllByRecursion (λ (u : Open). has_begin us u.begin ≡ true) ts) (append_assoc front (t ∷ []) ts) (own-begins (front ++ t ∷ []) ts))
  where
    own : (t.begin == t.begin) ≡ true
    own = grind (arith, nat_tests)

    or-true : (b : Bool) → (b || true) ≡ true
    or-true true = refl
    or-true false = refl

    here : (us : List Open) → has_begin (us ++ t ∷ ts) t.begin ≡ true
    here [] = rw own refl
    here (u ∷ us) = ap (λ b. (u.begin == t.begin) || b) (here us) ∙ or-true (u.begin == t.begin)

-- those that were open before
pub each-own : (db : Database) → AllByRecursion (IsOpenOrNew db) db.transactions
each-own db = all_mapped (λ (t : Open). has_begin db.transactions t.begin ≡ true) (IsOpenOrNew db) (λ t there. inl there) db.transactions (own-begins [] db.transactions)

-- those but for one that ends
pub each-without : (db : Database) (begin : ℕ) → AllByRecursion (IsOpenOrNew db) (without_begin db.transactions begin)
each-without db begin = all_filter (IsOpenOrNew db) (λ (t : Open). not (t.begin == begin)) db.transactions (each-own db)

-- those, and one that begins at the end
pub each-begun : (db : Database) (t : Open) → t.begin ≡ db.end → AllByRecursion (IsOpenOrNew db) (db.transactions ++ t ∷ [])
each-begun db t at = all_joined (IsOpenOrNew db) db.transactions (t ∷ []) (each-own db) (inr (omega (arith, at)), tt)

-- The first record of the oldest one.

-- it lies below the end
pub least-end : (ts : List Open) (end : ℕ) → least_begin ts end ≤ end
least-end [] end = omega arith
least-end (t ∷ ts) end =
    let one : min t.begin (least_begin ts end) ≤ least_begin ts end = min-le_right t.begin (least_begin ts end) in
    let two : least_begin ts end ≤ end = least-end ts end in
    omega (arith, one, two)

-- no transaction begins below it
pub least-open : (ts : List Open) (end begin : ℕ) → has_begin ts begin ≡ true → least_begin ts end ≤ begin
least-open [] end begin there = absurd (cc)
least-open (t ∷ ts) end begin there = by (t.begin == begin) refl there (least-open ts end begin)
  where
    by : (b : Bool) → (t.begin == begin) ≡ b → (b || has_begin ts begin) ≡ true → (has_begin ts begin ≡ true → least_begin ts end ≤ begin) → min t.begin (least_begin ts end) ≤ begin
    by true is there later =
        let same : t.begin ≡ begin = grind (arith, nat_tests, is) in
        let one : min t.begin (least_begin ts end) ≤ t.begin = min-le_left t.begin (least_begin ts end) in
        omega (arith, same, one)
    by false is there later =
        let rest : least_begin ts end ≤ begin = later there in
        let one : min t.begin (least_begin ts end) ≤ least_begin ts end = min-le_right t.begin (least_begin ts end) in
        omega (arith, rest, one)

-- it never falls
pub begins_rise : (db : Database) (transactions : List Open) (m : ℕ) → AllByRecursion (IsOpenOrNew db) transactions → db.end ≤ m → least_begin db.transactions db.end ≤ least_begin transactions m
begins_rise db [] m each le = let one : least_begin db.transactions db.end ≤ db.end = least-end db.transactions db.end in omega (arith, one, le)
begins_rise db (t ∷ ts) m each le = le-min (by each.0) (begins_rise db ts m each.1 le)
  where
    by : IsOpenOrNew db t → least_begin db.transactions db.end ≤ t.begin
    by (inl there) = least-open db.transactions db.end t.begin there
    by (inr new) = let one : least_begin db.transactions db.end ≤ db.end = least-end db.transactions db.end in omega (arith, one, new)

-- a number that is above no begin
pub of-begin : (ts : List Open) (n b : ℕ) → AllByRecursion (λ (t : Open). n ≤ t.begin) ts → has_begin ts b ≡ true → n ≤ b
of-begin [] n b all there = absurd (cc)
of-begin (t ∷ ts) n b all there = by (t.begin == b) refl there (of-begin ts n b all.1)
  where
    by : (e : Bool) → (t.begin == b) ≡ e → (e || has_begin ts b) ≡ true → (has_begin ts b ≡ true → n ≤ b) → n ≤ b
    by true is there later = let same : t.begin ≡ b = grind (arith, nat_tests, is) in omega (arith, same, all.0)
    by false is there later = later there
