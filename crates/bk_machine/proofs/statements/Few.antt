-- What is pending beside open transactions is little: there are few sessions, and each transaction has few writes.
use Rattle.std.proofs.Common.{◌≡◌, ◌≢◌, ◌<◌, ◌≤◌, ℕ, ◌+◌, ◌*◌, Bool, true, false, not, ◌||◌, cond, List, [], ◌∷◌, length, map, eqb, refl, sym, ◌∙◌, ap, arith}
use Rattle.std.specs.Prelude.{◌==◌}
use Rattle.std.specs.List.{filter, list_any, AllByRecursion, IsDistinct}
use Rattle.std.proofs.lemmas.Bool.Decides.{nat_tests}
use Rattle.std.proofs.lemmas.List.{length-map}
use Rattle.std.proofs.lemmas.List.Filters.{length-filter_both}
use Rattle.std.proofs.lemmas.Map.Steps.{length-le_from_distinct_below}
use Rattle.bk_lemmas.specs.Lists.{all_mapped, filter_every}
use Rattle.bk_world.specs.Pending.{Pending, of_others, of_transaction, pending}
use Rattle.bk_world.specs.Records.{Logged}
use Rattle.bk_world.specs.SoundLogs.{most_pending}
use Rattle.bk_machine.specs.Sound.{Apart, AreApart, AreOpen, has_begin}
use Rattle.bk_world.specs.declared.transaction.Open.{Open}
use Rattle.bk_machine.specs.World.{most_sessions, most_writes, without_begin}

-- ---- sessions

abbrev sessions_of : List Open → List ℕ
sessions_of ts = map (λ (t : Open). t.session) ts

others-apart : (t : Open) (ts : List Open) → AllByRecursion (Apart t) ts → AllByRecursion (λ n. eqb t.session n ≡ false) (sessions_of ts)
others-apart t [] all = tt
others-apart t (u ∷ ts) all = (by (eqb t.session u.session) refl, others-apart t ts all.1)
  where
    by : (b : Bool) → eqb t.session u.session ≡ b → eqb t.session u.session ≡ false
    by true is = let same : t.session ≡ u.session = grind (arith, nat_tests, is) in absurd (all.0.session same)
    by false is = is

distinct : (ts : List Open) → AreApart ts → IsDistinct eqb (sessions_of ts)
unfolding IsDistinct
distinct [] apart = tt
distinct (t ∷ ts) apart = (others-apart t ts apart.0, distinct ts apart.1)

below : (ts : List Open) → AllByRecursion (λ (t : Open). t.session ≤ most_sessions) ts → (q : ℕ) → list_any (eqb q) (sessions_of ts) ≡ true → q < 33
below [] seats q there = absurd (cc)
below (t ∷ ts) seats q there = by (eqb q t.session) refl there (below ts seats.1 q)
  where
    by : (b : Bool) → eqb q t.session ≡ b → (b || list_any (eqb q) (sessions_of ts)) ≡ true → (list_any (eqb q) (sessions_of ts) ≡ true → q < 33) → q < 33
    by true is there later = let same : q ≡ t.session = grind (arith, nat_tests, is) in omega (arith, same, seats.0)
    by false is there later = later there

pub few-sessions : (ts : List Open) → AreApart ts → AllByRecursion (λ (t : Open). t.session ≤ most_sessions) ts → length ts ≤ 33
few-sessions ts apart seats =
    let one : length (sessions_of ts) ≤ 33 = length-le_from_distinct_below (sessions_of ts) 33 (distinct ts apart) (below ts seats) in
    let same : length (sessions_of ts) ≡ length ts = length-map ts (λ (t : Open). t.session) in
    omega (arith, one, same)

-- ---- writes

-- the writes of a transaction and those of the others are all
pub split : (begin : ℕ) (ws : List Pending) → length (of_transaction begin ws) + length (of_others begin ws) ≡ length ws
split begin ws = length-filter_both (λ (w : Pending). w.begin == begin) (λ (w : Pending). not (w.begin == begin)) (λ w. refl) ws

pub fewer : (p q : Pending → Bool) (ws : List Pending) → length (filter p (filter q ws)) ≤ length (filter p ws)
fewer p q [] = omega arith
fewer p q (w ∷ ws) = by (q w) (fewer p q ws)
  where
    more : (s : Bool) (xs ys : List Pending) → length xs ≤ length ys → length (cond s (w ∷ xs) xs) ≤ length (cond s (w ∷ ys) ys)
    more true xs ys le = omega (arith, le)
    more false xs ys le = le

    less : (s : Bool) (xs ys : List Pending) → length xs ≤ length ys → length xs ≤ length (cond s (w ∷ ys) ys)
    less true xs ys le = omega (arith, le)
    less false xs ys le = le

    by : (t : Bool) → length (filter p (filter q ws)) ≤ length (filter p ws) → length (filter p (cond t (w ∷ filter q ws) (filter q ws))) ≤ length (filter p (w ∷ ws))
    by true le = more (p w) (filter p (filter q ws)) (filter p ws) le
    by false le = less (p w) (filter p (filter q ws)) (filter p ws) le

-- of the others all are of the other transactions
of-rest : (t : Open) (ts : List Open) (ws : List Pending) → AllByRecursion (λ (w : Pending). has_begin (t ∷ ts) w.begin ≡ true) ws → AllByRecursion (λ (w : Pending). has_begin ts w.begin ≡ true) (of_others t.begin ws)
of-rest t ts [] all = tt
of-rest t ts (w ∷ ws) all = by (w.begin == t.begin) refl (of-rest t ts ws all.1)
  where
    its : (b : Bool) → (t.begin == w.begin) ≡ b → (w.begin == t.begin) ≡ false → (b || has_begin ts w.begin) ≡ true → has_begin ts w.begin ≡ true
    its true is other there = let same : (w.begin == t.begin) ≡ true = grind (arith, nat_tests, is) in absurd (cc)
    its false is other there = there

    by : (b : Bool) → (w.begin == t.begin) ≡ b → AllByRecursion (λ (v : Pending). has_begin ts v.begin ≡ true) (of_others t.begin ws)
        → AllByRecursion (λ (v : Pending). has_begin ts v.begin ≡ true) (cond (not b) (w ∷ of_others t.begin ws) (of_others t.begin ws))
    by true is rest = rest
    by false is rest = (its (t.begin == w.begin) refl is all.0, rest)

few-writes : (ts : List Open) (ws : List Pending) → AllByRecursion (λ (w : Pending). has_begin ts w.begin ≡ true) ws → AllByRecursion (λ (t : Open). length (of_transaction t.begin ws) ≤ most_writes) ts → length ws ≤ 1024 * length ts
few-writes [] [] all few = omega arith
few-writes [] (w ∷ ws) all few = let wrong : false ≡ true = all.0 in absurd (cc)
few-writes (t ∷ ts) ws all few =
    let rest : length (of_others t.begin ws) ≤ 1024 * length ts = few-writes ts (of_others t.begin ws) (of-rest t ts ws all) (less ts few.1) in
    omega (arith, rest, few.0, split t.begin ws)
  where
    less : (us : List Open) → AllByRecursion (λ (u : Open). length (of_transaction u.begin ws) ≤ most_writes) us → AllByRecursion (λ (u : Open). length (of_transaction u.begin (of_others t.begin ws)) ≤ most_writes) us
    less [] few = tt
    less (u ∷ us) few =
        let le : length (of_transaction u.begin (of_others t.begin ws)) ≤ length (of_transaction u.begin ws) = fewer (λ (w : Pending). w.begin == u.begin) (λ (w : Pending). not (w.begin == t.begin)) ws in
        (omega (arith, le, few.0), less us few.1)

pub few-pend : (rs : List Logged) (end : ℕ) (ts : List Open) → AreOpen rs end ts → length (pending rs) < most_pending
few-pend rs end ts opens =
    let one : length (pending rs) ≤ 1024 * length ts = few-writes ts (pending rs) opens.pending opens.few in
    let two : length ts ≤ 33 = few-sessions ts opens.apart opens.seats in
    omega (arith, one, two)

-- ---- one that ends

-- it is one of those that are open, and no other ends
pub one-less : (ts : List Open) (begin : ℕ) → AreApart ts → has_begin ts begin ≡ true → length (without_begin ts begin) + 1 ≡ length ts
one-less [] begin apart there = absurd (cc)
one-less (t ∷ ts) begin apart there = by (t.begin == begin) refl there (one-less ts begin apart.1)
  where
    others : (t.begin == begin) ≡ true → without_begin ts begin ≡ ts
    others is =
        let same : t.begin ≡ begin = grind (arith, nat_tests, is) in
        filter_every (λ (u : Open). not (u.begin == begin)) ts (all_mapped (Apart t) (λ (u : Open). not (u.begin == begin) ≡ true) (λ u one. stays u (λ e. one.begin (same ∙ sym e))) ts apart.0)
      where
        stays : (u : Open) → u.begin ≢ begin → not (u.begin == begin) ≡ true
        stays u other = by (u.begin == begin) refl
          where
            by : (b : Bool) → (u.begin == begin) ≡ b → not b ≡ true
            by true e = absurd (other (grind (arith, nat_tests, e)))
            by false e = refl

    by : (b : Bool) → (t.begin == begin) ≡ b → (b || has_begin ts begin) ≡ true → (has_begin ts begin ≡ true → length (without_begin ts begin) + 1 ≡ length ts)
        → length (cond (not b) (t ∷ without_begin ts begin) (without_begin ts begin)) + 1 ≡ length (t ∷ ts)
    by true is there later = let rest : length (without_begin ts begin) ≡ length ts = ap length (others is) in omega (arith, rest)
    by false is there later = let rest : length (without_begin ts begin) + 1 ≡ length ts = later there in omega (arith, rest)
