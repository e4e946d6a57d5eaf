-- A row that no other session's transaction has written is written by the session's own alone.
use Rattle.std.proofs.Common.{◌≡◌, ℕ, Bool, true, false, not, ◌&&◌, cond, List, [], ◌∷◌, Some, None, refl, sym, ◌∙◌, ap, arith}
use Rattle.std.specs.Prelude.{◌==◌, ◌||◌}
use Rattle.std.specs.List.{list_any, find, AllByRecursion}
use Rattle.std.proofs.lemmas.Bool.Decides.{nat_tests}
use Rattle.bk_lemmas.specs.Lists.{all_both, all_mapped}
use Rattle.bk_world.specs.Pending.{Pending, pending, of_transaction}
use Rattle.bk_world.specs.Records.{Logged, RowId, id_of, is_row}
use Rattle.bk_machine.specs.Sound.{Apart, AreApart, has_begin}
use Rattle.bk_world.specs.declared.transaction.Open.{Open}
use Rattle.bk_machine.specs.World.{transaction_of}
use Rattle.bk_machine.specs.statements.Target.{holds_row}

abbrev pub is_its : RowId → Pending → Bool
is_its id w = is_row (id_of w.change) id

-- a write of a row is found among those of its transaction
each-held : (id : RowId) (ws : List Pending) → AllByRecursion (λ w. is_its id w ≡ true → list_any (is_its id) (of_transaction w.begin ws) ≡ true) ws
each-held id [] = tt
each-held id (w ∷ ws) = (
  first,
  all_mapped (λ v. is_its id v ≡ true → list_any (is_its id) (of_transaction v.begin ws) ≡ true) (λ v. is_its id v ≡ true → list_any (is_its id) (of_transaction v.begin (w ∷ ws)) ≡ true)
      (λ v there its. more (w.begin == v.begin) (of_transaction v.begin ws) (there its)) ws (each-held id ws),
)
  where
    first : is_its id w ≡ true → list_any (is_its id) (of_transaction w.begin (w ∷ ws)) ≡ true
    first its = let own : (w.begin == w.begin) ≡ true = grind (arith, nat_tests) in rw own (ap (λ t. t || list_any (is_its id) (of_transaction w.begin ws)) its)

    or-true : (b : Bool) → (b || true) ≡ true
    or-true true = refl
    or-true false = refl

    more : (t : Bool) (vs : List Pending) → list_any (is_its id) vs ≡ true → list_any (is_its id) (cond t (w ∷ vs) vs) ≡ true
    more true vs e = ap (λ b. is_its id w || b) e ∙ or-true (is_its id w)
    more false vs e = e

-- a transaction of this session with this first record
abbrev is_found : ℕ → ℕ → Open → Bool
is_found session b t = t.session == session && t.begin == b

none-found : (t : Open) (session b : ℕ) (us : List Open) → (t.session == session) ≡ true → AllByRecursion (Apart t) us → list_any (is_found session b) us ≡ false
none-found t session b [] own all = refl
none-found t session b (u ∷ us) own all = by (none-found t session b us own all.1) (u.session == session) refl
  where
    by : list_any (is_found session b) us ≡ false → (s : Bool) → (u.session == session) ≡ s → list_any (is_found session b) (u ∷ us) ≡ false
    by later true is = let same : t.session ≡ u.session = grind (arith, nat_tests, own, is) in absurd (all.0.session same)
    by later false is = rw is later

-- the transaction of a session is the one that is found
found-one : (ts : List Open) (session b : ℕ) (t0 : Open) → AreApart ts → transaction_of ts session ≡ Some t0 → list_any (is_found session b) ts ≡ true → b ≡ t0.begin
found-one [] session b t0 alone is there = absurd (cc)
found-one (t ∷ ts) session b t0 alone is there = by (t.session == session) refl is there (found-one ts session b t0 alone.1)
  where
    or-false : (x y : Bool) → y ≡ false → (x || y) ≡ true → x ≡ true
    or-false true y e is = refl
    or-false false y e is = sym e ∙ is ∙ refl

    by : (s : Bool) → (t.session == session) ≡ s → cond s (Some t) (transaction_of ts session) ≡ Some t0 → ((s && t.begin == b) || list_any (is_found session b) ts) ≡ true
        → (transaction_of ts session ≡ Some t0 → list_any (is_found session b) ts ≡ true → b ≡ t0.begin) → b ≡ t0.begin
    by true own is there rest =
        let same : t ≡ t0 = cc in
        let begins : (t.begin == b) ≡ true = or-false (t.begin == b) (list_any (is_found session b) ts) (none-found t session b ts own alone.0) there in
        let eq : b ≡ t.begin = grind (arith, nat_tests, begins) in
        eq ∙ ap (λ (x : Open). x.begin) same
    by false other is there rest = rest is there

-- where the session has none, none is found
found-none : (ts : List Open) (session b : ℕ) → transaction_of ts session ≡ None → list_any (is_found session b) ts ≡ false
found-none [] session b is = refl
found-none (t ∷ ts) session b is = by (t.session == session) refl is (found-none ts session b)
  where
    by : (s : Bool) → (t.session == session) ≡ s → cond s (Some t) (transaction_of ts session) ≡ None → (transaction_of ts session ≡ None → list_any (is_found session b) ts ≡ false) → list_any (is_found session b) (t ∷ ts) ≡ false
    by true own is rest = absurd (cc)
    by false other is rest = rw other (rest is)

-- the transaction of another session that has written a row
abbrev is_other : List Logged → RowId → ℕ → Open → Bool
is_other rs id session t = not (t.session == session) && holds_row rs id t

-- where there is none, each transaction that has written it is the session's
own-session : (rs : List Logged) (id : RowId) (session b : ℕ) (ts : List Open) → find (is_other rs id session) ts ≡ None → has_begin ts b ≡ true
    → list_any (is_its id) (of_transaction b (pending rs)) ≡ true → list_any (is_found session b) ts ≡ true
own-session rs id session b [] none there held = absurd (cc)
own-session rs id session b (t ∷ ts) none there held = by (t.begin == b) refl (t.session == session) refl (holds_row rs id t) refl there none (own-session rs id session b ts)
  where
    by : (e : Bool) → (t.begin == b) ≡ e → (s : Bool) → (t.session == session) ≡ s → (o : Bool) → holds_row rs id t ≡ o → (e || has_begin ts b) ≡ true
        → cond (not s && o) (Some t) (find (is_other rs id session) ts) ≡ None
        → (find (is_other rs id session) ts ≡ None → has_begin ts b ≡ true → list_any (is_its id) (of_transaction b (pending rs)) ≡ true → list_any (is_found session b) ts ≡ true)
        → ((s && e) || list_any (is_found session b) ts) ≡ true
    by true is true own o h there none rest = refl
    by true is false own true h there none rest = absurd (cc)
    by true is false own false h there none rest =
        let begins : t.begin ≡ b = grind (arith, nat_tests, is) in
        let holds : holds_row rs id t ≡ true = ap (λ n. list_any (is_its id) (of_transaction n (pending rs))) begins ∙ held in
        let wrong : true ≡ false = sym holds ∙ h in absurd (cc)
    by false is true own o h there none rest = rest none there held
    by false is false own true h there none rest = absurd (cc)
    by false is false own false h there none rest = rest none there held

module _ (rs : List Logged) (ts : List Open) (session : ℕ) (id : RowId) (apart : AreApart ts) (none : find (is_other rs id session) ts ≡ None) (opens : AllByRecursion (λ (w : Pending). has_begin ts w.begin ≡ true) (pending rs)) where
  -- in the session's transaction
  pub unlocked : (t : Open) → transaction_of ts session ≡ Some t → AllByRecursion (λ w. is_its id w ≡ true → w.begin ≡ t.begin) (pending rs)
  unlocked t own =
      all_both (λ w. has_begin ts w.begin ≡ true) (λ w. is_its id w ≡ true → list_any (is_its id) (of_transaction w.begin (pending rs)) ≡ true) (λ w. is_its id w ≡ true → w.begin ≡ t.begin)
      (λ w there held its. found-one ts session w.begin t apart own (own-session rs id session w.begin ts none there (held its)))
      (pending rs) opens (each-held id (pending rs))

  -- where it has none, nobody has written the row
  pub unwritten : transaction_of ts session ≡ None → AllByRecursion (λ w. is_its id w ≡ false) (pending rs)
  unwritten own =
      all_both (λ w. has_begin ts w.begin ≡ true) (λ w. is_its id w ≡ true → list_any (is_its id) (of_transaction w.begin (pending rs)) ≡ true) (λ w. is_its id w ≡ false)
      (λ w there held. by w there held (is_its id w) refl)
      (pending rs) opens (each-held id (pending rs))
    where
      by : (w : Pending) → has_begin ts w.begin ≡ true → (is_its id w ≡ true → list_any (is_its id) (of_transaction w.begin (pending rs)) ≡ true) → (b : Bool) → is_its id w ≡ b → is_its id w ≡ false
      by w there held true is =
          let found : list_any (is_found session w.begin) ts ≡ true = own-session rs id session w.begin ts none there (held is) in
          let wrong : true ≡ false = sym found ∙ found-none ts session w.begin own in
          absurd (cc)
      by w there held false is = is
