-- The least session of all that have an open transaction.
use Rattle.std.proofs.Common.{◌≡◌, ◌≢◌, ◌≤◌, ◌⊎◌, inl, inr, ℕ, Bool, true, false, cond, List, [], ◌∷◌, Option, Some, None, refl, sym, ◌∙◌, ap, subst, arith}
use Rattle.std.specs.Prelude.{◌==◌, IfSome, MatchOption}
use Rattle.std.specs.List.{AllByRecursion}
use Rattle.std.specs.Option.{option_map}
use Rattle.std.proofs.lemmas.Bool.Decides.{nat_tests}
use Rattle.bk_machine.specs.Checks.{lesser}
use Rattle.bk_machine.specs.Closing.{IsFirst}
use Rattle.bk_machine.specs.HeldLaws.{held-is, open-session}
use Rattle.bk_machine.specs.World.{World, Database, held_by, held_in, transaction_of}
use Rattle.bk_world.specs.declared.transaction.Open.{Open}
use Rattle.bk_asked.specs.declared.opens.Held.{Held as HeldRef}
use Rattle.bk_asked.specs.Asked.{held_of, least_in, least_with}

-- no session is less

abbrev AtLeast : ℕ → Option ℕ → Type 0
AtLeast s o = IfSome o (λ m. s ≤ m)

lesser-bounds : (n s : ℕ) (o : Option ℕ) → s ≤ lesser n o → (s ≤ n) × AtLeast s o
lesser-bounds n s None le = (le, tt)
lesser-bounds n s (Some m) le = (omega (arith, le), omega (arith, le))

with-bounds : (ts : List Open) (other : Option ℕ) (s : ℕ) → AtLeast s (least_with ts other) → AllByRecursion (λ (t : Open). s ≤ t.session) ts × AtLeast s other
with-bounds [] other s le = (tt, le)
with-bounds (t ∷ ts) other s le =
    let here = lesser-bounds t.session s (least_with ts other) le in
    let rest = with-bounds ts other s here.1 in
    ((here.0, rest.0), rest.1)

in-bounds : (dbs : List Database) (s : ℕ) → AtLeast s (least_in dbs) → AllByRecursion (λ (db : Database). AllByRecursion (λ (t : Open). s ≤ t.session) db.transactions) dbs
in-bounds [] s le = tt
in-bounds (db ∷ dbs) s le = let here = with-bounds db.transactions (least_in dbs) s le in (here.0, in-bounds dbs s here.1)

-- it has one

lesser-is : (n s : ℕ) (o : Option ℕ) → lesser n o ≡ s → (n == s) ≡ false → o ≡ Some s
lesser-is n s None is other = absurd (grind (arith, nat_tests, is, other))
lesser-is n s (Some m) is other =
    let differ : n ≢ s = λ same. absurd (grind (arith, nat_tests, same, other)) in
    let same : m ≡ s = omega (arith, is, differ) in
    ap (λ k. Some k) same

with-there : (ts : List Open) (other : Option ℕ) (s : ℕ) → least_with ts other ≡ Some s → (transaction_of ts s ≡ None → ⊥) ⊎ (other ≡ Some s)
with-there [] other s is = inr is
with-there (t ∷ ts) other s is = by (t.session == s) refl (with-there ts other s)
  where
    by : (b : Bool) → (t.session == s) ≡ b → (least_with ts other ≡ Some s → (transaction_of ts s ≡ None → ⊥) ⊎ (other ≡ Some s)) → (cond b (Some t) (transaction_of ts s) ≡ None → ⊥) ⊎ (other ≡ Some s)
    by true own later = inl (λ gone. absurd (cc (gone)))
    by false another later =
        let least : lesser t.session (least_with ts other) ≡ s = cc (is) in
        later (lesser-is t.session s (least_with ts other) least another)

in-there : (dbs : List Database) (s : ℕ) → least_in dbs ≡ Some s → held_in dbs s ≡ None → ⊥
in-there [] s is none = absurd (cc (is))
in-there (db ∷ dbs) s is none = by (transaction_of db.transactions s) refl none (with-there db.transactions (least_in dbs) s is) (in-there dbs s)
  where
    by : (o : Option Open) → transaction_of db.transactions s ≡ o → held_by db o (held_in dbs s) ≡ None → (transaction_of db.transactions s ≡ None → ⊥) ⊎ (least_in dbs ≡ Some s)
        → (least_in dbs ≡ Some s → held_in dbs s ≡ None → ⊥) → ⊥
    by (Some t) own absent found later = absurd (cc (absent))
    by None gone absent (inl there) later = there gone
    by None gone absent (inr rest) later = later rest absent

-- where there is none, nothing is open

with-none : (ts : List Open) (other : Option ℕ) → least_with ts other ≡ None → (ts ≡ []) × (other ≡ None)
with-none [] other none = (refl, none)
with-none (t ∷ ts) other none = absurd (cc (none))

pub none-open : (dbs : List Database) → least_in dbs ≡ None → AllByRecursion (λ (db : Database). db.transactions ≡ []) dbs
none-open [] none = tt
none-open (db ∷ dbs) none = let here = with-none db.transactions (least_in dbs) none in (here.0, none-open dbs here.1)

-- the open transaction of the least session

pub first-there : (w : World) (s : ℕ) (found : Option HeldRef) → Some s ≡ least_in w.databases → option_map held_of found ≡ held_in w.databases s
    → MatchOption found (AllByRecursion (λ (db : Database). db.transactions ≡ []) w.databases) (λ h. IsFirst w (held_of h))
first-there w s None least none = absurd (in-there w.databases s (sym least) (sym none))
first-there w s (Some h) least is =
    let its : transaction_of h.database.now.transactions s ≡ Some h.transaction.now = (held-is (λ _. Unit {0}) w.databases s (held_of h) (all w.databases) (sym is)).1 in
    let session : h.transaction.now.session ≡ s = open-session h.database.now.transactions s h.transaction.now its in
    let bound : AtLeast s (least_in w.databases) = subst (AtLeast s) least (omega arith) in
    record {
      there = ap (held_in w.databases) session ∙ sym is;
      least = subst (λ n. AllByRecursion (λ (db : Database). AllByRecursion (λ (t : Open). n ≤ t.session) db.transactions) w.databases) (sym session) (in-bounds w.databases s bound);
    }
  where
    all : (dbs : List Database) → AllByRecursion (λ _. Unit {0}) dbs
    all [] = tt
    all (db ∷ dbs) = (tt, all dbs)
