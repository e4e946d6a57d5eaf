-- The first hosted database of a name: it is the one of the world, and what is done to it is done to it there.
use Rattle.std.proofs.Common.{◌≡◌, ◌<◌, ◌+◌, ℕ, zero, suc, Bool, true, false, cond, List, [], ◌∷◌, ◌++◌, map, length, length-set, get_or, Option, Some, None, refl, sym, ◌∙◌, ap, subst, ltb, arith}
use Rattle.std.specs.Prelude.{set, slice_get}
use Rattle.std.specs.List.{AllByRecursion, position, position_or_len, remove}
use Rattle.std.proofs.lemmas.Bool.{lt-ltb}
use Rattle.std.proofs.lemmas.Bool.Decides.{nat_tests}
use Rattle.std.proofs.lemmas.List.Quantifiers.{position-Some}
use Rattle.std.specs.Str.{bytes_eq}
use Rattle.std.proofs.lemmas.Slice.Eq.{bytes_eq-Decides}
use Rattle.bk_ids.specs.Name.{lowered, same_name}
use Rattle.bk_lemmas.specs.Lists.{all_at}
use Rattle.bk_machine.specs.World.{World, Database, database_named, with_database, with_new_database, without_database}
use Rattle.bk_hosted.specs.Hosted.{Hosted, Hosts, IsHosted, database_of, names}

-- A name that is there.

without-here : (name : List ℕ) (ds : List Hosted) (i : ℕ) (x : Hosted) → i < length ds → names name (get_or ds i x) ≡ true
    → ((k : ℕ) → k < i → names name (get_or ds k x) ≡ false) → map database_of (remove ds i) ≡ without_database (map database_of ds) name
without-here name [] i x lt here before = absurd (omega (arith, lt))
without-here name (d ∷ ds) zero x lt here before = rw here refl
without-here name (d ∷ ds) (suc i) x lt here before =
    let other : same_name d.spec.name name ≡ false = before 0 (omega arith) in
    let rest : map database_of (remove ds i) ≡ without_database (map database_of ds) name = without-here name ds i x (omega (arith, lt)) here (λ k h. before (suc k) (omega (arith, h))) in
    rw (other, ← rest) refl

pub without-at : (name : List ℕ) (ds : List Hosted) (i : ℕ) (x : Hosted) → position (names name) ds ≡ Some i → map database_of (remove ds i) ≡ without_database (map database_of ds) name
without-at name ds i x is = let at = position-Some (names name) ds i x is in without-here name ds i x at.0 at.1 at.2

with-here : (name : List ℕ) (change : Database → Database) (ds : List Hosted) (i : ℕ) (x new : Hosted) → i < length ds → names name (get_or ds i x) ≡ true
    → ((k : ℕ) → k < i → names name (get_or ds k x) ≡ false) → database_of new ≡ change (database_of (get_or ds i x))
    → map database_of (set ds i new) ≡ with_database (map database_of ds) name change
with-here name change [] i x new lt here before is = absurd (omega (arith, lt))
with-here name change (d ∷ ds) zero x new lt here before is = rw (here, ← is) refl
with-here name change (d ∷ ds) (suc i) x new lt here before is =
    let other : same_name d.spec.name name ≡ false = before 0 (omega arith) in
    let rest : map database_of (set ds i new) ≡ with_database (map database_of ds) name change = with-here name change ds i x new (omega (arith, lt)) here (λ k h. before (suc k) (omega (arith, h))) is in
    rw (other, ← rest) refl

pub with-at : (name : List ℕ) (change : Database → Database) (ds : List Hosted) (i : ℕ) (x new : Hosted) → position (names name) ds ≡ Some i → x ≡ get_or ds i x
    → database_of new ≡ change (database_of x) → map database_of (set ds i new) ≡ with_database (map database_of ds) name change
with-at name change ds i x new is at based =
    let found = position-Some (names name) ds i x is in
    with-here name change ds i x new found.0 found.1 found.2 (based ∙ ap (λ (d : Hosted). change (database_of d)) at)

-- A name that isn't there.

pub position-none-rest : (p : Hosted → Bool) (d : Hosted) (ds : List Hosted) → p d ≡ false → position p (d ∷ ds) ≡ None → position p ds ≡ None
position-none-rest p d ds other none = later (ltb (position_or_len p ds) (length ds)) refl (rw other at none)
  where
    later : (t : Bool) → ltb (position_or_len p ds) (length ds) ≡ t → cond (ltb (1 + position_or_len p ds) (suc (length ds))) (Some (1 + position_or_len p ds)) None ≡ None
        → cond t (Some (position_or_len p ds)) None ≡ None
    later false e n = refl
    later true e n =
        let more : ltb (1 + position_or_len p ds) (suc (length ds)) ≡ true = grind (arith, nat_tests, e) in
        let found : Some (1 + position_or_len p ds) ≡ None = sym (ap (λ t. cond t (Some (1 + position_or_len p ds)) None) more) ∙ n in
        absurd (cc (found))

pub position-none-here : (p : Hosted → Bool) (d : Hosted) (ds : List Hosted) → position p (d ∷ ds) ≡ None → p d ≡ false
position-none-here p d ds none = by (p d) refl
  where
    by : (t : Bool) → p d ≡ t → p d ≡ false
    by false e = e
    by true e =
        let first : ltb 0 (suc (length ds)) ≡ true = lt-ltb _ _ (omega arith) in
        let found : Some 0 ≡ None = sym (ap (λ t. cond t (Some 0) None) first) ∙ (rw e at none) in
        absurd (cc (found))

pub without-none : (name : List ℕ) (ds : List Hosted) → position (names name) ds ≡ None → map database_of ds ≡ without_database (map database_of ds) name
without-none name [] none = refl
without-none name (d ∷ ds) none =
    let other : same_name d.spec.name name ≡ false = position-none-here (names name) d ds none in
    let rest : map database_of ds ≡ without_database (map database_of ds) name = without-none name ds (position-none-rest (names name) d ds other none) in
    rw (other, ← rest) refl

pub with-none : (name : List ℕ) (change : Database → Database) (ds : List Hosted) → position (names name) ds ≡ None → map database_of ds ≡ with_database (map database_of ds) name change
with-none name change [] none = refl
with-none name change (d ∷ ds) none =
    let other : same_name d.spec.name name ≡ false = position-none-here (names name) d ds none in
    let rest : map database_of ds ≡ with_database (map database_of ds) name change = with-none name change ds (position-none-rest (names name) d ds other none) in
    rw (other, ← rest) refl

-- All of them.

pub all-removed : (P : Hosted → Type 0) (ds : List Hosted) (i : ℕ) → AllByRecursion P ds → AllByRecursion P (remove ds i)
all-removed P [] zero all = tt
all-removed P [] (suc i) all = tt
all-removed P (d ∷ ds) zero all = all.1
all-removed P (d ∷ ds) (suc i) all = (all.0, all-removed P ds i all.1)

pub all-set : (P : Hosted → Type 0) (ds : List Hosted) (i : ℕ) (x new : Hosted) → i < length ds → (P (get_or ds i x) → P new) → AllByRecursion P ds → AllByRecursion P (set ds i new)
all-set P [] i x new lt here all = tt
all-set P (d ∷ ds) zero x new lt here all = (here all.0, all.1)
all-set P (d ∷ ds) (suc i) x new lt here all = (all.0, all-set P ds i x new (omega (arith, lt)) here all.1)

-- The database of a name.

at-named : (name : List ℕ) (ds : List Hosted) (i : ℕ) (x : Hosted) → i < length ds → names name (get_or ds i x) ≡ true
    → ((k : ℕ) → k < i → names name (get_or ds k x) ≡ false) → database_named (map database_of ds) name ≡ Some (database_of (get_or ds i x))
at-named name [] i x lt here before = absurd (omega (arith, lt))
at-named name (d ∷ ds) zero x lt here before = rw here refl
at-named name (d ∷ ds) (suc i) x lt here before =
    let other : same_name d.spec.name name ≡ false = before 0 (omega arith) in
    rw other (at-named name ds i x (omega (arith, lt)) here (λ k h. before (suc k) (omega (arith, h))))

pub named-at : (name : List ℕ) (ds : List Hosted) (i : ℕ) (x : Hosted) → position (names name) ds ≡ Some i → x ≡ get_or ds i x → database_named (map database_of ds) name ≡ Some (database_of x)
named-at name ds i x is at =
    let found = position-Some (names name) ds i x is in
    at-named name ds i x found.0 found.1 found.2 ∙ ap (λ d. Some (database_of d)) (sym at)

pub named-none : (name : List ℕ) (ds : List Hosted) → position (names name) ds ≡ None → database_named (map database_of ds) name ≡ None
named-none name [] none = refl
named-none name (d ∷ ds) none =
    let other : same_name d.spec.name name ≡ false = position-none-here (names name) d ds none in
    rw other (named-none name ds (position-none-rest (names name) d ds other none))

-- it is the first of its own name
pub own-position : (name : List ℕ) (ds : List Hosted) (i : ℕ) (x : Hosted) → position (names name) ds ≡ Some i → x ≡ get_or ds i x → position (names x.spec.name) ds ≡ Some i
own-position name ds i x is at =
    let found = position-Some (names name) ds i x is in
    let same : names name x ≡ true = ap (names name) at ∙ found.1 in
    let low : lowered x.spec.name ≡ lowered name = (bytes_eq-Decides (lowered x.spec.name) (lowered name)).0 same in
    ap (λ l. position (λ (d : Hosted). bytes_eq (lowered d.spec.name) l) ds) low ∙ is

-- Another one in its place.

new-here : (new : Database) (ds : List Hosted) (i : ℕ) (x put : Hosted) → i < length ds → names new.name (get_or ds i x) ≡ true
    → ((k : ℕ) → k < i → names new.name (get_or ds k x) ≡ false) → database_of put ≡ new → map database_of (set ds i put) ≡ with_new_database (map database_of ds) new
new-here new [] i x put lt here before is = absurd (omega (arith, lt))
new-here new (d ∷ ds) zero x put lt here before is = rw (here, ← is) refl
new-here new (d ∷ ds) (suc i) x put lt here before is =
    let other : same_name d.spec.name new.name ≡ false = before 0 (omega arith) in
    let rest : map database_of (set ds i put) ≡ with_new_database (map database_of ds) new = new-here new ds i x put (omega (arith, lt)) here (λ k h. before (suc k) (omega (arith, h))) is in
    rw (other, ← rest) refl

pub new-at : (name : List ℕ) (ds : List Hosted) (i : ℕ) (put : Hosted) → put.spec.name ≡ name → position (names name) ds ≡ Some i
    → map database_of (set ds i put) ≡ with_new_database (map database_of ds) (database_of put)
new-at name ds i put called is =
    let found = position-Some (names put.spec.name) ds i put (ap (λ (n : List ℕ). position (names n) ds) called ∙ is) in
    new-here (database_of put) ds i put put found.0 found.1 found.2 refl

pub new-none : (name : List ℕ) (ds : List Hosted) (put : Hosted) → put.spec.name ≡ name → position (names name) ds ≡ None
    → map database_of (ds ++ put ∷ []) ≡ with_new_database (map database_of ds) (database_of put)
new-none name [] put called none = refl
new-none name (d ∷ ds) put called none =
    let other : same_name d.spec.name put.spec.name ≡ false = ap (same_name d.spec.name) called ∙ position-none-here (names name) d ds none in
    let rest : map database_of (ds ++ put ∷ []) ≡ with_new_database (map database_of ds) (database_of put) =
    new-none name ds put called (position-none-rest (names name) d ds (position-none-here (names name) d ds none) none) in
    rw (other, ← rest) refl

-- One more.

pub all-more : (P : Hosted → Type 0) (ds : List Hosted) (d : Hosted) → AllByRecursion P ds → P d → AllByRecursion P (ds ++ d ∷ [])
all-more P [] d all here = (here, tt)
all-more P (k ∷ ds) d all here = (all.0, all-more P ds d all.1 here)

-- Places.

pub got-or : (ds : List Hosted) (i : ℕ) (x : Hosted) → slice_get ds i ≡ Some x → x ≡ get_or ds i x
got-or [] i x there = absurd (cc)
got-or (d ∷ ds) zero x there = let same : d ≡ x = (cc) in sym same
got-or (d ∷ ds) (suc i) x there = got-or ds i x there

-- another one of the same name is found at its place
pub same-place : (name : List ℕ) (hosted : List Hosted) (i : ℕ) (h new : Hosted) → new.spec.name ≡ h.spec.name → position (names name) hosted ≡ Some i → slice_get hosted i ≡ Some h → position (names name) (set hosted i new) ≡ Some i
same-place name hosted i h new called place there =
    ap (λ n. found n (length (set hosted i new))) (stays hosted i there) ∙ ap (found (position_or_len (names name) hosted)) (length-set hosted i new) ∙ place
  where
    found : ℕ → ℕ → Option ℕ
    found n many = cond (ltb n many) (Some n) None

    is-same : names name new ≡ names name h
    is-same = ap (λ (called : List ℕ). same_name called name) called

    stays : (hs : List Hosted) (k : ℕ) → slice_get hs k ≡ Some h → position_or_len (names name) (set hs k new) ≡ position_or_len (names name) hs
    stays [] k at = absurd (cc)
    stays (x ∷ hs) zero at = let own : x ≡ h = (cc) in here (names name x) refl (is-same ∙ ap (names name) (sym own))
      where
        here : (t : Bool) → names name x ≡ t → names name new ≡ names name x → position_or_len (names name) (new ∷ hs) ≡ position_or_len (names name) (x ∷ hs)
        here true is same = let too : names name new ≡ true = same ∙ is in rw (is, too) refl
        here false is same = let too : names name new ≡ false = same ∙ is in rw (is, too) refl
    stays (x ∷ hs) (suc k) at = behind (names name x) refl (stays hs k at)
      where
        behind : (t : Bool) → names name x ≡ t → position_or_len (names name) (set hs k new) ≡ position_or_len (names name) hs → position_or_len (names name) (x ∷ set hs k new) ≡ position_or_len (names name) (x ∷ hs)
        behind true is later = rw is refl
        behind false is later = rw (is, later) refl

-- the database of a world that has a name is the hosted one at its place
pub named-there : (w : World) (name : List ℕ) (hosted : List Hosted) (i : ℕ) (h : Hosted) → Hosts w hosted → position (names name) hosted ≡ Some i → slice_get hosted i ≡ Some h → (database_named w.databases name ≡ Some (database_of h)) × IsHosted w.history h
named-there w name hosted i h hosts place there =
    let at : h ≡ get_or hosted i h = got-or hosted i h there in
    let inside : i < length hosted = (position-Some (names name) hosted i h place).0 in
    (ap (λ dbs. database_named dbs name) hosts.same ∙ named-at name hosted i h place at, subst (IsHosted w.history) (sym at) (all_at (IsHosted w.history) hosted i h inside hosts.each))
