-- Closing a run rollback by rollback.
use Rattle.std.proofs.Common.{◌≡◌, ◌≤◌, ℕ, Bool, true, false, cond, List, [], ◌∷◌, ◌++◌, length, None, Some, refl, sym, ◌∙◌, ap, subst, arith}
use Rattle.std.specs.Prelude.{◌==◌}
use Rattle.std.specs.List.{AllByRecursion}
use Rattle.bk_world.specs.declared.transaction.Open.{Open}
use Rattle.bk_machine.specs.Acts.{Act, done, done_all}
use Rattle.bk_machine.specs.Closing.{AreClosing, IsClosingFront, IsFirst, count_open}
use Rattle.bk_machine.specs.HeldLaws.{held-is, open-session}
use Rattle.bk_machine.specs.World.{Database, Held, World, held_by, held_in, transaction_of}

-- Acts.

pub done-joined : (w : World) (a b : List Act) → done_all w (a ++ b) ≡ done_all (done_all w a) b
done-joined w [] b = refl
done-joined w (act ∷ a) b = done-joined (done w act) a b

-- a front goes on
pub front-joined : (w : World) (a b : List Act) → IsClosingFront w a → IsClosingFront (done_all w a) b → IsClosingFront w (a ++ b)
front-joined w [] b front rest = rest
front-joined w (act ∷ a) b (closes, front) rest = (closes, front-joined (done w act) a b front rest)

pub closing-joined : (w : World) (a b : List Act) → IsClosingFront w a → AreClosing (done_all w a) b → AreClosing w (a ++ b)
closing-joined w [] b front rest = rest
closing-joined w (act ∷ a) b (closes, front) rest = (closes, closing-joined (done w act) a b front rest)

-- each front of a closing is one, and the rest closes what is behind it
pub closing-parts : (w : World) (a b : List Act) → AreClosing w (a ++ b) → IsClosingFront w a × AreClosing (done_all w a) b
closing-parts w [] b closing = (tt, closing)
closing-parts w (act ∷ a) b (closes, closing) = let rest = closing-parts (done w act) a b closing in ((closes, rest.0), rest.1)

-- where none is open, nothing is left to be rolled back
pub none-open : (dbs : List Database) → count_open dbs ≡ 0 → AllByRecursion (λ (db : Database). db.transactions ≡ []) dbs
none-open [] none = tt
none-open (db ∷ dbs) none = (empty db.transactions (omega (arith, none)), none-open dbs (omega (arith, none)))
  where
    empty : (ts : List Open) → length ts ≡ 0 → ts ≡ []
    empty [] is = refl
    empty (t ∷ ts) is = absurd (omega (arith, is))

-- The first one.

-- what holds of all transactions holds of that of a session
pub open-all : (P : Open → Type 0) (ts : List Open) (session : ℕ) (t : Open) → AllByRecursion P ts → transaction_of ts session ≡ Some t → P t
open-all P [] session t all is = absurd (cc)
open-all P (u ∷ ts) session t all is = by (u.session == session) is (open-all P ts session t all.1)
  where
    by : (b : Bool) → cond b (Some u) (transaction_of ts session) ≡ Some t → (transaction_of ts session ≡ Some t → P t) → P t
    by true is later = let same : u ≡ t = cc in subst P same all.0
    by false is later = later is

-- the databases before it have none of the session
pub held-place : (front rest : List Database) (db : Database) (session : ℕ) (t : Open) → AllByRecursion (λ (d : Database). transaction_of d.transactions session ≡ None) front → transaction_of db.transactions session ≡ Some t
    → held_in (front ++ db ∷ rest) session ≡ Some (record { database = db; transaction = t })
held-place [] rest db session t none own = ap (λ o. held_by db o (held_in rest session)) own
held-place (d ∷ front) rest db session t none own = ap (λ o. held_by d o (held_in (front ++ db ∷ rest) session)) none.0 ∙ held-place front rest db session t none.1 own

-- one of the least session is the first
pub first-found : (w : World) (session : ℕ) (h : Held) → held_in w.databases session ≡ Some h → AllByRecursion (λ (db : Database). AllByRecursion (λ (t : Open). session ≤ t.session) db.transactions) w.databases → IsFirst w h
first-found w session h there least =
    let own = held-is (λ (db : Database). AllByRecursion (λ (t : Open). session ≤ t.session) db.transactions) w.databases session h least there in
    let its : h.transaction.session ≡ session = open-session h.database.transactions session h.transaction own.1 in record {
      there = ap (held_in w.databases) its ∙ there;
      least = subst (λ n. AllByRecursion (λ (db : Database). AllByRecursion (λ (t : Open). n ≤ t.session) db.transactions) w.databases) (sym its) least;
    }

-- and there is no other
pub first-alone : (w : World) (a b : Held) → IsFirst w a → IsFirst w b → a ≡ b
first-alone w a b one two =
    let up : b.transaction.session ≤ a.transaction.session = below a b one two in
    let down : a.transaction.session ≤ b.transaction.session = below b a two one in
    let same : a.transaction.session ≡ b.transaction.session = omega (arith, up, down) in
    inner a b (sym one.there ∙ ap (held_in w.databases) same ∙ two.there)
  where
    inner : (x y : Held) → Some x ≡ Some y → x ≡ y
    inner x y same = cc

    below : (x y : Held) → IsFirst w x → IsFirst w y → y.transaction.session ≤ x.transaction.session
    below x y first other =
        let own = held-is (λ (db : Database). AllByRecursion (λ (t : Open). y.transaction.session ≤ t.session) db.transactions) w.databases x.transaction.session x other.least first.there in
        open-all (λ (t : Open). y.transaction.session ≤ t.session) x.database.transactions x.transaction.session x.transaction own.0 own.1
