-- The open transaction of a session: it is one of those of its database, which is online.
use Rattle.std.proofs.Common.{◌≡◌, ◌≢◌, ◌<◌, ℕ, suc, Bool, true, false, cond, List, [], ◌∷◌, Option, None, Some, refl, sym, ◌∙◌, ap, subst, arith}
use Rattle.std.specs.Prelude.{◌==◌, ◌||◌, Contains}
use Rattle.std.specs.List.{AllByRecursion}
use Rattle.std.proofs.lemmas.Bool.Decides.{nat_tests}
use Rattle.bk_lemmas.specs.Lists.{all_both}
use Rattle.bk_world.specs.declared.database.Status.{Status}
use Rattle.bk_world.specs.declared.database.Status.TheVariants.{Online, Standby, Down}
use Rattle.bk_machine.specs.NamedLaws.{named-each}
use Rattle.bk_machine.specs.Sound.{IsSound, OpenBy, has_begin}
use Rattle.bk_machine.specs.UpLaws.{IsUp, is-up}
use Rattle.bk_world.specs.declared.transaction.Open.{Open}
use Rattle.bk_machine.specs.World.{Database, Held, World, database_named, held_by, held_in, transaction_of}

-- Among transactions.

-- the transaction of a session is one of all
pub open-there : (ts : List Open) (session : ℕ) (t : Open) → transaction_of ts session ≡ Some t → Contains ts t
open-there [] session t is = absurd (cc)
open-there (u ∷ ts) session t is = by (u.session == session) is (open-there ts session t)
  where
    by : (b : Bool) → cond b (Some u) (transaction_of ts session) ≡ Some t → (transaction_of ts session ≡ Some t → Contains ts t) → Contains (u ∷ ts) t
    by true is later = let same : u ≡ t = cc in (0, omega arith, same)
    by false is later = let rest : Contains ts t = later is in (suc rest.0, omega (arith, rest.1), rest.2)

pub open-begin : (ts : List Open) (session : ℕ) (t : Open) → transaction_of ts session ≡ Some t → has_begin ts t.begin ≡ true
open-begin [] session t is = absurd (cc)
open-begin (u ∷ ts) session t is = by (u.session == session) is (open-begin ts session t)
  where
    or-true : (b : Bool) → (b || true) ≡ true
    or-true true = refl
    or-true false = refl

    by : (b : Bool) → cond b (Some u) (transaction_of ts session) ≡ Some t → (transaction_of ts session ≡ Some t → has_begin ts t.begin ≡ true) → has_begin (u ∷ ts) t.begin ≡ true
    by true is later =
        let same : t.begin ≡ u.begin = ap (λ (x : Open). x.begin) (let one : u ≡ t = cc in sym one) in
        let own : (u.begin == t.begin) ≡ true = grind (arith, nat_tests, same) in
        rw own refl
    by false is later = ap (λ b. (u.begin == t.begin) || b) (later is) ∙ or-true (u.begin == t.begin)

-- it began below the end
pub begin-lies : (ts : List Open) (session end : ℕ) (t : Open) → transaction_of ts session ≡ Some t → AllByRecursion (λ (u : Open). (0 < u.begin) × (u.begin < end)) ts → t.begin < end
begin-lies [] session end t is all = absurd (cc)
begin-lies (u ∷ ts) session end t is all = by (u.session == session) is (λ later. begin-lies ts session end t later all.1)
  where
    by : (b : Bool) → cond b (Some u) (transaction_of ts session) ≡ Some t → (transaction_of ts session ≡ Some t → t.begin < end) → t.begin < end
    by true is later = let same : u ≡ t = cc in subst (λ (x : Open). x.begin < end) same all.0.1
    by false is later = later is

-- it is the session's
pub open-session : (ts : List Open) (session : ℕ) (t : Open) → transaction_of ts session ≡ Some t → t.session ≡ session
open-session [] session t is = absurd (cc)
open-session (u ∷ ts) session t is = by (u.session == session) refl is (open-session ts session t)
  where
    by : (b : Bool) → (u.session == session) ≡ b → cond b (Some u) (transaction_of ts session) ≡ Some t → (transaction_of ts session ≡ Some t → t.session ≡ session) → t.session ≡ session
    by true own is later = let same : u ≡ t = cc in let its : u.session ≡ session = grind (arith, nat_tests, own) in sym (ap (λ (x : Open). x.session) same) ∙ its
    by false other is later = later is

-- In databases.

pub held-is : (P : Database → Type 0) (dbs : List Database) (session : ℕ) (h : Held) → AllByRecursion P dbs → held_in dbs session ≡ Some h → P h.database × (transaction_of h.database.transactions session ≡ Some h.transaction)
held-is P [] session h all is = absurd (cc)
held-is P (db ∷ dbs) session h all is = by (transaction_of db.transactions session) refl is (held-is P dbs session h all.1)
  where
    by : (o : Option Open) → transaction_of db.transactions session ≡ o → held_by db o (held_in dbs session) ≡ Some h → (held_in dbs session ≡ Some h → P h.database × (transaction_of h.database.transactions session ≡ Some h.transaction))
        → P h.database × (transaction_of h.database.transactions session ≡ Some h.transaction)
    by None none is later = later is
    by (Some t) own is later =
        let mine : Held = record { database = db; transaction = t } in
        let same : mine ≡ h = cc in
        subst (λ (x : Held). P x.database × (transaction_of x.database.transactions session ≡ Some x.transaction)) same (all.0, own)

-- where it has none, it has none in any database
pub held-none : (dbs : List Database) (session : ℕ) → held_in dbs session ≡ None → AllByRecursion (λ (db : Database). transaction_of db.transactions session ≡ None) dbs
held-none [] session none = tt
held-none (db ∷ dbs) session none = by (transaction_of db.transactions session) refl none (held-none dbs session)
  where
    by : (o : Option Open) → transaction_of db.transactions session ≡ o → held_by db o (held_in dbs session) ≡ None → (held_in dbs session ≡ None → AllByRecursion (λ (d : Database). transaction_of d.transactions session ≡ None) dbs)
        → AllByRecursion (λ (d : Database). transaction_of d.transactions session ≡ None) (db ∷ dbs)
    by None own none later = (own, later none)
    by (Some t) own none later = absurd (cc)

-- a database in which one is open is online
pub open-online : (w : World) (db : Database) (session : ℕ) (t : Open) → OpenBy w.history db → transaction_of db.transactions session ≡ Some t → db.status ≡ Online
open-online w db session t opens own = by db.status refl
  where
    closed : db.status ≢ Online → ⊥
    closed off = let none : transaction_of [] session ≡ Some t = sym (ap (λ ts. transaction_of ts session) (opens.offline off).transactions) ∙ own in cc

    by : (s : Status) → db.status ≡ s → db.status ≡ Online
    by Online is = is
    by (Standby file) is = absurd (closed (λ up. let wrong : Standby file ≡ Online = sym is ∙ up in absurd (cc)))
    by Down is = absurd (closed (λ up. let wrong : Down ≡ Online = sym is ∙ up in absurd (cc)))

-- an open transaction, in a database that is online
pub record IsHeldBy (w : World) (session : ℕ) (h : Held) : Type 0 where
  pub up : IsUp w h.database
  pub own : transaction_of h.database.transactions session ≡ Some h.transaction

pub held-up : (w : World) (session : ℕ) (h : Held) → IsSound w → held_in w.databases session ≡ Some h → IsHeldBy w session h
held-up w session h sound is =
    let each : AllByRecursion (λ (db : Database). database_named w.databases db.name ≡ Some db) w.databases = named-each w.databases sound.whole.different in
    let both = held-is (λ (db : Database). (database_named w.databases db.name ≡ Some db) × OpenBy w.history db) w.databases session h
    (all_both (λ (db : Database). database_named w.databases db.name ≡ Some db) (OpenBy w.history) (λ (db : Database). (database_named w.databases db.name ≡ Some db) × OpenBy w.history db) (λ db a b. (a, b)) w.databases each sound.opens) is in
    record { up = is-up w h.database sound both.0.0 (open-online w h.database session h.transaction both.0.1 both.1); own = both.1 }
