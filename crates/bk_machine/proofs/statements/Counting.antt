-- A run can be closed: while some transaction is open, one of the least session is, and each rollback leaves one less.
use Rattle.std.proofs.Common.{◌≡◌, ◌≢◌, ◌≤◌, ◌⊎◌, inl, inr, ℕ, zero, suc, ◌+◌, Bool, true, false, cond, List, [], ◌∷◌, length, Option, None, Some, refl, sym, ◌∙◌, ap, subst, arith}
use Rattle.std.specs.Prelude.{◌==◌}
use Rattle.std.specs.List.{AllByRecursion}
use Rattle.std.proofs.lemmas.Bool.Decides.{nat_tests}
use Rattle.bk_ids.specs.Name.{same_name}
use Rattle.bk_lemmas.specs.Lists.{all_both, all_mapped}
use Rattle.bk_world.specs.declared.database.Status.{Status}
use Rattle.bk_world.specs.declared.database.Status.TheVariants.{Online, Standby, Down}
use Rattle.bk_machine.proofs.statements.Closing.{dropped-idle}
use Rattle.bk_machine.specs.Acts.{Act, done, where_found, jobs_dropped}
use Rattle.bk_machine.specs.Closing.{AreClosing, IsFirst, count_open}
use Rattle.bk_machine.specs.ClosingLaws.{none-open}
use Rattle.bk_machine.specs.HeldLaws.{IsHeldBy, held-is, held-none, held-up, open-begin, open-session}
use Rattle.bk_machine.specs.Sound.{IsSound, OpenBy}
use Rattle.bk_world.specs.declared.transaction.Open.{Open}
use Rattle.bk_machine.specs.World.{Database, Held, World, database_named, held_in, log_of, most_sessions, transaction_of, with_database, without_begin}
use Rattle.bk_machine.specs.statements.Rollback.{rolls_back}
use Rattle.bk_machine.proofs.Acting.{act-sound}
use Rattle.bk_machine.proofs.statements.Ending.{none-its}
use Rattle.bk_machine.proofs.statements.Few.{one-less}
use Rattle.bk_machine.proofs.statements.Transactions.{rollback-well}

-- ---- one of the least session

-- each open transaction is of this session or of one behind it
abbrev AreFrom : ℕ → Database → Type 0
AreFrom n db = AllByRecursion (λ (t : Open). n ≤ t.session) db.transactions

-- each is of one of the sessions
few-seats : (w : World) (db : Database) → OpenBy w.history db → AllByRecursion (λ (t : Open). t.session ≤ most_sessions) db.transactions
few-seats w db opens = by db.status refl
  where
    closed : db.status ≢ Online → AllByRecursion (λ (t : Open). t.session ≤ most_sessions) db.transactions
    closed off = subst (AllByRecursion (λ (t : Open). t.session ≤ most_sessions)) (sym (opens.offline off).transactions) tt

    by : (s : Status) → db.status ≡ s → AllByRecursion (λ (t : Open). t.session ≤ most_sessions) db.transactions
    by Online is = (opens.online is).seats
    by (Standby file) is = closed (λ up. let wrong : Standby file ≡ Online = sym is ∙ up in absurd (cc))
    by Down is = closed (λ up. let wrong : Down ≡ Online = sym is ∙ up in absurd (cc))

-- none lies beyond the last session
none-left : (ts : List Open) → AllByRecursion (λ (t : Open). t.session ≤ most_sessions) ts → AllByRecursion (λ (t : Open). 33 ≤ t.session) ts → ts ≡ []
none-left [] seats from = refl
none-left (t ∷ ts) seats from = absurd (omega (arith, seats.0, from.0))

-- where a session has none, all are behind it
all-behind : (n : ℕ) (ts : List Open) → transaction_of ts n ≡ None → AllByRecursion (λ (t : Open). n ≤ t.session) ts → AllByRecursion (λ (t : Open). n + 1 ≤ t.session) ts
all-behind n ts none from =
    all_both (λ (t : Open). t.session ≢ n) (λ (t : Open). n ≤ t.session) (λ (t : Open). n + 1 ≤ t.session) (λ t other le. by t other le (t.session == n) refl) ts (none-its ts n none) from
  where
    by : (t : Open) → t.session ≢ n → n ≤ t.session → (b : Bool) → (t.session == n) ≡ b → n + 1 ≤ t.session
    by t other le true is = let same : t.session ≡ n = grind (arith, nat_tests, is) in absurd (other same)
    by t other le false is = grind (arith, nat_tests, is, le)

first-from : (w : World) (n d : ℕ) → n + d ≡ 33 → AllByRecursion (OpenBy w.history) w.databases → AllByRecursion (AreFrom n) w.databases
    → AllByRecursion (λ (db : Database). db.transactions ≡ []) w.databases ⊎ ((h : Held) × IsFirst w h)
first-from w n zero is opens from =
    let last : n ≡ 33 = omega (arith, is) in
    inl (all_both (OpenBy w.history) (AreFrom n) (λ (db : Database). db.transactions ≡ [])
    (λ db one each. none-left db.transactions (few-seats w db one) (subst (λ m. AllByRecursion (λ (t : Open). m ≤ t.session) db.transactions) last each)) w.databases opens from)
first-from w n (suc d) is opens from = by (held_in w.databases n) refl (λ none. first-from w (n + 1) d (omega (arith, is)) opens (later none))
  where
    later : held_in w.databases n ≡ None → AllByRecursion (AreFrom (n + 1)) w.databases
    later none =
        all_both (λ (db : Database). transaction_of db.transactions n ≡ None) (AreFrom n) (AreFrom (n + 1)) (λ db no each. all-behind n db.transactions no each) w.databases (held-none w.databases n none) from

    by : (o : Option Held) → held_in w.databases n ≡ o → (held_in w.databases n ≡ None → AllByRecursion (λ (db : Database). db.transactions ≡ []) w.databases ⊎ ((h : Held) × IsFirst w h))
        → AllByRecursion (λ (db : Database). db.transactions ≡ []) w.databases ⊎ ((h : Held) × IsFirst w h)
    by None none rest = rest none
    by (Some h) there rest =
        let own = held-is (AreFrom n) w.databases n h from there in
        let its : h.transaction.session ≡ n = open-session h.database.transactions n h.transaction own.1 in
        inr (
          h,
          record {
            there = ap (held_in w.databases) its ∙ there;
            least = subst (λ m. AllByRecursion (AreFrom m) w.databases) (sym its) from;
          },
        )

pub first : (w : World) → IsSound w → AllByRecursion (λ (db : Database). db.transactions ≡ []) w.databases ⊎ ((h : Held) × IsFirst w h)
first w sound = first-from w 0 33 refl sound.opens (all_mapped (OpenBy w.history) (AreFrom 0) (λ db opens. from db.transactions) w.databases sound.opens)
  where
    from : (ts : List Open) → AllByRecursion (λ (t : Open). 0 ≤ t.session) ts
    from [] = tt
    from (t ∷ ts) = (omega arith, from ts)

-- ---- how many are open

-- where one ends there are fewer in all
fewer-open : (dbs : List Database) (name : List ℕ) (db : Database) (change : Database → Database) → database_named dbs name ≡ Some db → length (change db).transactions + 1 ≡ length db.transactions
    → count_open (with_database dbs name change) + 1 ≡ count_open dbs
fewer-open [] name db change is less = absurd (cc)
fewer-open (d ∷ dbs) name db change is less = by (same_name d.name name) is (λ e. fewer-open dbs name db change e less)
  where
    by : (b : Bool) → cond b (Some d) (database_named dbs name) ≡ Some db → (database_named dbs name ≡ Some db → count_open (with_database dbs name change) + 1 ≡ count_open dbs)
        → count_open (cond b (change d ∷ dbs) (d ∷ with_database dbs name change)) + 1 ≡ count_open (d ∷ dbs)
    by true e later =
        let same : d ≡ db = cc in
        let its : length (change d).transactions + 1 ≡ length d.transactions = subst (λ (x : Database). length (change x).transactions + 1 ≡ length x.transactions) (sym same) less in
        omega (arith, its)
    by false e later = let rest : count_open (with_database dbs name change) + 1 ≡ count_open dbs = later e in omega (arith, rest)

pub rolled-fewer : (w : World) (h : Held) → IsSound w → held_in w.databases h.transaction.session ≡ Some h → count_open (done w (rolls_back w h)).databases + 1 ≡ count_open w.databases
unfolding done Rattle.bk_machine.specs.Acts.says
rolled-fewer w h sound there =
    let held : IsHeldBy w h.transaction.session h = held-up w h.transaction.session h sound there in
    let less : length (without_begin h.database.transactions h.transaction.begin) + 1 ≡ length h.database.transactions =
    one-less h.database.transactions h.transaction.begin held.up.opens.apart (open-begin h.database.transactions h.transaction.session h.transaction held.own) in
    subst (λ (o : Option Database). count_open (where_found w o (λ db. Rattle.bk_machine.specs.Acts.says w db (Rattle.bk_world.specs.Says.rollback_said h.transaction.begin (Rattle.bk_world.specs.Pending.pending (log_of w.history h.database))) (without_begin h.database.transactions h.transaction.begin))).databases + 1 ≡ count_open w.databases)
    (sym held.up.named) (fewer-open w.databases h.database.name h.database _ held.up.named less)

-- ---- closing

closing-within : (n : ℕ) (w : World) → IsSound w → count_open w.databases ≤ n → (acts : List Act) × AreClosing w acts
closing-within zero w sound le = (jobs_dropped ∷ [], (inl refl, dropped-idle w (none-open w.databases (omega (arith, le)))))
closing-within (suc n) w sound le = by (first w sound) (λ h is. closing-within n (done w (rolls_back w h)) (next h is) (fewer h is))
  where
    next : (h : Held) → IsFirst w h → IsSound (done w (rolls_back w h))
    next h is = act-sound w (rolls_back w h) sound (rollback-well w h.transaction.session h sound is.there).may.0

    fewer : (h : Held) → IsFirst w h → count_open (done w (rolls_back w h)).databases ≤ n
    fewer h is = let less : count_open (done w (rolls_back w h)).databases + 1 ≡ count_open w.databases = rolled-fewer w h sound is.there in omega (arith, le, less)

    by : AllByRecursion (λ (db : Database). db.transactions ≡ []) w.databases ⊎ ((h : Held) × IsFirst w h) → ((h : Held) → IsFirst w h → (acts : List Act) × AreClosing (done w (rolls_back w h)) acts) → (acts : List Act) × AreClosing w acts
    by (inl none) rest = (jobs_dropped ∷ [], (inl refl, dropped-idle w none))
    by (inr (h, is)) rest = let more : (acts : List Act) × AreClosing (done w (rolls_back w h)) acts = rest h is in (rolls_back w h ∷ more.0, (inr (h, is, refl), more.1))

pub closing-comes : (w : World) → IsSound w → (acts : List Act) × AreClosing w acts
closing-comes w sound = closing-within (count_open w.databases) w sound (omega arith)
