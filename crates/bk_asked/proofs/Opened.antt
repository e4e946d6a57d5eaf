-- What is open in databases that are kept.
use Rattle.std.proofs.Common.{◌≡◌, ◌<◌, ◌+◌, ℕ, cond, List, [], ◌∷◌, map, length, get_or, drop, Option, Some, None, refl, sym, ◌∙◌, ap, arith}
use Rattle.std.specs.Prelude.{◌==◌, fold, reverse}
use Rattle.std.specs.List.{AllByRecursion, find}
use Rattle.std.proofs.lemmas.List.{drop_more, reverse-append}
use Rattle.std.proofs.lemmas.List.Sums.{fold-append}
use Rattle.std.proofs.lemmas.Option.{slice_get_read}
use Rattle.bk_machine.specs.Checks.{least_session, lesser}
use Rattle.bk_machine.specs.World.{World, Held, held_by, held_in, transaction_of}
use Rattle.bk_machine.specs.statements.Target.{own_open}
use Rattle.bk_world.specs.Lines.{RecordLines}
use Rattle.bk_world.specs.declared.transaction.Open.{Open}
use Rattle.bk_kept.specs.declared.kept.Database.{Database as KeptDatabase}
use Rattle.bk_kept.specs.declared.kept.Kept.{Kept}
use Rattle.bk_kept.specs.Keeps.{IsSeenOf, Sees, ShowsLog, database_of}
use Rattle.bk_kept.specs.Numbers.{LeaveNumbers}
use Rattle.bk_kept.specs.NumbersLaws.{kept-at}
use Rattle.bk_asked.specs.Asked.{least_in, least_with}

-- the first of a session, as a search
pub first-open : (ts : List Open) (session : ℕ) → find (λ t. t.session == session) ts ≡ transaction_of ts session
first-open [] session = refl
first-open (t ∷ ts) session = ap (cond (t.session == session) (Some t)) (first-open ts session)

pub own-is : (w : World) (k : Kept) (d : KeptDatabase) (found : Option Open) → found ≡ transaction_of d.transactions k.session → Sees w k → found ≡ own_open w (database_of d)
own-is w k d found is sees = is ∙ ap (transaction_of d.transactions) (sym sees.session)

-- In whichever database.

-- the databases behind the first ones
abbrev behind : List KeptDatabase → ℕ → ℕ → Option Held
behind ds i session = held_in (map database_of (drop i ds)) session

stepped : (ds : List KeptDatabase) (session i : ℕ) (x : KeptDatabase) → i < length ds
    → behind ds i session ≡ held_by (database_of (get_or ds i x)) (transaction_of (get_or ds i x).transactions session) (behind ds (i + 1) session)
stepped ds session i x lt = ap (λ l. held_in (map database_of l) session) (drop_more ds i x lt)

pub held-here : (ds : List KeptDatabase) (session i : ℕ) (x : KeptDatabase) (found : Option Open) (t : Open) → i < length ds → found ≡ transaction_of (get_or ds i x).transactions session → found ≡ Some t
    → behind ds i session ≡ held_in (map database_of ds) session → Some (record { database = database_of (get_or ds i x); transaction = t }) ≡ held_in (map database_of ds) session
held-here ds session i x found t lt is some so =
    sym (stepped ds session i x lt ∙ ap (λ o. held_by (database_of (get_or ds i x)) o (behind ds (i + 1) session)) (sym is ∙ some)) ∙ so

pub held-next : (ds : List KeptDatabase) (session i : ℕ) (x : KeptDatabase) (found : Option Open) → i < length ds → found ≡ transaction_of (get_or ds i x).transactions session → found ≡ None
    → behind ds i session ≡ held_in (map database_of ds) session → behind ds (i + 1) session ≡ held_in (map database_of ds) session
held-next ds session i x found lt is none so =
    sym (stepped ds session i x lt ∙ ap (λ o. held_by (database_of (get_or ds i x)) o (behind ds (i + 1) session)) (sym is ∙ none)) ∙ so

-- the database in which it is found is kept

some-open : (ts : List Open) (session : ℕ) (t : Open) → transaction_of ts session ≡ Some t → 0 < length ts
some-open [] session t is = absurd (cc (is))
some-open (u ∷ ts) session t is = omega arith

pub held-kept : (history : RecordLines) (ds : List KeptDatabase) (session i : ℕ) (x : KeptDatabase) (found : Option Open) (t : Open) → i < length ds → x ≡ get_or ds i x → found ≡ transaction_of x.transactions session → found ≡ Some t
    → LeaveNumbers ds → AllByRecursion (IsSeenOf history) ds → ShowsLog history x
held-kept history ds session i x found t lt at is some leave seen = kept-at history ds i x leave seen (slice_get_read ds (length ds) i x refl lt at) (some-open x.transactions session t (sym is ∙ some))

-- The least session.

-- the least session with that of one transaction more
abbrev pub with_open : Option ℕ → Open → Option ℕ
with_open least t = Some (lesser t.session least)

pub least-folds : (ts : List Open) (last : Option ℕ) → fold with_open last (reverse ts) ≡ least_with ts last
least-folds [] last = refl
least-folds (t ∷ ts) last =
    ap (fold with_open last) (reverse-append (t ∷ []) ts) ∙ fold-append with_open last (reverse ts) (t ∷ []) ∙ ap (λ least. Some (lesser t.session least)) (least-folds ts last)

pub least-alone : (ts : List Open) → least_with ts None ≡ least_session ts
least-alone [] = refl
least-alone (t ∷ ts) = ap (λ least. Some (lesser t.session least)) (least-alone ts)

-- the least session with those of one database more
abbrev pub with_database : Option ℕ → KeptDatabase → Option ℕ
with_database least d = least_with d.transactions least

pub least-of-all : (ds : List KeptDatabase) → fold with_database None (reverse ds) ≡ least_in (map database_of ds)
least-of-all [] = refl
least-of-all (d ∷ ds) =
    ap (fold with_database None) (reverse-append (d ∷ []) ds) ∙ fold-append with_database None (reverse ds) (d ∷ []) ∙ ap (least_with d.transactions) (least-of-all ds)
