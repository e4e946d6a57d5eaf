-- Databases are seen as memory has them.
use Rattle.std.proofs.Common.{◌≡◌, ◌<◌, ◌∙◌, ℕ, zero, suc, ◌+◌, Bool, true, false, cond, List, [], ◌∷◌, ◌++◌, length, map, Option, Some, None, inl, inr, refl, sym, ap, subst, arith}
use Rattle.std.specs.List.{AllByRecursion, AllZip}
use Rattle.std.specs.Option.{option_map}
use Rattle.std.proofs.lemmas.List.{length-append}
use Rattle.std.proofs.lemmas.Option.{slice_get-map}
use Rattle.std.specs.Prelude.{◌==◌, ◌&&◌, ◌||◌, slice_get}
use Rattle.std.proofs.lemmas.Bool.Decides.{nat_tests}
use Rattle.bk_hosted.specs.Hosted.{Hosted, IsHosted, database_of, folded, has_checkpoint, is_checkpoint, is_up}
use Rattle.bk_hosting.specs.declared.hosting.State.{State}
use Rattle.bk_hosting.specs.Hosting.{points_by, state_of, known_by, known_at, Kept as KeptHosting}
use Rattle.bk_kept.specs.declared.kept.Database.{Database as KeptDatabase}
use Rattle.bk_kept.specs.declared.kept.Kept.{Kept as Seen}
use Rattle.bk_kept.specs.Keeps.{IsSeenOf, Sees, session_of, database_of as database_in}
use Rattle.bk_known.specs.declared.known.DatabaseSpec.{DatabaseSpec}
use Rattle.bk_lemmas.specs.Tests.{clash}
use Rattle.bk_machine.specs.World.{Database, World, log_of}
use Rattle.bk_machine.specs.statements.Restore.{is_online}
use Rattle.bk_points.specs.declared.points.Points.{Points}
use Rattle.bk_shown.specs.declared.shown.Shown.{Shown}
use Rattle.bk_shown.specs.Shown.{Shows}
use Rattle.bk_store.specs.FrontLaws.{shown-end}
use Rattle.bk_store.specs.Store.{Kept as KeptStore}
use Rattle.bk_stores.specs.ListLaws.{got-more, got-none, got-one}
use Rattle.bk_world.specs.Cut.{end_behind}
use Rattle.bk_world.specs.Lines.{RecordLines, log_below}
use Rattle.bk_world.specs.Records.{Counts, Logged}
use Rattle.bk_engine.specs.Stands.{Kept, own_in}
use Rattle.bk_engine.specs.Viewing.{AreInMemory, IsEndOf, IsSeenAs, Remembers, ShowsBy, seen_by, shown_by}

-- ---- lists side by side

-- what is so at each place
zip-each : {A B : Type 0} (R : A → B → Type 0) (xs : List A) (ys : List B) → length xs ≡ length ys → ((i : ℕ) (x : A) (y : B) → slice_get xs i ≡ Some x → slice_get ys i ≡ Some y → R x y) → AllZip R xs ys
zip-each R [] [] same each = tt
zip-each R [] (y ∷ ys) same each = absurd (omega (arith, same))
zip-each R (x ∷ xs) [] same each = absurd (omega (arith, same))
zip-each R (x ∷ xs) (y ∷ ys) same each = (each zero x y refl refl, zip-each R xs ys (omega (arith, same)) (λ i a b there beside. each (suc i) a b there beside))

pub zip-length : {A B : Type 0} (R : A → B → Type 0) (xs : List A) (ys : List B) → AllZip R xs ys → length xs ≡ length ys
zip-length R [] [] zip = refl
zip-length R [] (y ∷ ys) zip = absurd zip
zip-length R (x ∷ xs) [] zip = absurd zip
zip-length R (x ∷ xs) (y ∷ ys) zip = ap suc (zip-length R xs ys zip.1)

pub zip-got : {A B : Type 0} (R : A → B → Type 0) (xs : List A) (ys : List B) (i : ℕ) (x : A) (y : B) → AllZip R xs ys → slice_get xs i ≡ Some x → slice_get ys i ≡ Some y → R x y
zip-got R [] ys i x y zip there beside = absurd cc
zip-got R (a ∷ xs) [] i x y zip there beside = absurd zip
zip-got R (a ∷ xs) (b ∷ ys) zero x y zip there beside = let one : a ≡ x = cc in let two : b ≡ y = cc in subst (R x) two (subst (λ z. R z b) one zip.0)
zip-got R (a ∷ xs) (b ∷ ys) (suc i) x y zip there beside = zip-got R xs ys i x y zip.1 there beside

-- The first so many stand beside others.
pub record SoFar {A B : Type 0} (R : A → B → Type 0) (xs : List A) (ys : List B) (n : ℕ) : Type 0 where
  pub many : length ys ≡ n
  pub each : (i : ℕ) (x : A) (y : B) → slice_get xs i ≡ Some x → slice_get ys i ≡ Some y → R x y

pub so_far-none : {A B : Type 0} (R : A → B → Type 0) (xs : List A) → SoFar R xs [] 0
so_far-none R xs = record { many = refl; each = λ i x y there beside. absurd (got-none i y beside) }

pub so_far-more : {A B : Type 0} (R : A → B → Type 0) (xs : List A) (ys : List B) (n : ℕ) (y : B) → SoFar R xs ys n → ((x : A) → slice_get xs n ≡ Some x → R x y) → SoFar R xs (ys ++ y ∷ []) (n + 1)
so_far-more R xs ys n y so next = record {
  many = let long : length (ys ++ y ∷ []) ≡ length ys + 1 = length-append ys (y ∷ []) in let same = so.many in omega (arith, long, same);
  each = λ i a b there beside. elim (got-more ys y b i beside) [
    | inl earlier ↦ so.each i a b there earlier
    | inr last ↦ subst (R a) last.1 (next a (subst (λ (k : ℕ). slice_get xs k ≡ Some a) (last.0 ∙ so.many) there))
  ];
}

pub so_far-all : {A B : Type 0} (R : A → B → Type 0) (xs : List A) (ys : List B) (n : ℕ) → SoFar R xs ys n → length xs ≡ n → AllZip R xs ys
so_far-all R xs ys n so all = zip-each R xs ys (all ∙ sym so.many) so.each

-- ---- one database

-- no record has the number 0
none-zero : (n : ℕ) (rs : List Logged) (last : ℕ) → 0 < n → Counts n rs last → has_checkpoint 0 rs ≡ false
none-zero n [] last some counts = refl
none-zero n (r ∷ rs) last some counts =
    let at : r.lsn ≡ n = counts.0 in
    let far : (r.lsn == 0) ≡ false = grind (arith, nat_tests, at, some) in
    ap (λ b. (b && is_checkpoint r.deed) || has_checkpoint 0 rs) far ∙ none-zero (n + 1) rs last (omega arith) counts.1

-- so a log in which none is awaited has not got it
not-awaited : (p : Points) (h : Hosted) → p.next_checkpoint ≡ 0 → Counts 1 h.records (end_behind h.records) → has_checkpoint p.next_checkpoint h.records ≡ false
not-awaited p h none counts = ap (λ n. has_checkpoint n h.records) none ∙ none-zero 1 h.records (end_behind h.records) (omega arith) counts

-- what is seen of one that can be used
seen-up : (h : Hosted) (s : Shown) → Shows h.spec.storage.files h.records s → database_in (seen_by h.spec (record { points = folded h.points h.records; job = h.job; transactions = h.transactions; known = None }) s) ≡ database_of h
seen-up h s shows = ap (λ n. record (database_of h) { end = n }) (shown-end h.spec.storage.files h.records s shows)

-- and of one that is being restored
seen-down : (h : Hosted) (s : Shown) → s.end ≡ end_behind h.records → has_checkpoint h.points.next_checkpoint h.records ≡ false → database_in (seen_by h.spec (record { points = h.points; job = h.job; transactions = h.transactions; known = Some (known_at h) }) s) ≡ database_of h
seen-down h s is none =
    ap (λ n. record (database_of h) { end = n; kept = h.points.kept; checkpoint = h.points.checkpoint }) is
    ∙ ap (λ b. record (database_of h) { kept = cond b h.points.next_kept h.points.kept; checkpoint = cond b h.points.next_checkpoint h.points.checkpoint }) (sym none)

-- what is kept beside its store, where it can be used or not
abbrev state_by : Hosted → Bool → State
state_by h up = record { points = points_by up h; job = h.job; transactions = h.transactions; known = known_by up h }

pub seen-as : (h : Hosted) (slot : Option KeptStore) (st : State) (s : Shown) → st ≡ state_of h → ShowsBy slot h → IsEndOf st s → st.points.next_checkpoint ≡ 0 → IsSeenAs h (seen_by h.spec st (shown_by slot s))
seen-as h None st s is shows ends none =
    subst (λ (t : State). IsEndOf t s → t.points.next_checkpoint ≡ 0 → IsSeenAs h (seen_by h.spec t s)) (sym (is ∙ ap (state_by h) shows.0))
    (λ at zeroed. record { same = seen-down h s at (not-awaited h.points h zeroed shows.1); shows = λ up. clash (is_up h) up shows.0 }) ends none
seen-as h (Some x) st s is shows ends none =
    subst (λ (t : State). IsSeenAs h (seen_by h.spec t x.shown)) (sym (is ∙ ap (state_by h) shows.0)) (record { same = seen-up h x.shown shows.1; shows = λ up. shows.1 })

-- the one at a place, from what is asked of it there
pub seen-at : (x : KeptHosting) (hosted : List Hosted) (h : Hosted) (at : ℕ) (slot : Option KeptStore) (st : State) (s : Shown) (spec : DatabaseSpec) → AreInMemory x hosted → slice_get hosted at ≡ Some h → slice_get x.stores.slots at ≡ Some slot → slice_get x.states at ≡ Some st
    → spec ≡ h.spec → IsEndOf st s → st.points.next_checkpoint ≡ 0 → IsSeenAs h (seen_by spec st (shown_by slot s))
seen-at x hosted h at slot st s spec memory there filled kept same ends none =
    let state : slice_get x.states at ≡ Some (state_of h) = ap (λ (xs : List State). slice_get xs at) memory.states ∙ slice_get-map state_of hosted at ∙ ap (λ (o : Option Hosted). option_map state_of o) there in
    subst (λ (d : DatabaseSpec). IsSeenAs h (seen_by d st (shown_by slot s))) (sym same)
    (seen-as h slot st s (got-one x.states at st (state_of h) kept state) (zip-got ShowsBy x.stores.slots hosted at slot h memory.shows filled there) ends none)

-- ---- all of them

pub all-same : (hosted : List Hosted) (ds : List KeptDatabase) → AllZip IsSeenAs hosted ds → map database_of hosted ≡ map database_in ds
all-same [] [] seen = refl
all-same [] (d ∷ ds) seen = absurd seen
all-same (h ∷ hosted) [] seen = absurd seen
all-same (h ∷ hosted) (d ∷ ds) seen = ap (λ (db : Database). db ∷ map database_of hosted) (sym seen.0.same) ∙ ap (λ (dbs : List Database). database_in d ∷ dbs) (all-same hosted ds seen.1)

seen-of : (history : RecordLines) (h : Hosted) (d : KeptDatabase) → IsHosted history h → IsSeenAs h d → IsSeenOf history d
unfolding log_of
seen-of history h d is seen = λ up.
    let on : is_up h ≡ true = sym (ap (λ (db : Database). is_online db.status) seen.same) ∙ up in
    let log : log_below history d.path d.shown.end ≡ h.records = ap (log_of history) seen.same ∙ is.log in
    let files : d.files ≡ h.spec.storage.files = ap (λ (db : Database). db.files) seen.same in
    subst (λ fs. Shows fs (log_below history d.path d.shown.end) d.shown) (sym files) (subst (λ (rs : List Logged). Shows h.spec.storage.files rs d.shown) (sym log) (seen.shows on))

pub all-seen : (history : RecordLines) (hosted : List Hosted) (ds : List KeptDatabase) → AllByRecursion (IsHosted history) hosted → AllZip IsSeenAs hosted ds → AllByRecursion (IsSeenOf history) ds
all-seen history [] [] each seen = tt
all-seen history [] (d ∷ ds) each seen = absurd seen
all-seen history (h ∷ hosted) [] each seen = absurd seen
all-seen history (h ∷ hosted) (d ∷ ds) each seen = (seen-of history h d each.0 seen.0, all-seen history hosted ds each.1 seen.1)

-- what is seen of an instance
pub view-sees : (e : Kept) (w : World) (k : Seen) → k.number ≡ (own_in e).number → k.counter ≡ e.drawn → k.session ≡ e.session → k.sessions.items ≡ e.sessions
    → ((hosted : List Hosted) → AreInMemory e.hosting hosted → AllZip IsSeenAs hosted k.databases.items) → Remembers e w → Sees w k
view-sees e w k number counter session sessions each knows =
    let seen : AllZip IsSeenAs knows.hosted k.databases.items = each knows.hosted knows.memory in
    record {
      number = knows.instance ∙ sym number;
      counter = knows.counter ∙ sym counter;
      session = knows.session ∙ sym session;
      sessions = knows.sessions ∙ ap (map session_of) (sym sessions);
      databases = knows.hosts.same ∙ all-same knows.hosted k.databases.items seen;
      seen = all-seen w.history knows.hosted k.databases.items knows.hosts.each seen;
    }
