-- What may wait in memory.
use Rattle.std.proofs.Common.{◌≡◌, ℕ, zero, suc, Bool, true, false, List, [], ◌∷◌, map, Some, None, refl, sym, ap, subst, ◌∙◌}
use Rattle.std.specs.Prelude.{◌&&◌, nat_lt, not, slice_get}
use Rattle.std.specs.List.{AllByRecursion, list_all, position}
use Rattle.std.proofs.lemmas.Bool.{and_parts, ltb-true}
use Rattle.std.proofs.lemmas.Option.{same_Some}
use Rattle.bk_hosted.specs.Fronts.{Waits}
use Rattle.bk_hosted.specs.Hosted.{Hosted, Hosts, database_of, names}
use Rattle.bk_hosted.specs.PlaceLaws.{named-there}
use Rattle.bk_hosting.specs.declared.hosting.State.{State}
use Rattle.bk_hosting.specs.Hosting.{state_of}
use Rattle.bk_ids.specs.declared.record.Rec.{Rec}
use Rattle.bk_lemmas.specs.Lists.{all_tested}
use Rattle.bk_machine.specs.Sound.{has_begin}
use Rattle.bk_machine.specs.World.{Database, World}
use Rattle.bk_stores.specs.ListLaws.{got-none}
use Rattle.bk_undo.specs.Spelled.{body_of, spelled}
use Rattle.bk_world.specs.declared.transaction.Open.{Open}
use Rattle.bk_world.specs.Records.{Deed, Logged, Said, begun, written, numbered, database_made, table_made, committed, rolled_back, undone, checkpointed, stamped, model_set, loaded, recovered}
use Rattle.bk_world.specs.Telling.{telling}
use Rattle.bk_engine.specs.Acts.{MaySayIn}
use Rattle.bk_engine.specs.Saying.{is_begin_or_write, is_open_write, may_wait}

-- what begins a transaction or writes tells no entry
quiet : (deed : Deed) → is_begin_or_write (body_of deed) ≡ true → telling deed ≡ None
quiet begun is = refl
quiet (written at before c) is = refl
quiet (database_made time family branch) is = absurd cc
quiet (table_made time spec) is = absurd cc
quiet (committed time mark) is = absurd cc
quiet rolled_back is = absurd cc
quiet (undone at c n) is = absurd cc
quiet (checkpointed time) is = absurd cc
quiet (stamped time set) is = absurd cc
quiet (model_set time model) is = absurd cc
quiet (loaded load) is = absurd cc
quiet (recovered branch) is = absurd cc

one-waits : (ts : List Open) (r : Logged) → is_open_write ts (spelled r) ≡ true → Waits ts r
one-waits ts r is =
    let first = and_parts (nat_lt 0 r.begin && has_begin ts r.begin) (is_begin_or_write (body_of r.deed)) is in
    let parts = and_parts (nat_lt 0 r.begin) (has_begin ts r.begin) first.0 in
    record { some = ltb-true 0 r.begin parts.0; of_open = parts.1; quiet = quiet r.deed first.1 }

all-wait : (ts : List Open) (rs : List Logged) → list_all (is_open_write ts) (map spelled rs) ≡ true → AllByRecursion (Waits ts) rs
all-wait ts [] is = tt
all-wait ts (r ∷ rs) is =
    let parts = and_parts (is_open_write ts (spelled r)) (list_all (is_open_write ts) (map spelled rs)) is in
    (one-waits ts r parts.0, all-wait ts rs parts.1)

all-open : (ts before : List Open) → list_all (λ (t : Open). has_begin ts t.begin) before ≡ true → AllByRecursion (λ (t : Open). has_begin ts t.begin ≡ true) before
all-open ts before is = all_tested (λ (t : Open). has_begin ts t.begin) (λ (t : Open). has_begin ts t.begin ≡ true) (λ t is. is) before is

got-mapped : {A B : Type 0} (f : A → B) (xs : List A) (i : ℕ) (x : A) → slice_get xs i ≡ Some x → slice_get (map f xs) i ≡ Some (f x)
got-mapped f [] i x there = absurd (got-none i x there)
got-mapped f (y ∷ xs) zero x there = ap (λ z. Some (f z)) (same_Some y x there)
got-mapped f (y ∷ xs) (suc i) x there = got-mapped f xs i x there

not-false : (b : Bool) → not b ≡ false → b ≡ true
not-false true is = refl
not-false false is = absurd cc

module _ (w : World) (name : List ℕ) (said : List Said) (ts : List Open) (records : List Rec) (hosted : List Hosted) (i : ℕ) (h : Hosted) (hosts : Hosts w hosted) (place : position (names name) hosted ≡ Some i) (there : slice_get hosted i ≡ Some h)
    (states : List State) (st : State) (are : states ≡ map state_of hosted) (at : slice_get states i ≡ Some st) (waits : Bool) (is : waits ≡ may_wait records ts st.transactions) (may : MaySayIn w name said ts records true) where
  -- what is open in it is what its state says
  same-open : st.transactions ≡ may.db.transactions
  same-open =
      let found : Some st ≡ Some (state_of h) = sym at ∙ ap (λ (ss : List State). slice_get ss i) are ∙ got-mapped state_of hosted i h there in
      let db : database_of h ≡ may.db = same_Some (database_of h) may.db (sym (named-there w name hosted i h hosts place there).0 ∙ may.found) in
      ap (λ (s : State). s.transactions) (same_Some st (state_of h) found) ∙ ap (λ (d : Database). d.transactions) db

  -- it may say this so, and what waits may wait
  pub says-so : MaySayIn w name said ts records (not waits)
  says-so = record {
    db = may.db;
    found = may.found;
    may = may.may;
    next = may.next;
    spelled_are = may.spelled_are;
    plain = may.plain;
    waits = λ lasts.
        let test : may_wait records ts st.transactions ≡ true = sym is ∙ not-false waits lasts in
        let parts = and_parts (list_all (is_open_write ts) records) (list_all (λ (t : Open). has_begin ts t.begin) st.transactions) test in (
          all-wait ts (numbered may.db.end said) (subst (λ (rs : List Rec). list_all (is_open_write ts) rs ≡ true) (sym may.spelled_are) parts.0),
          all-open ts may.db.transactions (subst (λ (before : List Open). list_all (λ (t : Open). has_begin ts t.begin) before ≡ true) same-open parts.1),
        );
  }
