-- In a sound log without loads each row that lies somewhere lies in a cell of its table's group, and no two rows lie in one.
use Rattle.std.proofs.Common.{◌≡◌, ◌≢◌, ◌⊎◌, inl, inr, ℕ, zero, suc, Bool, true, false, cond, not, ◌&&◌, List, [], ◌∷◌, ◌++◌, Option, Some, None, refl, sym, ◌∙◌, ap, subst, arith, append_assoc}
use Rattle.std.specs.Prelude.{◌==◌, is_some, Contains}
use Rattle.std.specs.List.{AllByRecursion, filter, find}
use Rattle.std.proofs.lemmas.List.{append-nil}
use Rattle.bk_ids.specs.declared.record.Place.{Place}
use Rattle.bk_world.specs.LastLaws.{is_its, last-all, last-dropped, last-kept, last-more, last-none}
use Rattle.bk_lemmas.specs.Lists.{all_both, all_filter, all_joined, all_mapped}
use Rattle.bk_world.specs.Pending.{Pending, of_others, of_transaction, pending, pending_after}
use Rattle.bk_world.specs.Places.{home_behind, homes, homes_after, last_of, later, place_behind, place_of}
use Rattle.bk_world.specs.ReadingLaws.{homes-more, pending-more}
use Rattle.bk_world.specs.Records.{Deed, Logged, RowId, begun, checkpointed, committed, database_made, id_of, is_row, loaded, model_set, recovered, rolled_back, stamped, table_made, undone, written}
use Rattle.bk_world.specs.Rows.{tables_of}
use Rattle.bk_world.specs.SoundLogs.{IsSound as IsSoundLog, MayCome, MayFollow}
use Rattle.bk_world.specs.Telling.{entries, entries_from, tables}
use Rattle.bk_world.specs.declared.database.FileSpec.{FileSpec}
use Rattle.bk_world.specs.declared.database.TableSpec.{TableSpec}
use Rattle.bk_world.specs.RowLaws.{row-same, row-itself}
use Rattle.bk_machine.specs.Built.{IsNoLoad, LiesWell}
use Rattle.bk_machine.specs.Sound.{ArePlaced, IsPlaced}
use Rattle.bk_machine.proofs.ActsLogs.{tables-more}
use Rattle.bk_machine.proofs.Left.{of-contained}

-- ---- lists

-- what holds of each that is contained holds of all
all-self : {X : Type 0} (P : X → Type 0) (xs : List X) → ((x : X) → Contains xs x → P x) → AllByRecursion P xs
all-self P [] each = tt
all-self P (x ∷ xs) each = (each x (zero, omega arith, refl), all-self P xs (λ y there. each y (suc there.0, omega (arith, there.1), there.2)))

find-more : (p : TableSpec → Bool) (made more : List TableSpec) (t : TableSpec) → find p made ≡ Some t → find p (made ++ more) ≡ Some t
find-more p [] more t e = absurd (cc)
find-more p (m ∷ made) more t e = by (p m) e (find-more p made more t)
  where
    by : (b : Bool) → cond b (Some m) (find p made) ≡ Some t → (find p made ≡ Some t → find p (made ++ more) ≡ Some t) → cond b (Some m) (find p (made ++ more)) ≡ Some t
    by true there rest = there
    by false there rest = rest there

-- of each of some writes there is a last one of its row
each-last : (ws : List Pending) → AllByRecursion (λ (w : Pending). last_of (id_of w.change) ws ≢ None) ws
each-last ws = all-self (λ (w : Pending). last_of (id_of w.change) ws ≢ None) ws (λ w there none.
    let other : is_its (id_of w.change) w ≡ false = of-contained (λ (v : Pending). is_its (id_of w.change) v ≡ false) ws w (last-none (id_of w.change) ws none) there in
    let own : is_its (id_of w.change) w ≡ true = row-itself (id_of w.change) in
    let wrong : true ≡ false = sym own ∙ other in
    cc)

-- ---- where rows lie

-- where a row lies, by what is pending and by where committed rows lie
abbrev place_in : List Pending → (RowId → Option Place) → RowId → Option Place
place_in ws hs id = place_behind (last_of id ws) (hs id)

-- all pending writes of a row are of one transaction
record OfOne (ws : List Pending) (id : RowId) : Type 0 where
  begin : ℕ
  each : AllByRecursion (λ (w : Pending). is_its id w ≡ true → w.begin ≡ begin) ws

record Tied (files : List FileSpec) (ws : List Pending) (hs : RowId → Option Place) (made : List TableSpec) : Type 0 where
  -- a row lies where it is written, and where it was committed
  writes : AllByRecursion (λ (w : Pending). place_in ws hs (id_of w.change) ≡ Some w.place) ws
  committed : (id : RowId) (at : Place) → hs id ≡ Some at → place_in ws hs id ≡ Some at
  alone : (a b : RowId) (at : Place) → place_in ws hs a ≡ Some at → place_in ws hs b ≡ Some at → a ≡ b
  cells : (id : RowId) (at : Place) → place_in ws hs id ≡ Some at → LiesWell files made id at
  one : (id : RowId) → OfOne ws id

module _ (files : List FileSpec) (ws : List Pending) (hs : RowId → Option Place) (made : List TableSpec) (t : Tied files ws hs made) where
  -- more tables are made
  tied-tables : (more : List TableSpec) → Tied files ws hs (made ++ more)
  tied-tables more = record {
    writes = t.writes;
    committed = t.committed;
    alone = t.alone;
    cells = λ id at there. let lies : LiesWell files made id at = t.cells id at there in record { table = lies.table; there = find-more (λ (m : TableSpec). m.number == id.0) made more lies.table lies.there; cell = lies.cell };
    one = t.one;
  }

  of-fewer : (p : Pending → Bool) (id : RowId) → OfOne (filter p ws) id
  of-fewer p id = record { begin = (t.one id).begin; each = all_filter (λ (w : Pending). is_its id w ≡ true → w.begin ≡ (t.one id).begin) p ws (t.one id).each }

  -- where the last of the writes that are left lies, its row lay
  last-lay : (p : Pending → Bool) (id : RowId) (v : Pending) → last_of id (filter p ws) ≡ Some v → place_in ws hs id ≡ Some v.place
  last-lay p id v is =
      let Lay : Pending → Type 0 = λ w. place_in ws hs (id_of w.change) ≡ Some w.place in
      let its : Lay v × (is_its id v ≡ true) = last-all Lay id (filter p ws) v (all_filter Lay p ws t.writes) is in
      ap (place_in ws hs) (sym (row-same (id_of v.change) id its.1)) ∙ its.0

  -- writes are pending no more
  tied-fewer : (p : Pending → Bool) → Tied files (filter p ws) hs made
  tied-fewer p = record {
    writes = all_both (λ (w : Pending). place_in ws hs (id_of w.change) ≡ Some w.place) (λ (w : Pending). last_of (id_of w.change) (filter p ws) ≢ None) (λ (w : Pending). place_in (filter p ws) hs (id_of w.change) ≡ Some w.place)
        (λ w lay some. written-at (id_of w.change) w.place lay some) (filter p ws) (all_filter (λ (w : Pending). place_in ws hs (id_of w.change) ≡ Some w.place) p ws t.writes) (each-last (filter p ws));
    committed = stays;
    alone = λ a b at one two. t.alone a b at (ends a at one) (ends b at two);
    cells = λ id at there. t.cells id at (ends id at there);
    one = of-fewer p;
  }
    where
      ends : (id : RowId) (at : Place) → place_in (filter p ws) hs id ≡ Some at → place_in ws hs id ≡ Some at
      ends id at = by (last_of id (filter p ws)) refl
        where
          by : (l : Option Pending) → last_of id (filter p ws) ≡ l → place_behind l (hs id) ≡ Some at → place_in ws hs id ≡ Some at
          by None none there = t.committed id at there
          by (Some v) is there = last-lay p id v is ∙ there

      written-at : (id : RowId) (at : Place) → place_in ws hs id ≡ Some at → last_of id (filter p ws) ≢ None → place_in (filter p ws) hs id ≡ Some at
      written-at id at lay some = by (last_of id (filter p ws)) refl
        where
          by : (l : Option Pending) → last_of id (filter p ws) ≡ l → place_behind l (hs id) ≡ Some at
          by None none = absurd (some none)
          by (Some v) is = sym (last-lay p id v is) ∙ lay

      stays : (id : RowId) (at : Place) → hs id ≡ Some at → place_in (filter p ws) hs id ≡ Some at
      stays id at home = by (last_of id (filter p ws)) refl
        where
          by : (l : Option Pending) → last_of id (filter p ws) ≡ l → place_behind l (hs id) ≡ Some at
          by None none = home
          by (Some v) is = sym (last-lay p id v is) ∙ t.committed id at home

  -- ---- a transaction commits

  module _ (begin : ℕ) where
    abbrev others : List Pending
    others = of_others begin ws

    abbrev homes_then : RowId → Option Place
    homes_then id = home_behind (last_of id (of_transaction begin ws)) (hs id)

    -- a row of others is as it was, and one of its own lies where it is committed, if it is there
    data Goes (id : RowId) : Type 0 where
      kept : place_in (of_others begin ws) homes_then id ≡ place_in ws hs id → homes_then id ≡ hs id → Goes id
      ended : last_of id (of_others begin ws) ≡ None → ((at : Place) → homes_then id ≡ Some at → place_in ws hs id ≡ Some at) → Goes id

    goes : (id : RowId) → Goes id
    goes id = by ((t.one id).begin == begin) refl
      where
        tests : (b : Bool) → ((t.one id).begin == begin) ≡ b → AllByRecursion (λ (w : Pending). is_its id w ≡ true → (w.begin == begin) ≡ b) ws
        tests b e = all_mapped (λ (w : Pending). is_its id w ≡ true → w.begin ≡ (t.one id).begin) (λ (w : Pending). is_its id w ≡ true → (w.begin == begin) ≡ b) (λ w same its. ap (λ n. n == begin) (same its) ∙ e) ws (t.one id).each

        flipped : (b : Bool) → ((t.one id).begin == begin) ≡ b → AllByRecursion (λ (w : Pending). is_its id w ≡ true → not (w.begin == begin) ≡ not b) ws
        flipped b e = all_mapped (λ (w : Pending). is_its id w ≡ true → (w.begin == begin) ≡ b) (λ (w : Pending). is_its id w ≡ true → not (w.begin == begin) ≡ not b) (λ w same its. ap not (same its)) ws (tests b e)

        value : (w : Pending) (v : Option (List ℕ)) (at : Place) → cond (is_some v) (Some w.place) None ≡ Some at → Some w.place ≡ Some at
        value w (Some v) at e = e
        value w None at e = absurd (cc)

        behind : (l : Option Pending) (at : Place) → home_behind l (hs id) ≡ Some at → place_behind l (hs id) ≡ Some at
        behind None at e = e
        behind (Some w) at e = value w w.change.value at e

        by : (b : Bool) → ((t.one id).begin == begin) ≡ b → Goes id
        by true e =
            let own : last_of id (of_transaction begin ws) ≡ last_of id ws = last-kept id (λ w. w.begin == begin) ws (tests true e) in
            ended (last-dropped id (λ w. not (w.begin == begin)) ws (flipped true e)) (λ at there. behind (last_of id ws) at (sym (ap (λ l. home_behind l (hs id)) own) ∙ there))
        by false e =
            let none : last_of id (of_transaction begin ws) ≡ None = last-dropped id (λ w. w.begin == begin) ws (tests false e) in
            let rest : last_of id (of_others begin ws) ≡ last_of id ws = last-kept id (λ w. not (w.begin == begin)) ws (flipped false e) in
            let home : homes_then id ≡ hs id = ap (λ l. home_behind l (hs id)) none in
            kept (ap (λ l. place_behind l (homes_then id)) rest ∙ ap (place_behind (last_of id ws)) home) home

    tied-commit : Tied files (of_others begin ws) (λ id. home_behind (last_of id (of_transaction begin ws)) (hs id)) made
    tied-commit = record {
      writes = all_both (λ (w : Pending). place_in ws hs (id_of w.change) ≡ Some w.place) (λ (w : Pending). last_of (id_of w.change) (of_others begin ws) ≢ None) (λ (w : Pending). place_in (of_others begin ws) homes_then (id_of w.change) ≡ Some w.place)
          (λ w lay some. written-at (id_of w.change) w.place lay some (goes (id_of w.change))) (of_others begin ws) (all_filter (λ (w : Pending). place_in ws hs (id_of w.change) ≡ Some w.place) (λ w. not (w.begin == begin)) ws t.writes)
          (each-last (of_others begin ws));
      committed = λ id at home. stays id at home (goes id);
      alone = λ a b at one two. t.alone a b at (ends a at one (goes a)) (ends b at two (goes b));
      cells = λ id at there. t.cells id at (ends id at there (goes id));
      one = of-fewer (λ w. not (w.begin == begin));
    }
      where
        ends : (id : RowId) (at : Place) → place_in (of_others begin ws) homes_then id ≡ Some at → Goes id → place_in ws hs id ≡ Some at
        ends id at there (kept same home) = sym same ∙ there
        ends id at there (ended none lay) = lay at (sym (ap (λ l. place_behind l (homes_then id)) none) ∙ there)

        written-at : (id : RowId) (at : Place) → place_in ws hs id ≡ Some at → last_of id (of_others begin ws) ≢ None → Goes id → place_in (of_others begin ws) homes_then id ≡ Some at
        written-at id at lay some (kept same home) = same ∙ lay
        written-at id at lay some (ended none lies) = absurd (some none)

        stays : (id : RowId) (at : Place) → homes_then id ≡ Some at → Goes id → place_in (of_others begin ws) homes_then id ≡ Some at
        stays id at there (kept same home) = same ∙ t.committed id at (sym home ∙ there)
        stays id at there (ended none lay) = ap (λ l. place_behind l (homes_then id)) none ∙ there

  -- ---- a row is written

  module _ (w : Pending) (place : (place_in ws hs (id_of w.change) ≡ Some w.place) ⊎ ((place_in ws hs (id_of w.change) ≡ None) × ((id : RowId) → place_in ws hs id ≢ Some w.place)))
      (well : LiesWell files made (id_of w.change) w.place) (unlocked : AllByRecursion (λ (v : Pending). is_row (id_of v.change) (id_of w.change) ≡ true → v.begin ≡ w.begin) ws) where
    lies-its : (id : RowId) → is_its id w ≡ true → place_in (ws ++ w ∷ []) hs id ≡ Some w.place
    lies-its id is = ap (λ l. place_behind l (hs id)) (last-more id ws w ∙ ap (λ b. later (cond b (Some w) None) (last_of id ws)) is)

    lies-other : (id : RowId) → is_its id w ≡ false → place_in (ws ++ w ∷ []) hs id ≡ place_in ws hs id
    lies-other id isnt = ap (λ l. place_behind l (hs id)) (last-more id ws w ∙ ap (λ b. later (cond b (Some w) None) (last_of id ws)) isnt)

    -- a row that lay somewhere lies there
    stays : (id : RowId) (at : Place) → place_in ws hs id ≡ Some at → place_in (ws ++ w ∷ []) hs id ≡ Some at
    stays id at lay = by (is_its id w) refl
      where
        here : is_its id w ≡ true → (place_in ws hs (id_of w.change) ≡ Some w.place) ⊎ ((place_in ws hs (id_of w.change) ≡ None) × ((other : RowId) → place_in ws hs other ≢ Some w.place)) → Some w.place ≡ Some at
        here is (inl own) = sym own ∙ ap (place_in ws hs) (row-same (id_of w.change) id is) ∙ lay
        here is (inr free) = let wrong : None ≡ Some at = sym free.0 ∙ ap (place_in ws hs) (row-same (id_of w.change) id is) ∙ lay in absurd (cc)

        by : (b : Bool) → is_its id w ≡ b → place_in (ws ++ w ∷ []) hs id ≡ Some at
        by true is = lies-its id is ∙ here is place
        by false isnt = lies-other id isnt ∙ lay

    -- and one that lies somewhere lay there, or is the row that is written
    lay : (id : RowId) (at : Place) → place_in (ws ++ w ∷ []) hs id ≡ Some at → ((id_of w.change ≡ id) × (w.place ≡ at)) ⊎ (place_in ws hs id ≡ Some at)
    lay id at there = by (is_its id w) refl
      where
        by : (b : Bool) → is_its id w ≡ b → ((id_of w.change ≡ id) × (w.place ≡ at)) ⊎ (place_in ws hs id ≡ Some at)
        by true is = inl (row-same (id_of w.change) id is, (let same : Some w.place ≡ Some at = sym (lies-its id is) ∙ there in cc))
        by false isnt = inr (sym (lies-other id isnt) ∙ there)

    -- no other row lies where the row is written
    only : (other : RowId) → place_in ws hs other ≡ Some w.place → id_of w.change ≡ other
    only other there = by place
      where
        by : (place_in ws hs (id_of w.change) ≡ Some w.place) ⊎ ((place_in ws hs (id_of w.change) ≡ None) × ((id : RowId) → place_in ws hs id ≢ Some w.place)) → id_of w.change ≡ other
        by (inl own) = t.alone (id_of w.change) other w.place own there
        by (inr free) = absurd (free.1 other there)

    tied-written : Tied files (ws ++ w ∷ []) hs made
    tied-written = record {
      writes = all_joined (λ (v : Pending). place_in (ws ++ w ∷ []) hs (id_of v.change) ≡ Some v.place) ws (w ∷ [])
          (all_mapped (λ (v : Pending). place_in ws hs (id_of v.change) ≡ Some v.place) (λ (v : Pending). place_in (ws ++ w ∷ []) hs (id_of v.change) ≡ Some v.place) (λ v was. stays (id_of v.change) v.place was) ws t.writes)
          (lies-its (id_of w.change) (row-itself (id_of w.change)), tt);
      committed = λ id at home. stays id at (t.committed id at home);
      alone = λ a b at one two. apart a b at (lay a at one) (lay b at two);
      cells = λ id at there. cell id at (lay id at there);
      one = of;
    }
      where
        apart : (a b : RowId) (at : Place) → ((id_of w.change ≡ a) × (w.place ≡ at)) ⊎ (place_in ws hs a ≡ Some at) → ((id_of w.change ≡ b) × (w.place ≡ at)) ⊎ (place_in ws hs b ≡ Some at) → a ≡ b
        apart a b at (inl one) (inl two) = sym one.0 ∙ two.0
        apart a b at (inl one) (inr two) = sym one.0 ∙ only b (two ∙ ap (λ (p : Place). Some p) (sym one.1))
        apart a b at (inr one) (inl two) = sym (only a (one ∙ ap (λ (p : Place). Some p) (sym two.1))) ∙ two.0
        apart a b at (inr one) (inr two) = t.alone a b at one two

        cell : (id : RowId) (at : Place) → ((id_of w.change ≡ id) × (w.place ≡ at)) ⊎ (place_in ws hs id ≡ Some at) → LiesWell files made id at
        cell id at (inl own) = subst (λ i. LiesWell files made i at) own.0 (subst (LiesWell files made (id_of w.change)) own.1 well)
        cell id at (inr was) = t.cells id at was

        of : (id : RowId) → OfOne (ws ++ w ∷ []) id
        of id = by (is_its id w) refl
          where
            by : (b : Bool) → is_its id w ≡ b → OfOne (ws ++ w ∷ []) id
            by true is =
                let Its : RowId → Type 0 = λ i. AllByRecursion (λ (v : Pending). is_its i v ≡ true → v.begin ≡ w.begin) ws in
                record { begin = w.begin; each = all_joined (λ (v : Pending). is_its id v ≡ true → v.begin ≡ w.begin) ws (w ∷ []) (subst Its (row-same (id_of w.change) id is) unlocked) (λ e. refl, tt) }
            by false isnt = record {
              begin = (t.one id).begin;
              each = all_joined (λ (v : Pending). is_its id v ≡ true → v.begin ≡ (t.one id).begin) ws (w ∷ []) (t.one id).each (λ is. let wrong : true ≡ false = sym is ∙ isnt in absurd (cc), tt);
            }

-- ---- a log

-- one more record
tied-after : (files : List FileSpec) (rs : List Logged) (n begin : ℕ) (deed : Deed) → MayCome rs n begin deed → IsPlaced files (tables rs) deed → IsNoLoad deed → Tied files (pending rs) (homes rs) (tables rs)
    → Tied files (pending_after (pending rs) n begin deed) (homes_after (pending rs) (homes rs) begin deed) (tables rs)
unfolding place_of
tied-after files rs n begin (database_made time family branch) may placed none t = t
tied-after files rs n begin (table_made time spec) may placed none t = t
tied-after files rs n begin begun may placed none t = t
tied-after files rs n begin (written at before c) may placed none t =
    tied-written files (pending rs) (homes rs) (tables rs) t (record { lsn = n; begin = begin; place = at; before = before; change = c; extents = [] }) may.place (record { table = placed.0; there = placed.1; cell = placed.2 }) may.unlocked
tied-after files rs n begin (committed time mark) may placed none t = tied-commit files (pending rs) (homes rs) (tables rs) t begin
tied-after files rs n begin rolled_back may placed none t = tied-fewer files (pending rs) (homes rs) (tables rs) t (λ w. not (w.begin == begin))
tied-after files rs n begin (undone at c m) may placed none t = tied-fewer files (pending rs) (homes rs) (tables rs) t (λ w. not (w.begin == begin && w.lsn == m))
tied-after files rs n begin (checkpointed time) may placed none t = t
tied-after files rs n begin (stamped time set) may placed none t = t
tied-after files rs n begin (model_set time model) may placed none t = t
tied-after files rs n begin (loaded load) may placed none t = absurd none
tied-after files rs n begin (recovered branch) may placed none t = t

tied-more : (files : List FileSpec) (rs ss : List Logged) → MayFollow rs ss → ArePlaced files rs ss → AllByRecursion (λ (r : Logged). IsNoLoad r.deed) ss → Tied files (pending rs) (homes rs) (tables rs)
    → Tied files (pending (rs ++ ss)) (homes (rs ++ ss)) (tables (rs ++ ss))
tied-more files rs [] may placed none t = subst (λ log. Tied files (pending log) (homes log) (tables log)) (sym (append-nil rs)) t
tied-more files rs (r ∷ ss) may placed none t =
    let after : Tied files (pending_after (pending rs) r.lsn r.begin r.deed) (homes_after (pending rs) (homes rs) r.begin r.deed) (tables rs) = tied-after files rs r.lsn r.begin r.deed may.0 placed.0 none.0 t in
    let made : List TableSpec = tables rs ++ tables_of (entries_from (pending rs) (r ∷ [])) in
    let grown : Tied files (pending_after (pending rs) r.lsn r.begin r.deed) (homes_after (pending rs) (homes rs) r.begin r.deed) (tables rs ++ tables_of (entries_from (pending rs) (r ∷ []))) =
    tied-tables files (pending_after (pending rs) r.lsn r.begin r.deed) (homes_after (pending rs) (homes rs) r.begin r.deed) (tables rs) after (tables_of (entries_from (pending rs) (r ∷ []))) in
    let first : Tied files (pending (rs ++ r ∷ [])) (homes_after (pending rs) (homes rs) r.begin r.deed) made =
    subst (λ ws. Tied files ws (homes_after (pending rs) (homes rs) r.begin r.deed) made) (sym (pending-more rs (r ∷ []))) grown in
    let second : Tied files (pending (rs ++ r ∷ [])) (homes (rs ++ r ∷ [])) made = subst (λ hs. Tied files (pending (rs ++ r ∷ [])) hs made) (sym (homes-more rs (r ∷ []))) first in
    let one : Tied files (pending (rs ++ r ∷ [])) (homes (rs ++ r ∷ [])) (tables (rs ++ r ∷ [])) = subst (Tied files (pending (rs ++ r ∷ [])) (homes (rs ++ r ∷ []))) (sym (tables-more rs (r ∷ []))) second in
    subst (λ log. Tied files (pending log) (homes log) (tables log)) (append_assoc rs (r ∷ []) ss) (tied-more files (rs ++ r ∷ []) ss may.1 placed.1 none.1 one)

module _ (files : List FileSpec) (rs : List Logged) (sound : IsSoundLog rs) (placed : ArePlaced files [] rs) (none : AllByRecursion (λ (r : Logged). IsNoLoad r.deed) rs) where
  nothing : Tied files (pending []) (homes []) (tables [])
  unfolding pending homes tables entries
  nothing = record { writes = tt; committed = λ id at e. absurd (cc); alone = λ a b at e f. absurd (cc); cells = λ id at e. absurd (cc); one = λ id. record { begin = 0; each = tt } }

  tied : Tied files (pending rs) (homes rs) (tables rs)
  tied = tied-more files [] rs sound placed none nothing

  pub lies-well : (id : RowId) (at : Place) → place_of rs id ≡ Some at → LiesWell files (tables rs) id at
  unfolding place_of
  lies-well id at there = tied.cells id at there

  pub lies-alone : (a b : RowId) (at : Place) → place_of rs a ≡ Some at → place_of rs b ≡ Some at → a ≡ b
  unfolding place_of
  lies-alone a b at one two = tied.alone a b at one two
