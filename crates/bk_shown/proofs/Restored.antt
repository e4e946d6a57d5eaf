-- What is shown of a log, by its tables, its committed rows and its pending writes.
use Rattle.std.proofs.Common.{◌≡◌, ◌<◌, ◌≤◌, ℕ, zero, suc, ◌+◌, Bool, true, false, cond, List, [], ◌∷◌, ◌++◌, length, map, take, get_or, Option, Some, None, inl, inr, refl, sym, ◌∙◌, ap, subst, arith}
use Rattle.std.specs.Prelude.{◌==◌, ◌&&◌, option_map}
use Rattle.std.specs.List.{find, AllByRecursion}
use Rattle.std.specs.Ordering.{nat_cmp}
use Rattle.std.specs.BTreeMap.{is_at}
use Rattle.std.specs.Map.{lookup}
use Rattle.std.proofs.lemmas.Bool.Decides.{nat_tests}
use Rattle.std.proofs.lemmas.List.{map-append}
use Rattle.bk_groups.specs.Groups.{AreFiles, IsCell, Space, new_space, place_of as space_place, row_cmp}
use Rattle.bk_ids.specs.declared.record.Place.{Place}
use Rattle.bk_ids.specs.declared.record.RecoveryModel.{RecoveryModel}
use Rattle.bk_lemmas.specs.Lists.{all_front, all_middle, all_mapped}
use Rattle.bk_world.specs.Pending as log
use Rattle.bk_world.specs.Pending.{Pending}
use Rattle.bk_world.specs.PlacedRows.{ComesBefore, RowsRise, among, row_id}
use Rattle.bk_world.specs.Places.{homes, last_of, place_behind, place_of}
use Rattle.bk_world.specs.Records.{Logged, RowId, id_of, is_row}
use Rattle.bk_world.specs.Telling as telling
use Rattle.bk_world.specs.declared.database.FileSpec.{FileSpec}
use Rattle.bk_world.specs.declared.database.TableSpec.{TableSpec}
use Rattle.bk_world.specs.declared.row.PlacedRow.{PlacedRow}
use Rattle.bk_world.specs.RowLaws.{row-same}
use Rattle.bk_shown.specs.Rows.{value_among}
use Rattle.bk_shown.specs.Shown.{AreNumbered, IsOf, LogKeeps, Shows, group_among, lies_at, pending_of}
use Rattle.bk_shown.specs.Steps.{AddsRow, HasRows, HasWrites, MakesTable, MayAdd, MayHold, MayLie, MayMake, MayPend, WritesRow, home_among}
use Rattle.bk_shown.specs.Writes.{HaveEntries, row_of}
use Rattle.bk_shown.specs.declared.shown.Shown.{Shown}
use Rattle.bk_shown.specs.declared.shown.Written.{Written}
use Rattle.bk_shown.proofs.Agree.{last-place, lies-write, some-none}
use Rattle.bk_shown.proofs.Committed.{Holds, find-kept, holds-all}
use Rattle.bk_shown.proofs.Entries.{value-set}
use Rattle.bk_shown.proofs.Waiting.{entries-more}
use Rattle.bk_shown.proofs.Keeps.{keeps-along}
use Rattle.bk_shown.proofs.Lists.{take-next}
use Rattle.bk_shown.proofs.Places.{cell-of}
use Rattle.bk_shown.proofs.Starts.{keeps-none}
use Rattle.bk_shown.proofs.Tables.{find-more, first_or, group-more, none-numbered}
use Rattle.bk_shown.proofs.Taken.{place-is}
use Rattle.bk_shown.proofs.WithPlaces.{among-itself, before-all, before-other}

-- ---- tables

none-mapped : {X Y : Type 0} (f : X → Y) (xs : List X) → map f xs ≡ [] → xs ≡ []
none-mapped f [] e = refl
none-mapped f (x ∷ xs) e = absurd (cc)

-- a log without records has no tables and no rows
pub has-none : (files : List FileSpec) (s : Shown) → Shows files [] s → HasRows files [] [] s
unfolding log.pending homes place_of telling.tables telling.rows telling.entries
has-none files s shows = record {
  tables = shows.kept.tables;
  rows = shows.kept.rows;
  written = none-mapped pending_of s.written.items shows.kept.pending;
  places = shows.kept.places;
  rooms = shows.kept.rooms;
  groups = λ numbers number. shows.kept.groups number;
}

numbered-front : (n : ℕ) (made : List TableSpec) (t : TableSpec) → AreNumbered n (made ++ t ∷ []) → AreNumbered n made × (t.number ≡ length made + n)
numbered-front n [] t all = let is : t.number ≡ 0 + n = omega (arith, all.0) in (tt, is)
numbered-front n (s ∷ made) t all = let rest = numbered-front (n + 1) made t all.1 in let is : t.number ≡ length (s ∷ made) + n = omega (arith, rest.1) in ((all.0, rest.0), is)

none-before : (made : List TableSpec) (t : TableSpec) → AreNumbered 1 (made ++ t ∷ []) → find (λ (s : TableSpec). s.number == t.number) made ≡ None
none-before made t all = let parts = numbered-front 1 made t all in let above : length made + 1 ≤ t.number = omega (arith, parts.1) in none-numbered 1 made t.number parts.0 above

pub has-table : (files : List FileSpec) (made : List TableSpec) (t : TableSpec) (old new : Shown) → HasRows files made [] old → MakesTable t old new → HasRows files (made ++ t ∷ []) [] new
has-table files made t old new has m = record {
  tables = m.tables ∙ ap (λ ts. ts ++ t ∷ []) has.tables;
  rows = λ id. ap (λ rows. value_among rows id) m.rows ∙ has.rows id;
  written = m.written ∙ has.written;
  places = λ id. ap (λ places. lookup (is_at (row_cmp id)) places) m.groups.places ∙ has.places id;
  rooms = m.groups.rooms ∙ has.rooms;
  groups = λ numbers number.
      m.groups.tables number ∙ ap (λ group. cond (number == t.number) (Some t.group) group) (has.groups (numbered-front 1 made t numbers).0 number)
      ∙ sym (group-more made t (none-before made t numbers) number);
}

numbered-take : (n : ℕ) (made : List TableSpec) (i : ℕ) → AreNumbered n made → AreNumbered n (take i made)
numbered-take n [] zero all = tt
numbered-take n [] (suc i) all = tt
numbered-take n (t ∷ made) zero all = tt
numbered-take n (t ∷ made) (suc i) all = (all.0, numbered-take (n + 1) made i all.1)

pub may-make : (files : List FileSpec) (made : List TableSpec) (i : ℕ) (d : TableSpec) (s : Shown) → i < length made → AreNumbered 1 made → HasRows files (take i made) [] s
    → 0 < length ((get_or made i d).name) → length ((get_or made i d).name) ≤ 64 → MayMake s.groups ((get_or made i d).number) ((get_or made i d).name)
may-make files made i d s lt all has some short =
    let more : AreNumbered 1 (take i made ++ get_or made i d ∷ []) = subst (AreNumbered 1) (take-next made i d lt) (numbered-take 1 made (i + 1) all) in
    let front = numbered-front 1 (take i made) (get_or made i d) more in
    (has.groups front.0 ((get_or made i d).number) ∙ ap (option_map (λ (t : TableSpec). t.group)) (none-before (take i made) (get_or made i d) more), (some, short))

-- ---- rows

flipped : (table key : ℕ) (id : RowId) → (id.0 == table && id.1 == key) ≡ is_row (table, key) id
flipped table key id = by (id.0 == table) refl (table == id.0) refl (id.1 == key) refl (key == id.1) refl
  where
    by : (p : Bool) → (id.0 == table) ≡ p → (q : Bool) → (table == id.0) ≡ q → (s : Bool) → (id.1 == key) ≡ s → (t : Bool) → (key == id.1) ≡ t → (id.0 == table && id.1 == key) ≡ is_row (table, key) id
    by p is q isq s iss t ist = grind (arith, nat_tests)

not-among : (listed : List PlacedRow) (id : RowId) → option_map (λ (row : PlacedRow). row.place) (among listed id) ≡ None → among listed id ≡ None
not-among listed id e = by (among listed id) refl e
  where
    by : (o : Option PlacedRow) → among listed id ≡ o → option_map (λ (row : PlacedRow). row.place) o ≡ None → among listed id ≡ None
    by None is e = is
    by (Some row) is e = absurd (cc)

-- a row that is new is behind the others
behind : {X : Type 0} (f : PlacedRow → X) (listed : List PlacedRow) (row : PlacedRow) (id : RowId) → among listed (row_id row) ≡ None
    → option_map f (among (listed ++ row ∷ []) id) ≡ cond (is_row (row_id row) id) (Some (f row)) (option_map f (among listed id))
behind f listed row id none = ap (option_map f) (find-more (λ (r : PlacedRow). is_row (row_id r) id) listed row) ∙ by (is_row (row_id row) id) refl (among listed id) refl
  where
    by : (t : Bool) → is_row (row_id row) id ≡ t → (o : Option PlacedRow) → among listed id ≡ o
        → option_map f (first_or (λ (r : PlacedRow). is_row (row_id r) id) (among listed id) row) ≡ cond t (Some (f row)) (option_map f (among listed id))
    by true is None gone = ap (λ o. option_map f (first_or (λ (r : PlacedRow). is_row (row_id r) id) o row)) gone ∙ ap (λ b. option_map f (cond b (Some row) None)) is
    by true is (Some r) found = some-none (among listed id) r found (ap (among listed) (sym (row-same (row_id row) id is)) ∙ none)
    by false isnt None gone = ap (λ o. option_map f (first_or (λ (r : PlacedRow). is_row (row_id r) id) o row)) gone ∙ ap (λ b. option_map f (cond b (Some row) None)) isnt ∙ ap (option_map f) (sym gone)
    by false isnt (Some r) found = ap (λ o. option_map f (first_or (λ (r : PlacedRow). is_row (row_id r) id) o row)) found ∙ ap (option_map f) (sym found)

pub has-row : (files : List FileSpec) (made : List TableSpec) (listed : List PlacedRow) (row : PlacedRow) (old new : Shown) → HasRows files made listed old → AddsRow row old new → HasRows files made (listed ++ row ∷ []) new
has-row files made listed row old new has adds = record {
  tables = adds.tables ∙ has.tables;
  rows = λ id. value-set old.rows new.rows (row_id row) (Some (Some row.value)) adds.rows id ∙ ap (λ v. cond (is_row (row_id row) id) (Some row.value) v) (has.rows id) ∙ sym (behind (λ (r : PlacedRow). r.value) listed row id none);
  written = adds.written ∙ has.written;
  places = λ id. adds.groups.places id.0 id.1 ∙ ap (λ b. cond b (Some row.place) (space_place old.groups id.0 id.1)) (flipped row.table row.key id)
      ∙ ap (λ p. cond (is_row (row_id row) id) (Some row.place) p) (has.places id) ∙ sym (behind (λ (r : PlacedRow). r.place) listed row id none);
  rooms = adds.groups.rooms ∙ has.rooms;
  groups = λ numbers number. ap (λ entries. lookup (is_at (nat_cmp number)) entries) adds.groups.tables ∙ has.groups numbers number;
}
  where
    none : among listed (row_id row) ≡ None
    none = not-among listed (row_id row) (sym (has.places (row_id row)) ∙ adds.none)

-- a list around one of its elements
parts : {X : Type 0} (xs : List X) (i : ℕ) (d : X) → i < length xs → (back : List X) × (xs ≡ take i xs ++ get_or xs i d ∷ back)
parts [] i d lt = absurd (omega (arith, lt))
parts (x ∷ xs) zero d lt = (xs, refl)
parts {X} (x ∷ xs) (suc i) d lt = let less : i < length xs = omega (arith, lt) in let rest = parts xs i d less in (rest.0, ap (λ (ys : List X). x ∷ ys) rest.1)

-- of rows that rise none before one has its table and key
none-earlier : (front : List PlacedRow) (row : PlacedRow) (back : List PlacedRow) → RowsRise (front ++ row ∷ back) → among front (row_id row) ≡ None
none-earlier [] row back rise = refl
none-earlier (x ∷ front) row back rise =
    let before : ComesBefore x row = all_middle (ComesBefore x) front row back (before-all x (front ++ row ∷ back) rise) in
    ap (λ t. cond t (Some x) (among front (row_id row))) (before-other x row before) ∙ none-earlier front row back (rest front rise)
  where
    rest : (front : List PlacedRow) → RowsRise (x ∷ (front ++ row ∷ back)) → RowsRise (front ++ row ∷ back)
    rest [] rise = rise.1
    rest (y ∷ front) rise = rise.1

pub may-add : (files : List FileSpec) (made : List TableSpec) (listed : List PlacedRow) (i : ℕ) (d : PlacedRow) (s : Shown) → i < length listed → MayHold files listed → HasRows files made (take i listed) s
    → MayAdd s.groups (get_or listed i d)
may-add files made listed i d s lt holds has = record {
  none = has.places (row_id row) ∙ ap (option_map (λ (r : PlacedRow). r.place)) none;
  cell = subst (λ rooms. IsCell rooms ((get_or listed i d).place)) (sym has.rooms)
      (all_middle (λ (r : PlacedRow). IsCell ((new_space files).rooms) r.place) (take i listed) (get_or listed i d) split.0 (subst (AllByRecursion (λ (r : PlacedRow). IsCell ((new_space files).rooms) r.place)) split.1 holds.cells));
  free = λ table key e. taken (table, key) (sym (has.places (table, key)) ∙ e) (among (take i listed) (table, key)) refl;
}
  where
    row : PlacedRow
    row = get_or listed i d

    split : (back : List PlacedRow) × (listed ≡ take i listed ++ get_or listed i d ∷ back)
    split = parts listed i d lt

    none : among (take i listed) (row_id (get_or listed i d)) ≡ None
    none = none-earlier (take i listed) (get_or listed i d) split.0 (subst RowsRise split.1 holds.rise)

    its : among listed (row_id (get_or listed i d)) ≡ Some (get_or listed i d)
    its = all_middle (λ (r : PlacedRow). among listed (row_id r) ≡ Some r) (take i listed) (get_or listed i d) split.0 (subst (AllByRecursion (λ (r : PlacedRow). among listed (row_id r) ≡ Some r)) split.1 (among-itself listed holds.rise))

    whole : (id : RowId) (r : PlacedRow) → among (take i listed) id ≡ Some r → among listed id ≡ Some r
    whole id r e = ap (λ rows. among rows id) split.1 ∙ find-kept (λ (x : PlacedRow). is_row (row_id x) id) (take i listed) (get_or listed i d ∷ split.0) r e

    taken : (id : RowId) → option_map (λ (r : PlacedRow). r.place) (among (take i listed) id) ≡ Some ((get_or listed i d).place) → (o : Option PlacedRow) → among (take i listed) id ≡ o → ⊥
    taken id at None gone = some-none (option_map (λ (r : PlacedRow). r.place) (among (take i listed) id)) ((get_or listed i d).place) at (ap (option_map (λ (r : PlacedRow). r.place)) gone)
    taken id at (Some r) found =
        let there : option_map (λ (x : PlacedRow). x.place) (among listed id) ≡ Some ((get_or listed i d).place) =
        ap (option_map (λ (x : PlacedRow). x.place)) (whole id r found) ∙ sym (ap (option_map (λ (x : PlacedRow). x.place)) found) ∙ at in
        let same : id ≡ row_id (get_or listed i d) = holds.alone id (row_id (get_or listed i d)) ((get_or listed i d).place) there (ap (option_map (λ (x : PlacedRow). x.place)) its) in
        some-none (among (take i listed) id) r found (ap (among (take i listed)) same ∙ none)

-- ---- pending writes

-- no write is pending yet
pub has-no-writes : (files : List FileSpec) (made : List TableSpec) (listed : List PlacedRow) (s : Shown) → HasRows files made listed s → HasWrites files made listed [] s
has-no-writes files made listed s has = record { tables = has.tables; rows = has.rows; written = has.written; places = has.places; rooms = has.rooms; groups = has.groups; entries = tt }

pub has-write : (files : List FileSpec) (made : List TableSpec) (listed : List PlacedRow) (ws : List Written) (w : Written) (old new : Shown)
    → HasWrites files made listed ws old → WritesRow w old new → HasWrites files made listed (ws ++ w ∷ []) new
has-write files made listed ws w old new has n = record {
  tables = n.same.tables ∙ has.tables;
  rows = λ id. n.rows.values id ∙ has.rows id;
  written = n.written ∙ ap (λ (xs : List Written). xs ++ w ∷ []) has.written;
  places = λ id. n.groups.places id ∙ ap (λ p. cond (is_row (row_of w) id) (Some w.place) p) (has.places id)
      ∙ sym (lies-write (map pending_of ws) (pending_of w) (home_among listed) id) ∙ ap (λ xs. lies_at xs (home_among listed) id) (sym (map-append pending_of ws (w ∷ [])));
  rooms = n.groups.rooms ∙ has.rooms;
  groups = λ numbers number. ap (λ entries. lookup (is_at (nat_cmp number)) entries) n.groups.tables ∙ has.groups numbers number;
  entries = entries-more old.rows new.rows ws w n.rows.entries has.entries;
}

module _ (files : List FileSpec) (home : RowId → Option Place) (ws : List Pending) (may : MayPend files home ws) where
  -- where a row lies by the first of the writes, it lies by all
  front-lies : (front back : List Pending) → ws ≡ front ++ back → (id : RowId) (at : Place) → lies_at front home id ≡ Some at → lies_at ws home id ≡ Some at
  front-lies front back e id at lies = by (last_of id front) refl
    where
      placed : AllByRecursion (λ (v : Pending). lies_at ws home (id_of v.change) ≡ Some v.place) front
      placed = all_front (λ (v : Pending). lies_at ws home (id_of v.change) ≡ Some v.place) front back (subst (AllByRecursion (λ (v : Pending). lies_at ws home (id_of v.change) ≡ Some v.place)) e may.placed)

      by : (l : Option Pending) → last_of id front ≡ l → lies_at ws home id ≡ Some at
      by None is = may.homed id at (ap (λ l. place_behind l (home id)) (sym is) ∙ lies)
      by (Some u) is = last-place (lies_at ws home) front id u placed is ∙ ap (λ l. place_behind l (home id)) (sym is) ∙ lies

  may-lie : (front : List Pending) (w : Pending) (back : List Pending) → ws ≡ front ++ w ∷ back → (space : Space) → ((id : RowId) → space_place space id.0 id.1 ≡ lies_at front home id)
      → space.rooms ≡ (new_space files).rooms → MayLie space (id_of w.change) w.place
  may-lie front w back e space places rooms = by (lies_at front home (id_of w.change)) refl
    where
      its : lies_at ws home (id_of w.change) ≡ Some w.place
      its = all_middle (λ (v : Pending). lies_at ws home (id_of v.change) ≡ Some v.place) front w back (subst (AllByRecursion (λ (v : Pending). lies_at ws home (id_of v.change) ≡ Some v.place)) e may.placed)

      cell : IsCell ((new_space files).rooms) w.place
      cell = all_middle (λ (v : Pending). IsCell ((new_space files).rooms) v.place) front w back (subst (AllByRecursion (λ (v : Pending). IsCell ((new_space files).rooms) v.place)) e may.cells)

      other : lies_at front home (id_of w.change) ≡ None → (id : RowId) → space_place space id.0 id.1 ≡ Some w.place → ⊥
      other none id there =
          let lies : lies_at front home id ≡ Some w.place = sym (places id) ∙ there in
          let same : id ≡ id_of w.change = may.alone id (id_of w.change) w.place (front-lies front (w ∷ back) e id w.place lies) its in
          some-none (lies_at front home id) w.place lies (ap (lies_at front home) same ∙ none)

      by : (o : Option Place) → lies_at front home (id_of w.change) ≡ o → MayLie space (id_of w.change) w.place
      by (Some at) is = inl (places (id_of w.change) ∙ is ∙ sym (front-lies front (w ∷ back) e (id_of w.change) at is) ∙ its)
      by None none = inr (places (id_of w.change) ∙ none, (subst (λ rooms. IsCell rooms w.place) (sym rooms) cell, (λ table key there. other none (table, key) there)))

-- each of some writes that may be pending may come behind those before it
pub may-write : (files : List FileSpec) (made : List TableSpec) (listed : List PlacedRow) (all came : List Written) (w : Written) (back : List Written) (s : Shown) → all ≡ came ++ w ∷ back
    → HasWrites files made listed came s → MayPend files (home_among listed) (map pending_of all) → MayLie s.groups (row_of w) w.place
may-write files made listed all came w back s e has may =
    may-lie files (home_among listed) (map pending_of all) may (map pending_of came) (pending_of w) (map pending_of back) (ap (map pending_of) e ∙ map-append pending_of came (w ∷ back)) s.groups has.places has.rooms

-- ---- the whole

module _ (files : List FileSpec) (rs : List Logged) (made : List TableSpec) (listed : List PlacedRow) (held : List ℕ) (model : RecoveryModel) (time end : ℕ) (is : IsOf files rs made listed held model time end) where
  keeps : LogKeeps rs end
  keeps = keeps-along files [] rs 1 end is.counts is.sound is.placed keeps-none

  holds : Holds files rs
  holds = holds-all files rs end is.counts is.sound is.placed keeps-none

  -- rows lie there by the committed ones of the list as they do by those of the log
  by-homes : (id : RowId) → lies_at (log.pending rs) (home_among listed) id ≡ lies_at (log.pending rs) (homes rs) id
  by-homes id = ap (place_behind (last_of id (log.pending rs))) (sym (is.committed.places id))

  -- a committed row lies at its home
  at-home : (id : RowId) (at : Place) → home_among listed id ≡ Some at → place_of rs id ≡ Some at
  at-home id at e = place-is rs id ∙ keeps.places.homed id at (is.committed.places id ∙ e)

  in-cell : AreFiles files → (id : RowId) (at : Place) → place_of rs id ≡ Some at → IsCell ((new_space files).rooms) at
  in-cell are id at e = let found = holds.cells id at e in cell-of files are (found.0.group) at found.2

  pub numbers-of : AreNumbered 1 made
  numbers-of = subst (AreNumbered 1) is.tables keeps.numbers

  pub may-hold : AreFiles files → MayHold files listed
  may-hold are = record {
    rise = is.rise;
    cells = all_mapped (λ (row : PlacedRow). among listed (row_id row) ≡ Some row) (λ (row : PlacedRow). IsCell ((new_space files).rooms) row.place)
        (λ row its. in-cell are (row_id row) row.place (at-home (row_id row) row.place (ap (option_map (λ (r : PlacedRow). r.place)) its))) listed (among-itself listed is.rise);
    alone = λ a b at e f. holds.alone a b at (at-home a at e) (at-home b at f);
  }

  pub may-pend : AreFiles files → MayPend files (home_among listed) (log.pending rs)
  may-pend are = record {
    placed = all_mapped (λ (w : Pending). lies_at (log.pending rs) (homes rs) (id_of w.change) ≡ Some w.place) (λ (w : Pending). lies_at (log.pending rs) (home_among listed) (id_of w.change) ≡ Some w.place)
        (λ w e. by-homes (id_of w.change) ∙ e) (log.pending rs) keeps.places.placed;
    homed = λ id at e. by-homes id ∙ keeps.places.homed id at (is.committed.places id ∙ e);
    cells = all_mapped (λ (w : Pending). lies_at (log.pending rs) (homes rs) (id_of w.change) ≡ Some w.place) (λ (w : Pending). IsCell ((new_space files).rooms) w.place)
        (λ w e. in-cell are (id_of w.change) w.place (place-is rs (id_of w.change) ∙ e)) (log.pending rs) keeps.places.placed;
    alone = λ a b at e f. holds.alone a b at (place-is rs a ∙ sym (by-homes a) ∙ e) (place-is rs b ∙ sym (by-homes b) ∙ f);
  }

  pub shows-restored : (ws : List Written) (s : Shown) → AreFiles files → map pending_of ws ≡ log.pending rs → HasWrites files made listed ws s → Shows files rs (record s { model = model; time = time; «end» = end })
  shows-restored ws s are pend has = record {
    files_are = are;
    log = keeps;
    placed = is.placed;
    kept = record {
      tables = has.tables ∙ sym is.tables;
      rows = λ id. has.rows id ∙ sym (is.committed.values id);
      pending = ap (map pending_of) has.written ∙ pend;
      entries = subst (HaveEntries s.rows) (sym has.written) has.entries;
      places = λ id. has.places id ∙ ap (λ us. lies_at us (home_among listed) id) pend ∙ by-homes id ∙ sym (place-is rs id);
      rooms = has.rooms;
      groups = λ number. has.groups numbers-of number ∙ ap (λ ts. group_among ts number) (sym is.tables);
    };
    model = sym is.model;
    time = sym is.time;
  }
