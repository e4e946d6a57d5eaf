-- The rows in the cells of all pages of a log in which nothing is pending are its committed rows, each in its place.
use Rattle.std.proofs.Common.{◌≡◌, ◌<◌, ℕ, zero, suc, ◌≤◌, ◌+◌, ◌*◌, Bool, true, false, cond, List, [], ◌∷◌, length, map, get_or, Option, Some, None, refl, sym, ◌∙◌, ap, subst, arith}
use Rattle.std.specs.Prelude.{◌==◌, ◌&&◌, is_some, option_map, slice_get}
use Rattle.std.specs.List.{count_by, find}
use Rattle.std.specs.Option.{option_map_or}
use Rattle.std.proofs.lemmas.Bool.{and_from, eq-eqb, eqb-true}
use Rattle.std.proofs.lemmas.Option.{same_Some}
use Rattle.std.proofs.lemmas.List.Elements.{recursion_from_All}
use Rattle.bk_cells.specs.Cells.{cell_of}
use Rattle.bk_cells.specs.Laws.{HoldsRow, HoldsRows}
use Rattle.bk_facts.specs.declared.facts.DataFile.{DataFile}
use Rattle.bk_groups.specs.Groups.{AreFiles}
use Rattle.bk_ids.specs.declared.record.Place.{Place}
use Rattle.bk_lemmas.specs.Lists.{all_mapped}
use Rattle.bk_paged.specs.Names.{pages_in}
use Rattle.bk_shown.specs.Shown.{LieInCells}
use Rattle.bk_store.specs.Told.{data_file}
use Rattle.bk_undo.specs.Cells.{is_place}
use Rattle.bk_world.specs.HomeLaws.{homed}
use Rattle.bk_world.specs.Pending.{Pending, pending}
use Rattle.bk_world.specs.PlacedRows.{AreRowsOf, RowsRise, among, row_id}
use Rattle.bk_world.specs.Places.{IsCellOf, homes, last_of, place_behind, place_of}
use Rattle.bk_world.specs.Records.{Logged, RowId, is_row}
use Rattle.bk_world.specs.RowLaws.{row-same}
use Rattle.bk_world.specs.Telling as telling
use Rattle.bk_world.specs.Telling.{row_at}
use Rattle.bk_world.specs.declared.database.FileSpec.{FileSpec}
use Rattle.bk_world.specs.declared.row.PlacedRow.{PlacedRow}
use Rattle.bk_reopening.specs.Cells.{AreAll, DontFall, IsCellIn, cell_in, placed}
use Rattle.bk_reopening.proofs.Found.{count-more, count-none, find-all, find-has, rises}

row-itself : (id : RowId) → is_row id id ≡ true
row-itself id = and_from (id.0 == id.0) (id.1 == id.1) (eq-eqb id.0 id.0 refl) (eq-eqb id.1 id.1 refl)

place-itself : (at : Place) → is_place at at ≡ true
place-itself at =
    and_from (at.file == at.file) ((at.page == at.page) && (at.slot == at.slot)) (eq-eqb at.file at.file refl)
    (and_from (at.page == at.page) (at.slot == at.slot) (eq-eqb at.page at.page refl) (eq-eqb at.slot at.slot refl))

-- where a list has what is found in it
find-index : {X : Type 0} (p : X → Bool) (xs : List X) (x : X) → find p xs ≡ Some x → (i : ℕ) × (i < length xs) × (get_or xs i x ≡ x) × (p x ≡ true)
find-index p [] x e = absurd (cc)
find-index {X} p (y ∷ xs) x e = by (p y) refl e (λ rest. find-index p xs x rest)
  where
    by : (t : Bool) → p y ≡ t → cond t (Some y) (find p xs) ≡ Some x → (find p xs ≡ Some x → (i : ℕ) × (i < length xs) × (get_or xs i x ≡ x) × (p x ≡ true)) → (i : ℕ) × (i < length (y ∷ xs)) × (get_or (y ∷ xs) i x ≡ x) × (p x ≡ true)
    by true is e rest = let same : y ≡ x = same_Some y x e in (0, omega arith, same, subst (λ (z : X). p z ≡ true) same is)
    by false is e rest = let found = rest e in (suc found.0, omega (arith, found.1), found.2, found.3)

-- the pages of a file of a list
file-pages : (files : List FileSpec) (i : ℕ) (file : FileSpec) → i < length files → get_or files i file ≡ file → option_map_or (λ (f : DataFile). f.pages) (slice_get (map data_file files) i) 0 ≡ 8 + 8 * file.extents
file-pages [] i file low e = absurd (omega (arith, low))
file-pages (f ∷ files) zero file low e = ap (λ (g : FileSpec). 8 + 8 * g.extents) e
file-pages (f ∷ files) (suc i) file low e = file-pages files i file (omega (arith, low)) e

-- a cell of a filegroup is one of a page of the data files
pub cell-in : (files : List FileSpec) (group : ℕ) (at : Place) → AreFiles files → IsCellOf files group at → IsCellIn (map data_file files) at
cell-in files group at are is =
    let found = find-index (λ (f : FileSpec). f.number == at.file) files is.file is.there in
    let number : is.file.number ≡ at.file = eqb-true is.file.number at.file found.3 in
    let counted : at.file ≡ found.0 + 1 = sym number ∙ sym (ap (λ (f : FileSpec). f.number) found.2) ∙ are.numbers found.0 is.file found.1 in
    let pages : pages_in (map data_file files) (suc found.0) ≡ 8 + 8 * is.file.extents = file-pages files found.0 is.file found.1 found.2 in
    let at_file : at.file ≡ suc found.0 = omega (arith, counted) in
    record {
      page = subst (λ (f : ℕ). at.page < pages_in (map data_file files) f) (sym at_file) (omega (arith, pages, is.below));
      slot = is.slot;
    }

module _ (files : List FileSpec) (rs : List Logged) (rows : List PlacedRow) (holds : HoldsRows rs) (lie : LieInCells files rs) (are : AreFiles files) (quiet : pending rs ≡ []) (all : AreAll (cell_of rs) (map data_file files) rows) where
  -- a row that is listed is committed, in its place
  row-here : (id : RowId) (row : PlacedRow) → among rows id ≡ Some row → (row_id row ≡ id) × HoldsRow rs row.place (cell_in row)
  row-here id row is =
      let found = find-all (λ (r : PlacedRow). cell_of rs r.place ≡ Some (cell_in r)) (λ (r : PlacedRow). is_row (row_id r) id) rows row (recursion_from_All (λ (r : PlacedRow). cell_of rs r.place ≡ Some (cell_in r)) rows all.used) is in
      (row-same (row_id row) id found.1, holds.used row.place (cell_in row) found.0)

  -- a row that isn't listed isn't committed
  row-none : (id : RowId) (value : List ℕ) → among rows id ≡ None → row_at (telling.rows rs id.0) id.1 ≡ Some value → ⊥
  row-none id value none is =
      let held = holds.there id value is in
      let lies = lie id held.0 held.1 in
      find-has (λ (r : PlacedRow). is_row (row_id r) id) rows (placed held.0 (record { table = id.0; key = id.1; value = value }))
      (all.there held.0 (record { table = id.0; key = id.1; value = value }) (cell-in files lies.0.group held.0 are lies.2) tt held.2) (row-itself id) none

  -- where nothing is pending, a row has the place of its committed value
  home-place : (id : RowId) → homes rs id ≡ place_of rs id
  unfolding place_of
  home-place id = sym (ap (λ (ws : List Pending). place_behind (last_of id ws) (homes rs id)) quiet)

  values : (id : RowId) → row_at (telling.rows rs id.0) id.1 ≡ option_map (λ (row : PlacedRow). row.value) (among rows id)
  values id = by (among rows id) refl (row_at (telling.rows rs id.0) id.1) refl
    where
      listed : Option (List ℕ)
      listed = option_map (λ (row : PlacedRow). row.value) (among rows id)

      by : (o : Option PlacedRow) → among rows id ≡ o → (v : Option (List ℕ)) → row_at (telling.rows rs id.0) id.1 ≡ v → row_at (telling.rows rs id.0) id.1 ≡ listed
      by (Some row) is v e =
          let here = row-here id row is in
          subst (λ (i : RowId). row_at (telling.rows rs i.0) i.1 ≡ listed) here.0 (here.1.value ∙ sym (ap (option_map (λ (r : PlacedRow). r.value)) is))
      by None is None e = e ∙ sym (ap (option_map (λ (r : PlacedRow). r.value)) is)
      by None is (Some value) e = absurd (row-none id value is e)

  places : (id : RowId) → homes rs id ≡ option_map (λ (row : PlacedRow). row.place) (among rows id)
  places id = by (among rows id) refl (homes rs id) refl (row_at (telling.rows rs id.0) id.1) refl
    where
      listed : Option Place
      listed = option_map (λ (row : PlacedRow). row.place) (among rows id)

      by : (o : Option PlacedRow) → among rows id ≡ o → (home : Option Place) → homes rs id ≡ home → (v : Option (List ℕ)) → row_at (telling.rows rs id.0) id.1 ≡ v → homes rs id ≡ listed
      by (Some row) is home h v e =
          let here = row-here id row is in
          subst (λ (i : RowId). homes rs i ≡ listed) here.0 (home-place (row_id row) ∙ here.1.place ∙ sym (ap (option_map (λ (r : PlacedRow). r.place)) is))
      by None is None h v e = h ∙ sym (ap (option_map (λ (r : PlacedRow). r.place)) is)
      by None is (Some at) h None e = let differ : false ≡ true = sym (ap is_some e) ∙ homed rs id ∙ ap is_some h in absurd (cc)
      by None is (Some at) h (Some value) e = absurd (row-none id value is e)

  -- no two that are listed are one row
  apart : (id : RowId) → count_by (λ (row : PlacedRow). is_row (row_id row) id) rows ≤ 1
  apart id = by (place_of rs id) refl
    where
      lies : (row : PlacedRow) → cell_of rs row.place ≡ Some (cell_in row) → is_row (row_id row) id ≡ true → place_of rs id ≡ Some row.place
      lies row is its = subst (λ (i : RowId). place_of rs i ≡ Some row.place) (row-same (row_id row) id its) (holds.used row.place (cell_in row) is).place

      unlisted : (row : PlacedRow) → cell_of rs row.place ≡ Some (cell_in row) → place_of rs id ≡ None → (t : Bool) → is_row (row_id row) id ≡ t → is_row (row_id row) id ≡ false
      unlisted row is none true its = let both : None ≡ Some row.place = sym none ∙ lies row is its in absurd (cc)
      unlisted row is none false isnt = isnt

      by : (home : Option Place) → place_of rs id ≡ home → count_by (λ (row : PlacedRow). is_row (row_id row) id) rows ≤ 1
      by None none =
          omega (
            arith,
            count-none (λ (row : PlacedRow). is_row (row_id row) id) rows (all_mapped (λ (row : PlacedRow). cell_of rs row.place ≡ Some (cell_in row)) (λ (row : PlacedRow). is_row (row_id row) id ≡ false)
                (λ (row : PlacedRow) is. unlisted row is none (is_row (row_id row) id) refl) rows (recursion_from_All (λ (row : PlacedRow). cell_of rs row.place ≡ Some (cell_in row)) rows all.used)),
          )
      by (Some at) here =
          omega (
            arith,
            all.apart at,
            count-more (λ (row : PlacedRow). is_row (row_id row) id) (λ (row : PlacedRow). is_place row.place at) rows
                (all_mapped (λ (row : PlacedRow). cell_of rs row.place ≡ Some (cell_in row)) (λ (row : PlacedRow). is_row (row_id row) id ≡ true → is_place row.place at ≡ true)
                (λ (row : PlacedRow) is its. let same : at ≡ row.place = same_Some at row.place (sym here ∙ lies row is its) in subst (λ (p : Place). is_place p at ≡ true) same (place-itself at)) rows
                (recursion_from_All (λ (row : PlacedRow). cell_of rs row.place ≡ Some (cell_in row)) rows all.used)),
          )

  -- so they rise, where they don't fall
  pub rows-rise : DontFall rows → RowsRise rows
  rows-rise sorted = rises rows sorted apart

  pub rows-are : AreRowsOf rs rows
  rows-are = record { values = values; places = places }
