-- Pages in frames that redo brings to the end, and the marks of those that it changed.
use Rattle.std.proofs.Common.{◌≡◌, ◌≤◌, ◌<◌, ◌⊎◌, ℕ, ◌+◌, not, ◌&&◌, List, [], ◌∷◌, length, Option, Some, None, refl, inl, inr, sym, ap, subst, ◌∙◌, arith}
use Rattle.std.specs.List.{AllByRecursion}
use Rattle.std.specs.Prelude.{nat_le, nat_lt, slice_get, slice_index_or}
use Rattle.std.proofs.lemmas.Bool.{and_parts, cases_lt, cond_both, leb-true, ltb-true}
use Rattle.std.proofs.lemmas.Option.{get_or_from_slice_get, slice_get-get_or, slice_get_within}
use Rattle.bk_facts.specs.declared.facts.DataFile.{DataFile}
use Rattle.bk_facts.specs.declared.facts.Facts.{Facts}
use Rattle.bk_ids.specs.declared.record.Rec.{Rec}
use Rattle.bk_page.specs.Page.{lsn_of}
use Rattle.bk_paths.specs.Laws.{RedoBringsToEnd}
use Rattle.bk_paths.specs.Pages.{last_page}
use Rattle.bk_paths.specs.Paths.{end_of, kept_from}
use Rattle.bk_pool.specs.Pool.{IsIn, Pool}
use Rattle.bk_record.specs.Log.{IsLog}
use Rattle.bk_record.specs.WalkLaws.{one_log}
use Rattle.bk_redo.specs.declared.place.PageAt.{PageAt}
use Rattle.bk_redo.specs.Effects.{cells_after, changed, effect_of, fills, touches}
use Rattle.bk_redo.specs.Frames.{Becomes, FramesRedone}
use Rattle.bk_redo.specs.PageStates.{PageState, page_of}
use Rattle.bk_redo.specs.Redo.{is_between, records_between, redone, redone_by}
use Rattle.bk_paged.specs.Names.{IsThere}
use Rattle.bk_opening.specs.Opening.{ArePlaces, AreRead, Brings, ArePut, Marks}
use Rattle.bk_paged.specs.Paged.{IsDirty, IsLast}
use Rattle.bk_opening.proofs.Places.{places_all}

-- ---- what redo doesn't change

between_late : (from to : ℕ) (records : List Rec) → AllByRecursion (λ (r : Rec). from ≤ r.lsn) (records_between from to records)
between_late from to [] = tt
between_late from to (r ∷ records) =
    let rest = between_late from to records in
    cond_both (is_between from to r) (r ∷ records_between from to records) (records_between from to records) (AllByRecursion (λ (s : Rec). from ≤ s.lsn))
    (λ on. (leb-true from r.lsn (and_parts (nat_le from r.lsn) (nat_lt r.lsn to) on).0, rest)) (λ _. rest)

-- a record leaves the page, or gives it its number, which is no lower
abbrev Stays : PageState → Rec → PageState → Type 0
Stays page r after = (after ≡ page) ⊎ ((after.lsn ≡ r.lsn) × (page.lsn ≤ r.lsn))

step : (at : PageAt) (page : PageState) (r : Rec) → Stays page r (redone at page r)
step at page r =
    cond_both (nat_lt page.lsn r.lsn && not (fills at r)) (changed at page r) page (Stays page r)
    (λ on. cond_both (touches at r) (record { lsn = r.lsn; cells = cells_after at (effect_of r.body) page.cells }) page (Stays page r)
    (λ _. inr (refl, omega (arith, ltb-true page.lsn r.lsn (and_parts (nat_lt page.lsn r.lsn) (not (fills at r)) on).0))) (λ _. inl refl))
    (λ _. inl refl)

rises : (at : PageAt) (records : List Rec) (page : PageState) → page.lsn ≤ (redone_by at records page).lsn
rises at [] page = omega arith
rises at (r ∷ records) page = elim (step at page r) [
  | inl same ↦ omega (arith, rises at records (redone at page r), ap (λ (p : PageState). p.lsn) same)
  | inr more ↦ omega (arith, rises at records (redone at page r), more.0, more.1)
]

-- a page whose number lies below those of all records wasn't changed by them
unchanged : (at : PageAt) (from : ℕ) (records : List Rec) (page : PageState) → AllByRecursion (λ (r : Rec). from ≤ r.lsn) records → (redone_by at records page).lsn < from → redone_by at records page ≡ page
unchanged at from [] page late low = refl
unchanged at from (r ∷ records) page late low = elim (step at page r) [
  | inl same ↦
      let here : redone_by at records (redone at page r) ≡ redone_by at records page = ap (redone_by at records) same in
      here ∙ unchanged at from records page late.1 (subst (λ (p : PageState). p.lsn < from) here low)
  | inr more ↦ absurd (omega (arith, rises at records (redone at page r), more.0, late.0, low))
]

-- ---- pages in frames

-- what was done to bring pages of data files to a number
pub record Brought (facts : Facts) (shown : ℕ × ℕ → List ℕ) (log : List ℕ) (to : ℕ) (pool : Pool) : Type 0 where
  pub places : List PageAt
  pub listed : ArePlaces facts.files (length facts.files + 1) 0 places
  pub before : Pool
  pub put : ArePut places (length places) before.pages
  pub read : List (List ℕ)
  pub are_read : AreRead shown places (length places) read
  pub found : List Rec
  pub whole : IsLog log found None
  pub are_redone : FramesRedone places (records_between facts.checkpoint to found) read before.frames
  pub marks : Marks facts.checkpoint (length before.pages) before pool

module _ (law : RedoBringsToEnd) (facts : Facts) (shown : ℕ × ℕ → List ℕ) (log : List ℕ) (to : ℕ) (pool : Pool) (records : List Rec) (is : Brought facts shown log to pool) (brings : Brings facts shown log to records) where
  -- redo by the log from the latest checkpoint on
  abbrev redone_at : PageAt → PageState
  redone_at at = redone_by at (records_between facts.checkpoint (end_of records) (kept_from brings.kept records)) (page_of (shown (at.file, at.page)))

  brought : (at : PageAt) → IsThere facts.files at → redone_at at ≡ last_page at records
  brought at there = law records brings.kept facts.checkpoint at (page_of (shown (at.file, at.page))) brings.path brings.some brings.order (brings.pages at there).is_page

  -- the place of the page in a frame
  placed : (i : ℕ) (at : PageAt) → IsIn is.before.pages i at.file at.page → slice_get is.places i ≡ Some at
  placed i at here =
      let below : i < length is.places = is.put.only i at.file at.page here in
      let old : PageAt = slice_index_or is.places i at in
      let held : slice_get is.places i ≡ Some old = slice_get-get_or is.places i at below in
      let lies = is.put.here i old below held in
      let both : ◌≡◌ {A = Option (Option (ℕ × ℕ))} (Some (Some (old.file, old.page))) (Some (Some (at.file, at.page))) = sym lies ∙ here in
      let pair : ◌≡◌ {A = ℕ × ℕ} (old.file, old.page) (at.file, at.page) = cc in
      held ∙ ap (λ (p : ℕ × ℕ). let q : PageAt = record { file = p.0; page = p.1 } in Some q) pair

  -- what the frame of a page holds
  becomes : (i : ℕ) (at : PageAt) → slice_get is.places i ≡ Some at → Becomes (shown (at.file, at.page)) (redone_at at) (slice_index_or is.before.frames i [])
  becomes i at held =
      let below : i < length is.places = slice_get_within is.places i at held in
      let one = one_log log is.found (kept_from brings.kept records) None None is.whole brings.held in
      let Was : List ℕ → PageAt → ℕ → List Rec → Type 0 = λ page place n rs. Becomes page (redone_by place (records_between facts.checkpoint n rs) (page_of page)) (slice_index_or is.before.frames i []) in
      let page = slice_index_or is.read i [] in
      let first : Was page (slice_index_or is.places i at) to is.found = is.are_redone.pages i at below in
      let second : Was page at to is.found = subst (λ (p : PageAt). Was page p to is.found) (get_or_from_slice_get is.places i at at held) first in
      let third : Was page at (end_of records) is.found = subst (λ (n : ℕ). Was page at n is.found) brings.ends second in
      let fourth : Was page at (end_of records) (kept_from brings.kept records) = subst (λ (rs : List Rec). Was page at (end_of records) rs) one.0 third in
      subst (λ (b : List ℕ). Was b at (end_of records) (kept_from brings.kept records)) (is.are_read i at below held) fourth

  pub brought_frames : (i : ℕ) (at : PageAt) → IsIn pool.pages i at.file at.page → IsThere facts.files at × IsLast records at (slice_index_or pool.frames i [])
  brought_frames i at here =
      let lies : IsIn is.before.pages i at.file at.page = subst (λ (ps : List (Option (ℕ × ℕ))). IsIn ps i at.file at.page) is.marks.pages here in
      let held = placed i at lies in
      let there : IsThere facts.files at = (is.listed.only i at held).0 in
      let new = becomes i at held in
      let stored = brings.pages at there in
      let inside : i < length is.before.pages = slice_get_within is.before.pages i (Some (at.file, at.page)) lies in
      let last : IsLast records at (slice_index_or is.before.frames i []) = record {
        whole = is.marks.whole i at.file at.page inside lies;
        place = record { file = new.place.file ∙ stored.place.file; number = new.place.number ∙ stored.place.number };
        is_last = new.held ∙ brought at there;
      } in
      (there, subst (λ (fs : List (List ℕ)). IsLast records at (slice_index_or fs i [])) (sym is.marks.frames) last)

  pub brought_clean : (at : PageAt) → IsThere facts.files at → (IsDirty pool at → ⊥) → page_of (shown (at.file, at.page)) ≡ last_page at records
  brought_clean at there clean =
      let held = places_all facts.files is.places at is.listed there in
      let i : ℕ = held.0 in
      let below : i < length is.places = slice_get_within is.places i at held.1 in
      let lies : IsIn is.before.pages i at.file at.page = is.put.here i at below held.1 in
      let here : IsIn pool.pages i at.file at.page = subst (λ (ps : List (Option (ℕ × ℕ))). IsIn ps i at.file at.page) (sym is.marks.pages) lies in
      let inside : i < length is.before.pages = slice_get_within is.before.pages i (Some (at.file, at.page)) lies in
      let new = becomes i at held.1 in
      let frame : List ℕ = slice_index_or is.before.frames i [] in
      elim (cases_lt (lsn_of frame) facts.checkpoint) [
        | inl low ↦
            let number : (redone_at at).lsn ≡ lsn_of frame = ap (λ (p : PageState). p.lsn) (sym new.held) in
            sym (unchanged at facts.checkpoint (records_between facts.checkpoint (end_of records) (kept_from brings.kept records)) (page_of (shown (at.file, at.page))) (between_late facts.checkpoint (end_of records) (kept_from brings.kept records)) (omega (arith, number, low)))
            ∙ brought at there
        | inr late ↦ absurd (clean (i, here, is.marks.marked i at.file at.page inside lies late))
      ]

-- from what each step did: places of listed files, put in frames, read and redone there, and marked
pub is_brought : {facts : Facts} {shown : ℕ × ℕ → List ℕ} {log : List ℕ} {to : ℕ} {before pool : Pool} (files : List DataFile) (places one two three : List PageAt) (read old : List (List ℕ)) → Marks facts.checkpoint (length before.pages) before pool
    → files ≡ facts.files → ArePlaces files (length files + 1) 0 places → one ≡ places → ArePut one (length one) before.pages → two ≡ places → AreRead shown two (length two) read → old ≡ read → three ≡ places
    → (found : List Rec) × IsLog log found None × FramesRedone three (records_between facts.checkpoint to found) old before.frames → Brought facts shown log to pool
is_brought {facts = facts} {shown = shown} {to = to} {before = before} files places one two three read old marks same listed first put second are_read held third redone' = record {
  places = places;
  listed = subst (λ (fs : List DataFile). ArePlaces fs (length fs + 1) 0 places) same listed;
  before = before;
  put = subst (λ (ps : List PageAt). ArePut ps (length ps) before.pages) first put;
  read = read;
  are_read = subst (λ (ps : List PageAt). AreRead shown ps (length ps) read) second are_read;
  found = redone'.0;
  whole = redone'.1;
  are_redone = subst (λ (fs : List (List ℕ)). FramesRedone places (records_between facts.checkpoint to redone'.0) fs before.frames) held
      (subst (λ (ps : List PageAt). FramesRedone ps (records_between facts.checkpoint to redone'.0) old before.frames) third redone'.2);
  marks = marks;
}
