-- A database that was made.
use Rattle.std.proofs.Common.{◌≡◌, ◌≢◌, ◌⊎◌, ◌≤◌, ◌<◌, ◌^◌, ℕ, zero, suc, ◌+◌, Bool, false, List, [], ◌++◌, length, Option, None, get_or, refl, inl, inr, sym, ap, subst, ◌∙◌, arith}
use Rattle.std.specs.Option.{option_map_or}
use Rattle.std.proofs.lemmas.Bool.{cases_lt}
use Rattle.std.proofs.lemmas.List.{take_all}
use Rattle.std.proofs.lemmas.Option.{slice_get_past, slice_get-get_or}
use Rattle.bk_log.specs.ControlSlots.{control_of}
use Rattle.bk_device.specs.Compose.{durable_kept, effect_none, effect_then, effect_widen, keeps_by_effect}
use Rattle.bk_device.specs.Disk.{Files, Disk, IsDurable}
use Rattle.bk_device.specs.Effects.{Effect, IsName, KeepsFiles}
use Rattle.bk_facts.specs.declared.facts.DataFile.{DataFile}
use Rattle.bk_facts.specs.Facts.{Notes}
use Rattle.bk_log.specs.Gate.{Kept as KeptGate}
use Rattle.bk_ids.specs.declared.record.Rec.{Rec}
use Rattle.bk_lemmas.specs.Tests.{equal_or_not}
use Rattle.bk_log.specs.Log.{IsLog, value_of, Kept as KeptLog}
use Rattle.bk_page.specs.Changes.{IsFresh}
use Rattle.bk_page.specs.Laws.{fresh_page-fresh}
use Rattle.bk_page.specs.Page.{fresh_page}
use Rattle.bk_paths.specs.PageLaws.{page_last}
use Rattle.bk_paths.specs.Pages.{IsPage}
use Rattle.bk_paths.specs.Paths.{end_of, kept_from, settled}
use Rattle.bk_pool.specs.Pool.{IsIn, Pool}
use Rattle.bk_redo.specs.declared.place.PageAt.{PageAt}
use Rattle.bk_redo.specs.PageStates.{fresh, page_of}
use Rattle.bk_segments.specs.FileLaws.{foreign_control}
use Rattle.bk_segments.specs.Files.{control_file, emptied, IsForeign, IsOwn as IsOfLog, LogIs, Logged}
use Rattle.bk_side.specs.Laws.{added_kept, side_kept}
use Rattle.bk_side.specs.Names.{AreDifferent, side_file, IsOwn as IsOfSide}
use Rattle.bk_side.specs.Pages.{shown}
use Rattle.bk_side.specs.Side.{IsSide, IsOwnOf, added_of, pages_of, Kept as KeptSide}
use Rattle.bk_paged.specs.Laws.{apart}
use Rattle.bk_paged.specs.Holds.{HaveRoom, Holds, Recovers, unwritten}
use Rattle.bk_paged.specs.Making.{AreFirst, HoldsNone, IsFirstPage}
use Rattle.bk_paged.specs.Names.{IsOwn, IsThere, names_of, pages_in, shown_at}
use Rattle.bk_paged.specs.Paged.{IsPaged}
use Rattle.bk_paged.proofs.Adding.{named}
use Rattle.bk_paged.specs.Named.{own_keeps, shown_left, shown_stays, side_keeps}

-- ---- one data file

pages_there : (files : List DataFile) (i : ℕ) (d : DataFile) → i < length files → pages_in files (i + 1) ≡ (get_or files i d).pages
pages_there files i d within =
    let one : suc i ≡ i + 1 = omega arith in
    subst (λ (k : ℕ). pages_in files k ≡ (get_or files i d).pages) one (ap (λ (o : Option DataFile). option_map_or (λ (g : DataFile). g.pages) o 0) (slice_get-get_or files i d within))

-- pages are in a data file that is there
file_low : (files : List DataFile) (file page : ℕ) → page < pages_in files file → file ≤ length files
file_low files zero page there = omega arith
file_low files (suc i) page there = elim (cases_lt i (length files)) [
  | inl within ↦ omega (arith, within)
  | inr past ↦ absurd (omega (arith, subst (λ (o : Option DataFile). page < option_map_or (λ (g : DataFile). g.pages) o 0) (slice_get_past files i past) there))
]

-- a formatted page is one before any record
abbrev pub FreshIsFresh : Type 0
FreshIsFresh = (file number : ℕ) → file < 2 ^ 16 → number < 2 ^ 32 → page_of (fresh_page file number) ≡ fresh

first_page : FreshIsFresh → (at : PageAt) → at.file < 2 ^ 16 → at.page < 2 ^ 32 → IsFirstPage at (fresh_page at.file at.page)
first_page law at low small =
    let is : IsFresh (fresh_page at.file at.page) at.file at.page = fresh_page-fresh at.file at.page low small in
    record { sound = record { whole = is.size; digest = is.digest }; place = record { file = is.file; number = is.number }; is_fresh = law at.file at.page low small }

pub first_more : FreshIsFresh → (files : List DataFile) (i : ℕ) (d : DataFile) (before now : ℕ × ℕ → List ℕ) → i < length files → i + 1 < 2 ^ 16 → (get_or files i d).pages < 2 ^ 32 → AreFirst files i before
    → ((number : ℕ) → number < (get_or files i d).pages → now (i + 1, number) ≡ fresh_page (i + 1) number) → ((at : ℕ × ℕ) → at.0 ≢ i + 1 → now at ≡ before at) → AreFirst files (i + 1) now
first_more law files i d before now within few small first made others at low there = elim (equal_or_not at.file (i + 1)) [
  | inl same ↦
      let inside : at.page < (get_or files i d).pages = omega (arith, subst (λ (k : ℕ). at.page < pages_in files k) same there, pages_there files i d within) in
      let page : now (at.file, at.page) ≡ fresh_page at.file at.page = ap (λ (k : ℕ). now (k, at.page)) same ∙ made at.page inside ∙ sym (ap (λ (k : ℕ). fresh_page k at.page) same) in
      subst (IsFirstPage at) (sym page) (first_page law at (omega (arith, same, few)) (omega (arith, inside, small)))
  | inr other ↦ subst (IsFirstPage at) (sym (others (at.file, at.page) other)) (first at (omega (arith, low, other)) there)
]

-- ---- all of them

pub record MadeSome (files : List DataFile) (i : ℕ) (a b : Disk) (before side : KeptSide) : Type 0 where
  pub sides : IsSide b side
  pub added : added_of b side ≡ added_of a before
  pub first : AreFirst files i (pages_of before b.files)
  pub effect : Effect (IsOwnOf before) (λ _. Unit {0}) a b

-- the first i were made
pub record Making (tells : Type 0) (files : List DataFile) (i : ℕ) (a b : Disk) (before side : KeptSide) : Type 0 where
  pub fit : side.failed ≡ false
  pub gate : side.gate ≡ before.gate
  pub names : side.names ≡ before.names
  pub there : tells → MadeSome files i a b before side

pub making_begins : (tells : Type 0) (files : List DataFile) (a : Disk) (side : KeptSide) → side.failed ≡ false → (tells → IsSide a side) → Making tells files 0 a a side side
making_begins tells files a side fit stands = record {
  fit = fit;
  gate = refl;
  names = refl;
  there = λ t. record {
    sides = stands t;
    added = refl;
    first = λ at low there. let none : at.file ≡ 0 = omega (arith, low) in absurd (omega (arith, subst (λ (k : ℕ). at.page < pages_in files k) none there));
    effect = effect_none a (λ image mine. tt);
  };
}

pub making_effect : {tells : Type 0} {files : List DataFile} {i : ℕ} {a b : Disk} {before side : KeptSide} (c : Disk) → Making tells files i a b before side → tells → Effect (IsOwnOf side) (λ _. Unit {0}) b c → Effect (IsOwnOf before) (λ _. Unit {0}) a c
making_effect {b = b} {before = before} {side = side} c is t second =
    let Of : List ℕ → List (List ℕ) → Type 0 = λ s ns. Effect (IsOfSide s ns) (λ _. Unit {0}) b c in
    effect_then (is.there t).effect (named Of side.gate.name before.gate.name side.names before.names (ap (λ (g : KeptGate). g.name) is.gate) is.names second)

pub making_more : {tells : Type 0} {files : List DataFile} {i : ℕ} {a b : Disk} {before side : KeptSide} (c : Disk) (next : KeptSide) → Making tells files i a b before side → next.failed ≡ false → next.gate ≡ side.gate → next.names ≡ side.names → (tells → IsSide c next)
    → (tells → added_of c next ≡ added_of b side) → (tells → AreFirst files i (pages_of side b.files) → AreFirst files (i + 1) (pages_of side c.files)) → (tells → Effect (IsOwnOf side) (λ _. Unit {0}) b c) → Making tells files (i + 1) a c before next
making_more {files = files} {i = i} {b = b} {before = before} {side = side} c next is fit gate names stands added first effect = record {
  fit = fit;
  gate = gate ∙ is.gate;
  names = names ∙ is.names;
  there = λ t.
      let some = is.there t in
      let Of : List ℕ → List (List ℕ) → Type 0 = λ s ns. AreFirst files i (shown s ns b.files) → AreFirst files (i + 1) (shown s ns c.files) in
      record {
        sides = stands t;
        added = added t ∙ some.added;
        first = named Of side.gate.name before.gate.name side.names before.names (ap (λ (g : KeptGate). g.name) is.gate) is.names (first t) some.first;
        effect = making_effect c is t (effect t);
      };
}

pub making_ends : {tells : Type 0} {files : List DataFile} {i : ℕ} {a b : Disk} {before side : KeptSide} → Making tells files i a b before side → i ≡ length files → tells → AreFirst files (length files) (pages_of before b.files)
making_ends {files = files} {b = b} {before = before} is last t = subst (λ (n : ℕ). AreFirst files n (pages_of before b.files)) last (is.there t).first

-- ---- the database

none_settled : end_of (settled []) ≤ 2 ^ 63
unfolding settled
none_settled = omega arith

-- without a record, fresh pages are enough
pub first_recovers : (files : List DataFile) (pages : PageAt → List ℕ) → ((at : PageAt) → IsThere files at → IsFirstPage at (pages at)) → Recovers 1 1 files pages []
first_recovers files pages first = record {
  path = record { numbered = tt; spelled = tt; begun = tt };
  some = omega arith;
  order = omega arith;
  early = omega arith;
  opened = tt;
  room = none_settled;
  pages = λ at there.
      let page = first at there in
      record { sound = page.sound; place = page.place; is_page = subst (IsPage [] 1 at) (sym page.is_fresh) (page_last [] 1 at (omega arith)) };
}

-- each page that is there is in one of the data files
pub all_first : (db : ℕ) (files : List DataFile) (image : Files) → AreFirst files (length files) (shown (side_file db) (names_of files) image) → (at : PageAt) → IsThere files at → IsFirstPage at (shown_at db files image at)
all_first db files image first at there = first at (file_low files at.file at.page there) there

pub made_holds : (db : ℕ) (files : List DataFile) (note bytes : List ℕ) (image : Files) → HaveRoom files note → AreDifferent (names_of files) → Notes bytes (record { checkpoint = 1; files = files }) note → LogIs image db (emptied 1 bytes)
    → ((at : PageAt) → IsThere files at → IsFirstPage at (shown_at db files image at)) → Holds db (unwritten files note) image
made_holds db files note bytes image room different noted log first = record {
  log = emptied 1 bytes;
  checkpoint = 1;
  log_is = log;
  noted = noted;
  room = room;
  different = different;
  held = refl;
  needs = omega arith;
  recovers = first_recovers files (shown_at db files image) first;
}

pub foreign_none : (db : ℕ) (image : Files) → IsForeign image db → HoldsNone db image
foreign_none db image foreign stood holds = foreign holds.log holds.log_is

-- what a crash leaves
abbrev pub NoneOrMade : ℕ → List DataFile → List ℕ → Files → Type 0
NoneOrMade db files note image = HoldsNone db image ⊎ Holds db (unwritten files note) image

-- while no log is there
pub side_first : (db : ℕ) (files : List DataFile) (note : List ℕ) (a b : Disk) → IsDurable a (control_file db) → control_of (a.files (control_file db)) ≡ None → Effect (IsOfSide (side_file db) (names_of files)) (λ _. Unit {0}) a b → Effect (IsOwn db files) (NoneOrMade db files note) a b
side_first db files note a b durable none effect =
    effect_widen (λ name at. inr at) (λ image _ left.
    let may : a.may (control_file db) (image (control_file db)) = left (control_file db) (λ side. apart db files (control_file db) (inl refl) side) (inl (inl refl)) in
    inl (foreign_none db image (foreign_control image db (ap control_of (durable (image (control_file db)) may) ∙ none)))) effect

-- the control file then
control_keeps : (db : ℕ) (files : List DataFile) {a b : Disk} → Effect (IsOfSide (side_file db) (names_of files)) (λ _. Unit {0}) a b → KeepsFiles (IsName (control_file db)) a b
control_keeps db files effect = keeps_by_effect (λ name is side. apart db files name (inl is) side) effect

pub control_durable : (db : ℕ) (files : List DataFile) {a b : Disk} → Effect (IsOfSide (side_file db) (names_of files)) (λ _. Unit {0}) a b → IsDurable a (control_file db) → IsDurable b (control_file db)
control_durable db files effect durable = durable_kept {names = IsName (control_file db)} (control_file db) refl (control_keeps db files effect) durable

pub control_none : (db : ℕ) (files : List DataFile) {a b : Disk} → Effect (IsOfSide (side_file db) (names_of files)) (λ _. Unit {0}) a b → control_of (a.files (control_file db)) ≡ None → control_of (b.files (control_file db)) ≡ None
control_none db files effect none = ap control_of ((control_keeps db files effect).same (control_file db) refl) ∙ none

-- and once it may be
pub log_last : (db : ℕ) (files : List DataFile) (note bytes : List ℕ) (side : KeptSide) (b c : Disk) → HaveRoom files note → AreDifferent (names_of files) → Notes bytes (record { checkpoint = 1; files = files }) note → side.gate.name ≡ side_file db → side.names ≡ names_of files → IsSide b side
    → AreFirst files (length files) (pages_of side b.files) → Effect (IsOfLog db) (λ image. IsForeign image db ⊎ LogIs image db (emptied 1 bytes)) b c → Effect (IsOwn db files) (NoneOrMade db files note) b c
log_last db files note bytes side b c room different noted name names sides first effect =
    let Of : List ℕ → List (List ℕ) → Type 0 = λ s ns. AreFirst files (length files) (shown s ns b.files) in
    let here : Of (side_file db) (names_of files) = named Of side.gate.name (side_file db) side.names (names_of files) name names first in
    effect_widen (λ name at. inl at) (λ image log left. elim log [
      | inl foreign ↦ inl (foreign_none db image foreign)
      | inr made ↦ inr (made_holds db files note bytes image room different noted made (λ at there.
          subst (IsFirstPage at) (sym (shown_left db files side image name names sides (λ n own. left n (λ log. apart db files n log own) (inr own)) at)) (all_first db files b.files here at there)))
    ]) effect

-- ---- and it stands

pub made_stands : (db : ℕ) (files : List DataFile) (note own bytes : List ℕ) (log : KeptLog) (side : KeptSide) (pool : Pool) (failed : Bool) (b c : Disk) → HaveRoom files note → AreDifferent (names_of files) → Notes bytes (record { checkpoint = 1; files = files }) note → own ≡ note
    → side.gate.name ≡ side_file db → side.names ≡ names_of files → IsSide b side → added_of b side ≡ [] → AreFirst files (length files) (pages_of side b.files) → ((i file page : ℕ) → IsIn pool.pages i file page → ⊥)
    → Effect (IsOfLog db) (λ image. IsForeign image db ⊎ LogIs image db (emptied 1 bytes)) b c → IsLog c log → value_of c.files log ≡ emptied 1 bytes → log.db ≡ db → log.stored ≡ 1 → log.end ≡ 1 → log.head.kept ≡ 1 → log.waiting ≡ []
    → IsPaged c (record { log = log; side = side; pool = pool; facts = record { checkpoint = 1; files = files }; note = own; since = 1; failed = failed }) (unwritten files note)
made_stands db files note own bytes log side pool failed b c room different noted same name names sides none first empty effect logs value is_db stored end kept waiting =
    let keeps = side_keeps db files effect in
    let mine = own_keeps db files side name names keeps in
    let pages : (at : PageAt) → IsThere files at → IsFirstPage at (shown_at log.db files c.files at) = λ at there.
    let Of : List ℕ → List (List ℕ) → Type 0 = λ s ns. AreFirst files (length files) (shown s ns b.files) in
    let here : Of (side_file db) (names_of files) = named Of side.gate.name (side_file db) side.names (names_of files) name names first in
    subst (IsFirstPage at) (sym (ap (λ (n : ℕ). shown_at n files c.files at) is_db ∙ shown_stays db files effect at)) (all_first db files b.files here at there) in
    let Kept1 : ℕ → Type 0 = λ n. Recovers n 1 files (shown_at log.db files c.files) [] in
    let recovers : Recovers log.head.kept 1 files (shown_at log.db files c.files) [] = subst Kept1 (sym kept) (first_recovers files (shown_at log.db files c.files) pages) in
    record {
      standing = record {
        logs = logs;
        side_name = name ∙ ap side_file (sym is_db);
        side_names = names;
        sides = side_kept mine sides;
        fresh = added_kept side mine ∙ none;
        noted = subst (λ (n : List ℕ). Notes n (record { checkpoint = 1; files = files }) own) (sym (ap (λ (l : Logged). l.note) value)) (subst (λ (n : List ℕ). Notes bytes (record { checkpoint = 1; files = files }) n) (sym same) noted);
        room = subst (λ (n : List ℕ). HaveRoom files n) (sym same) room;
        different = different;
      };
      files = refl;
      same_note = same;
      ends = omega (arith, end);
      held = ap (λ (l : Logged). l.records ++ log.waiting) value ∙ waiting ∙ subst (λ (n : ℕ). ◌≡◌ {A = List Rec} [] (kept_from n [])) (sym kept) refl;
      needs = omega (arith, kept);
      kept = omega (arith, kept);
      order = omega arith;
      sealed = omega (arith, stored, end);
      recovers = λ k enough. subst (λ (rs : List Rec). Recovers log.head.kept 1 files (shown_at log.db files c.files) rs) (sym (take_all k [] (omega arith))) recovers;
      frames = λ i at here. absurd (empty i at.file at.page here);
      clean = λ at there not_dirty. (pages at there).is_fresh;
    }
