-- A database whose changed pages were written.
use Rattle.std.proofs.Common.{◌≡◌, ◌≤◌, ◌<◌, ◌⊎◌, ℕ, ◌+◌, Bool, true, false, List, [], ◌∷◌, ◌++◌, length, take, Option, Some, None, map, zero, suc, refl, inl, inr, sym, ap, ap₂, subst, ◌∙◌, true≢false, arith}
use Rattle.std.specs.Prelude.{replicate, slice_get, slice_index_or}
use Rattle.std.proofs.lemmas.List.{take_all}
use Rattle.std.proofs.lemmas.Bool.{cases_lt}
use Rattle.bk_device.specs.Compose.{effect_widen, keeps_by_effect}
use Rattle.bk_device.specs.Disk.{Files, Disk}
use Rattle.bk_device.specs.Effects.{Effect, KeepsFiles}
use Rattle.bk_facts.specs.declared.facts.DataFile.{DataFile}
use Rattle.bk_ids.specs.declared.record.Rec.{Rec}
use Rattle.bk_log.specs.Laws.{log_left, value_kept}
use Rattle.bk_log.specs.Log.{value_of}
use Rattle.bk_segments.specs.Files.{IsOwn as IsOfLog, Logged}
use Rattle.bk_page.specs.Changes.{Seals}
use Rattle.bk_page.specs.Laws.{sealed-seals}
use Rattle.bk_page.specs.Page.{cell_at, sealed}
use Rattle.std.specs.List.{range_with_len}
use Rattle.std.proofs.lemmas.Option.{slice_get_within}
use Rattle.bk_side.specs.BatchLaws.{page_tells}
use Rattle.bk_paths.specs.PageLaws.{page_last}
use Rattle.bk_paths.specs.Pages.{IsPage, last_page}
use Rattle.bk_paths.specs.Paths.{end_of}
use Rattle.bk_pool.specs.Laws.{replicated}
use Rattle.bk_pool.specs.Pool.{IsIn, Pool}
use Rattle.bk_redo.specs.declared.place.PageAt.{PageAt}
use Rattle.bk_redo.specs.PageStates.{PageState, cells_of, page_of}
use Rattle.bk_side.specs.Names.{AreDifferent, side_file, IsOwn as IsOfSide}
use Rattle.bk_side.specs.Pages.{Entry, Shows, batched, shown}
use Rattle.bk_side.specs.Side.{IsSide, IsOwnOf, ShowsPages, added_of, pages_of, Kept as KeptSide}
use Rattle.bk_paged.specs.Laws.{apart, recovers_as}
use Rattle.bk_paged.specs.Holds.{HaveRoom, IsStored, Leaves, Recovers, Stood}
use Rattle.bk_paged.specs.Names.{IsOwn, IsThere, names_of, shown_at}
use Rattle.bk_paged.specs.Paged.{IsLast, IsPaged, Kept, sealed_count}
use Rattle.bk_paged.specs.Pooled.{AreClean, Batches, IsDirtyBelow}
use Rattle.bk_paged.proofs.Adding.{ShowsEither, batched_pages, named}
use Rattle.bk_paged.specs.Leaving.{log_front, same_facts, stored_front}
use Rattle.bk_paged.specs.StandLaws.{standing-side}

-- ---- one page

map_agree : {X : Type 0} (f g : ℕ → X) (from n : ℕ) → ((k : ℕ) → from ≤ k → k < from + n → f k ≡ g k) → map f (range_with_len from n) ≡ map g (range_with_len from n)
map_agree f g from zero each = refl
map_agree {X = X} f g from (suc n) each =
    ap₂ (λ (x : X) (xs : List X). x ∷ xs) (each from (omega arith) (omega arith)) (map_agree f g (from + 1) n (λ k low high. each k (omega arith) (omega arith)))

cells_agree : (old new : List ℕ) → ((slot : ℕ) → slot < 63 → cell_at new slot ≡ cell_at old slot) → cells_of new ≡ cells_of old
unfolding cells_of
cells_agree old new same = map_agree (cell_at new) (cell_at old) 0 63 (λ k low high. same k (omega (arith, high)))

-- a page with its digest holds what it held
sealed_page : (page : List ℕ) → length page ≡ 8192 → page_of (sealed page) ≡ page_of page
sealed_page page whole =
    let seals : Seals page (sealed page) = sealed-seals page whole in
    ap₂ (λ (n : ℕ) (cs : List (List ℕ)). let state : PageState = record { lsn = n; cells = cs } in state) seals.lsn (cells_agree page (sealed page) seals.cells)

-- and is whole, its own, and as of the end
pub sealed_last : (records : List Rec) (at : PageAt) (page : List ℕ) → IsLast records at page → IsStored records (end_of records) at (sealed page)
sealed_last records at page is =
    let seals : Seals page (sealed page) = sealed-seals page is.whole in
    record {
      sound = record { whole = seals.size; digest = seals.own };
      place = record { file = seals.place.file ∙ is.place.file; number = seals.place.number ∙ is.place.number };
      is_page = subst (IsPage records (end_of records) at) (sym (sealed_page page is.whole ∙ is.is_last)) (page_last records (end_of records) at (omega arith));
    }

-- ---- which pages are dirty

is_true : (o : Option Bool) → (o ≡ Some true) ⊎ (o ≡ Some true → ⊥)
is_true None = inr (λ e. absurd cc)
is_true (Some true) = inl refl
is_true (Some false) = inr (λ e. absurd cc)

is_it : (o : Option (Option (ℕ × ℕ))) (at : ℕ × ℕ) → (o ≡ Some (Some (at.0, at.1))) ⊎ (o ≡ Some (Some (at.0, at.1)) → ⊥)
is_it None at = inr (λ e. absurd cc)
is_it (Some None) at = inr (λ e. absurd cc)
is_it (Some (Some p)) at = elim (page_tells p at) [
  | inl same ↦ inl (ap (λ (q : ℕ × ℕ). Some (Some q)) same.1)
  | inr other ↦ inr (λ e. other.1 cc)
]

-- the page lies in a dirty frame among the first n, or it doesn't
dirty_or_not : (pool : Pool) (at : ℕ × ℕ) (n : ℕ) → ((i : ℕ) × IsDirtyBelow pool n at i) ⊎ ((i : ℕ) → IsDirtyBelow pool n at i → ⊥)
dirty_or_not pool at zero = inr (λ i dirty. absurd (omega (arith, dirty.0)))
dirty_or_not pool at (suc n) = elim (dirty_or_not pool at n) [
  | inl below ↦ inl (below.0, (omega (arith, below.1.0), below.1.1, below.1.2))
  | inr none ↦ elim (is_true (slice_get pool.dirty n)) [
    | inl dirty ↦ elim (is_it (slice_get pool.pages n) at) [
      | inl here ↦ inl (n, (omega arith, dirty, here))
      | inr other ↦ inr (λ i is. other (last_one i is none))
    ]
    | inr clean ↦ inr (λ i is. clean (last_dirty i is none))
  ]
]
  where
    last_one : (i : ℕ) → IsDirtyBelow pool (suc n) at i → ((j : ℕ) → IsDirtyBelow pool n at j → ⊥) → slice_get pool.pages n ≡ Some (Some (at.0, at.1))
    last_one i is none = elim (cases_lt i n) [
      | inl less ↦ absurd (none i (less, is.1, is.2))
      | inr least ↦ subst (λ (k : ℕ). slice_get pool.pages k ≡ Some (Some (at.0, at.1))) (omega (arith, is.0, least)) is.2
    ]

    last_dirty : (i : ℕ) → IsDirtyBelow pool (suc n) at i → ((j : ℕ) → IsDirtyBelow pool n at j → ⊥) → slice_get pool.dirty n ≡ Some true
    last_dirty i is none = elim (cases_lt i n) [
      | inl less ↦ absurd (none i (less, is.1, is.2))
      | inr least ↦ subst (λ (k : ℕ). slice_get pool.dirty k ≡ Some true) (omega (arith, is.0, least)) is.1
    ]

-- ---- all pages

-- what the batch of the dirty frames makes of the pages in the files
abbrev pub batched_at : Kept → Stood → Disk → List Entry → PageAt → List ℕ
batched_at p stood a entries at = batched entries (at.file, at.page) (shown_at p.log.db stood.files a.files at)

-- a page behind that is as of the end
pub written_page : (p : Kept) (stood : Stood) (a : Disk) (entries : List Entry) → IsPaged a p stood → p.log.stored ≡ p.log.end → Batches p.pool (length p.pool.pages) entries → (at : PageAt) → IsThere stood.files at
    → IsStored stood.records (end_of stood.records) at (batched_at p stood a entries at) × (page_of (batched_at p stood a entries at) ≡ last_page at stood.records)
written_page p stood a entries is sealed' batches at there =
    let n : ℕ = length p.pool.pages in
    let pair : ℕ × ℕ = (at.file, at.page) in
    let old : List ℕ = shown_at p.log.db stood.files a.files at in
    let stored = (is.recovers (sealed_count p) (omega arith)).pages at there in
    let Good : List ℕ → Type 0 = λ page. IsStored stood.records (end_of stood.records) at page × (page_of page ≡ last_page at stood.records) in
    elim (dirty_or_not p.pool pair n) [
      | inl dirty ↦
          let put_there = batches.puts pair dirty.0 old dirty.1 stored.sound.whole in
          let last = (is.frames put_there.0 at put_there.1.2).1 in
          subst Good (sym put_there.2) (sealed_last stood.records at (slice_index_or p.pool.frames put_there.0 []) last, sealed_page (slice_index_or p.pool.frames put_there.0 []) last.whole ∙ last.is_last)
      | inr none ↦
          let clean = is.clean at there (λ dirty. none dirty.0 (slice_get_within p.pool.pages dirty.0 (Some (at.file, at.page)) dirty.1, dirty.2, dirty.1)) in
          let as_last : IsPage stood.records (end_of stood.records) at (page_of old) = subst (IsPage stood.records (end_of stood.records) at) (sym clean) (page_last stood.records (end_of stood.records) at (omega arith)) in
          subst Good (sym (batches.leaves pair old none)) (record { sound = stored.sound; place = stored.place; is_page = as_last }, clean)
    ]

-- and with such pages the log is enough to recover the path
pub written_recovers : (p : Kept) (stood : Stood) (a : Disk) (entries : List Entry) → IsPaged a p stood → p.log.stored ≡ p.log.end → Batches p.pool (length p.pool.pages) entries → (k : ℕ) → sealed_count p ≤ k
    → Recovers p.log.head.kept p.log.end stood.files (batched_at p stood a entries) (take k stood.records)
written_recovers p stood a entries is sealed' batches k enough =
    let old = is.recovers k enough in
    let whole : take k stood.records ≡ stood.records = take_all k stood.records (omega (arith, sealed', enough, is.ends)) in
    let ends : p.log.end ≡ end_of (take k stood.records) = is.ends ∙ ap end_of (sym whole) in
    record {
      path = old.path;
      some = old.some;
      order = omega (arith, old.order, old.early, ends);
      early = omega (arith, ends);
      opened = old.opened;
      room = old.room;
      pages = λ at there.
          let page = (written_page p stood a entries is sealed' batches at there).0 in
          let Of : List Rec → ℕ → Type 0 = λ rs n. IsStored rs n at (batched_at p stood a entries at) in
          subst (Of (take k stood.records)) (sym is.ends) (subst (λ (rs : List Rec). Of rs (end_of stood.records)) (sym whole) page);
    }

-- the number from which on the pages are as of is at most the end
pub since_end : (p : Kept) (stood : Stood) (a : Disk) → IsPaged a p stood → p.since ≤ p.log.end
since_end p stood a is =
    let whole : take (length stood.records) stood.records ≡ stood.records = take_all (length stood.records) stood.records (omega arith) in
    let early = (is.recovers (length stood.records) (omega (arith, is.sealed, is.ends))).early in
    omega (arith, subst (λ (rs : List Rec). p.since ≤ end_of rs) whole early, is.ends)

-- ---- what a crash leaves

-- pages that files show, under the names of a database
abbrev pub Shown : Kept → (ℕ × ℕ → List ℕ) → Files → Type 0
Shown p given image = Shows (side_file p.log.db) (names_of p.facts.files) given image

abbrev pub old_pages : Kept → Disk → ℕ × ℕ → List ℕ
old_pages p a = shown (side_file p.log.db) (names_of p.facts.files) a.files

abbrev pub Written : Kept → Disk → List Entry → Files → Type 0
Written p a entries image = Shown p (old_pages p a) image ⊎ Shown p (λ at. batched entries at (old_pages p a at)) image

pub write_crash : (p : Kept) (stood : Stood) (entries : List Entry) (a b : Disk) → IsPaged a p stood → p.log.stored ≡ p.log.end → Batches p.pool (length p.pool.pages) entries
    → Effect (IsOfSide (side_file p.log.db) (names_of p.facts.files)) (Written p a entries) a b → Effect (IsOwn p.log.db stood.files) (Leaves p.log.db (sealed_count p) stood) a b
write_crash p stood entries a b is sealed' batches effect =
    let k : ℕ = sealed_count p in
    let front = is.recovers k (omega arith) in
    let after = written_recovers p stood a entries is sealed' batches k (omega arith) in
    let Names : List DataFile → Type 0 = λ fs. Effect (IsOfSide (side_file p.log.db) (names_of fs)) (λ image. Shows (side_file p.log.db) (names_of fs) (shown (side_file p.log.db) (names_of fs) a.files) image
    ⊎ Shows (side_file p.log.db) (names_of fs) (λ at. batched entries at (shown (side_file p.log.db) (names_of fs) a.files at)) image) a b in
    let here : Names stood.files = subst Names is.files effect in
    effect_widen (λ name at. inr at) (λ image shows left.
    let log = log_left image is.standing.logs (λ name log. left name (λ side. apart p.log.db stood.files name log side) (inl log)) in (
      k,
      omega arith,
      record {
        log = value_of a.files p.log;
        checkpoint = p.facts.checkpoint;
        log_is = log;
        noted = same_facts p stood a is;
        room = subst (λ (fs : List DataFile). HaveRoom fs stood.note) is.files (subst (λ (n : List ℕ). HaveRoom p.facts.files n) is.same_note is.standing.room);
        different = subst (λ (fs : List DataFile). AreDifferent (names_of fs)) is.files is.standing.different;
        held = stored_front p stood a is;
        needs = is.needs;
        recovers = elim shows [
          | inl before ↦ recovers_as p.log.head.kept p.log.head.kept p.since p.facts.checkpoint stood.files (shown_at p.log.db stood.files a.files) (shown_at p.log.db stood.files image) (take k stood.records)
              front front.some is.kept is.order front.opened (λ at. before.pages (at.file, at.page))
          | inr written ↦ recovers_as p.log.head.kept p.log.head.kept p.log.end p.facts.checkpoint stood.files (batched_at p stood a entries) (shown_at p.log.db stood.files image) (take k stood.records)
              after front.some is.kept (omega (arith, is.order, since_end p stood a is)) front.opened (λ at. written.pages (at.file, at.page))
        ];
      },
    )) here

-- ---- and then it stands

pub write_stands : (p : Kept) (stood : Stood) (side : KeptSide) (pool : Pool) (failed : Bool) (entries : List Entry) (a c : Disk) → IsPaged a p stood → p.log.stored ≡ p.log.end → Batches p.pool (length p.pool.pages) entries
    → Effect (IsOfSide (side_file p.log.db) (names_of p.facts.files)) (Written p a entries) a c → IsSide c side → side.gate.name ≡ p.side.gate.name → side.names ≡ p.side.names → added_of c side ≡ []
    → Shown p (λ at. batched entries at (old_pages p a at)) c.files → pool.pages ≡ p.pool.pages → pool.frames ≡ p.pool.frames
    → IsPaged c (record p { side = side; pool = pool; since = p.log.end; failed = failed }) stood
write_stands p stood side pool failed entries a c is sealed' batches effect sides name names none shows pages frames =
    let db : ℕ = p.log.db in
    let keeps : KeepsFiles (IsOfLog db) a c = keeps_by_effect (λ n log own. apart db p.facts.files n log own) effect in
    let Same : List DataFile → Type 0 = λ fs. (at : ℕ × ℕ) → shown (side_file db) (names_of fs) c.files at ≡ batched entries at (shown (side_file db) (names_of fs) a.files at) in
    let same : Same stood.files = subst Same is.files shows.pages in
    let now : (at : PageAt) → shown_at db stood.files c.files at ≡ batched_at p stood a entries at = λ at. same (at.file, at.page) in
    record {
      standing = standing-side p side pool p.log.end failed is.standing effect sides name names none;
      files = is.files;
      same_note = is.same_note;
      ends = is.ends;
      held = ap (λ (l : Logged). l.records ++ p.log.waiting) (value_kept keeps is.standing.logs) ∙ is.held;
      needs = is.needs;
      kept = is.kept;
      order = omega (arith, is.order, since_end p stood a is);
      sealed = is.sealed;
      recovers = λ k enough.
          let after = written_recovers p stood a entries is sealed' batches k enough in
          recovers_as p.log.head.kept p.log.head.kept p.log.end p.log.end stood.files (batched_at p stood a entries) (shown_at db stood.files c.files) (take k stood.records) after after.some after.order (omega arith) after.opened now;
      frames = λ i at here.
          let Frame : List (List ℕ) → Type 0 = λ fs. IsLast stood.records at (slice_index_or fs i []) in
          let old = is.frames i at (subst (λ (ps : List (Option (ℕ × ℕ))). IsIn ps i at.file at.page) pages here) in
          (old.0, subst Frame (sym frames) old.1);
      clean = λ at there _. ap page_of (now at) ∙ (written_page p stood a entries is sealed' batches at there).1;
    }

-- ---- by way of the side

-- what is left of the side's files while pages are added
pub added_crash : (p : Kept) (stood : Stood) (a b : Disk) → IsPaged a p stood → Effect (IsOwnOf p.side) (ShowsPages p.side (pages_of p.side a.files)) a b → Effect (IsOwn p.log.db stood.files) (Leaves p.log.db (sealed_count p) stood) a b
added_crash p stood a b is effect =
    let k : ℕ = sealed_count p in
    let Of : List ℕ → List (List ℕ) → Type 0 = λ s ns. Effect (IsOfSide s ns) (Shows s ns (shown s ns a.files)) a b in
    let here : Of (side_file p.log.db) (names_of stood.files) = named Of p.side.gate.name (side_file p.log.db) p.side.names (names_of stood.files) is.standing.side_name (is.standing.side_names ∙ ap names_of is.files) effect in
    effect_widen (λ name at. inr at) (λ image shows left.
    let log = log_left image is.standing.logs (λ name log. left name (λ side. apart p.log.db stood.files name log side) (inl log)) in (
      k,
      omega arith,
      log_front p stood a image k (value_of a.files p.log) is (omega arith) refl refl (stored_front p stood a is) log (λ at. shows.pages (at.file, at.page)),
    )) here

-- what is done to the side's files, under the names of the database
side_effect : (p : Kept) (stood : Stood) (entries : List Entry) (a b : Disk) → IsPaged a p stood → Effect (IsOwnOf p.side) (ShowsEither entries p.side a.files) a b → Effect (IsOfSide (side_file p.log.db) (names_of p.facts.files)) (Written p a entries) a b
side_effect p stood entries a b is effect =
    let Of : List ℕ → List (List ℕ) → Type 0 = λ s ns. Effect (IsOfSide s ns) (λ image. Shows s ns (shown s ns a.files) image ⊎ Shows s ns (λ at. batched entries at (shown s ns a.files at)) image) a b in
    named Of p.side.gate.name (side_file p.log.db) p.side.names (names_of p.facts.files) is.standing.side_name is.standing.side_names effect

-- and of the pages that are written then
pub applied_crash : (p : Kept) (stood : Stood) (entries : List Entry) (a b : Disk) → IsPaged a p stood → p.log.stored ≡ p.log.end → Batches p.pool (length p.pool.pages) entries → Effect (IsOwnOf p.side) (ShowsEither entries p.side a.files) a b
    → Effect (IsOwn p.log.db stood.files) (Leaves p.log.db (sealed_count p) stood) a b
applied_crash p stood entries a b is sealed' batches effect =
    write_crash p stood entries a b is sealed' batches (side_effect p stood entries a b is effect)

pub applied_stands : (p : Kept) (stood : Stood) (side : KeptSide) (pool : Pool) (since : ℕ) (failed : Bool) (entries : List Entry) (a c : Disk) → IsPaged a p stood → p.log.stored ≡ p.log.end → Batches p.pool (length p.pool.pages) entries
    → Effect (IsOwnOf p.side) (ShowsEither entries p.side a.files) a c → IsSide c side → side.gate.name ≡ p.side.gate.name → side.names ≡ p.side.names → added_of c side ≡ []
    → ShowsPages p.side (batched_pages entries p.side a.files) c.files → pool.pages ≡ p.pool.pages → pool.frames ≡ p.pool.frames → since ≡ p.log.end → IsPaged c (record p { side = side; pool = pool; since = since; failed = failed }) stood
applied_stands p stood side pool since failed entries a c is sealed' batches effect sides name names none shows pages frames ends =
    let At : ℕ → Type 0 = λ n. IsPaged c (record p { side = side; pool = pool; since = n; failed = failed }) stood in
    let Of : List ℕ → List (List ℕ) → Type 0 = λ s ns. Shows s ns (λ at. batched entries at (shown s ns a.files at)) c.files in
    subst At (sym ends) (write_stands p stood side pool failed entries a c is sealed' batches (side_effect p stood entries a c is effect) sides name names none
    (named Of p.side.gate.name (side_file p.log.db) p.side.names (names_of p.facts.files) is.standing.side_name is.standing.side_names shows) pages frames)

-- no frame is dirty
pub none_dirty : (pool old : Pool) → pool ≡ record old { dirty = replicate (length old.dirty) false } → AreClean pool
none_dirty pool old same i dirty = true≢false (replicated (length old.dirty) i false true (ap (λ (q : Pool). slice_get q.dirty i) (sym same) ∙ dirty))
