-- A database of which a page was read into a frame.
use Rattle.std.proofs.Common.{◌≡◌, ◌≢◌, ◌⊎◌, ◌<◌, ℕ, Bool, true, false, List, [], ◌++◌, length, Option, Some, None, refl, inl, inr, sym, ap, ap₂, subst, ◌∙◌, true≢false, arith}
use Rattle.std.specs.List.{All}
use Rattle.std.specs.Prelude.{IfSome, IsNone, slice_get, slice_set, slice_index_or}
use Rattle.std.proofs.lemmas.List.{get_or-set_other, get_or-set_same, length-set}
use Rattle.std.proofs.lemmas.Option.{same_Some, slice_get-get_or, slice_get_within, some_pair_parts}
use Rattle.bk_device.specs.Calls.{ChangesNothing}
use Rattle.bk_device.specs.Compose.{effect_of_nothing, effect_then, keeps_by_nothing}
use Rattle.bk_device.specs.Disk.{Disk}
use Rattle.bk_device.specs.Effects.{Effect, KeepsFiles}
use Rattle.bk_facts.specs.declared.facts.DataFile.{DataFile}
use Rattle.bk_lemmas.specs.Tests.{equal_or_not}
use Rattle.bk_log.specs.Laws.{value_kept}
use Rattle.bk_pool.specs.Laws.{slice_get-set_other, slice_get-set_same}
use Rattle.bk_pool.specs.Pool.{IsFound, IsIn, Pool}
use Rattle.bk_redo.specs.declared.place.PageAt.{PageAt}
use Rattle.bk_redo.specs.PageStates.{page_of}
use Rattle.bk_segments.specs.Files.{IsOwn as IsOfLog, Logged}
use Rattle.bk_side.specs.Laws.{shown_kept}
use Rattle.bk_side.specs.Names.{side_file, IsOwn as IsOfSide}
use Rattle.bk_side.specs.Pages.{IsSound, shown}
use Rattle.bk_side.specs.Side.{pages_of}
use Rattle.bk_paged.specs.Laws.{crash_as, recovers_as}
use Rattle.bk_paged.specs.Holds.{Leaves, Stood}
use Rattle.bk_paged.specs.Names.{IsOwn, IsThere, names_of, shown_at}
use Rattle.bk_paged.specs.Paged.{IsDirty, IsLast, IsPaged, Kept, sealed_count}
use Rattle.bk_paged.specs.Pooled.{AreClean, Fetches, IsPool, ReadsPage}
use Rattle.bk_paged.specs.Leaving.{still_holds}
use Rattle.bk_paged.specs.StandLaws.{standing-kept, standing-pool}

-- ---- calls that change nothing

pub paged_kept : (p : Kept) (stood : Stood) (a b : Disk) → IsPaged a p stood → ChangesNothing a b → IsPaged b p stood
paged_kept p stood a b is call =
    let db : ℕ = p.log.db in
    let log : KeepsFiles (IsOfLog db) a b = keeps_by_nothing call in
    let pages : KeepsFiles (IsOfSide (side_file db) (names_of stood.files)) a b = keeps_by_nothing call in
    let same : (at : PageAt) → shown_at db stood.files b.files at ≡ shown_at db stood.files a.files at = λ at. shown_kept (side_file db) (names_of stood.files) pages (at.file, at.page) in
    record {
      standing = standing-kept p is.standing call;
      files = is.files;
      same_note = is.same_note;
      ends = is.ends;
      held = ap (λ (l : Logged). l.records ++ p.log.waiting) (value_kept log is.standing.logs) ∙ is.held;
      needs = is.needs;
      kept = is.kept;
      order = is.order;
      sealed = is.sealed;
      recovers = λ k enough.
          let old = is.recovers k enough in
          recovers_as p.log.head.kept p.log.head.kept p.since p.since stood.files (shown_at db stood.files a.files) (shown_at db stood.files b.files) _ old old.some old.order (omega arith) old.opened same;
      frames = is.frames;
      clean = λ at there not_dirty. ap page_of (same at) ∙ is.clean at there not_dirty;
    }

pub nothing_crash : (p : Kept) (stood : Stood) (a b : Disk) → IsPaged a p stood → ChangesNothing a b → Effect (IsOwn p.log.db stood.files) (Leaves p.log.db (sealed_count p) stood) a b
nothing_crash p stood a b is call = effect_of_nothing (λ image mine. (sealed_count p, omega arith, still_holds p stood a image is mine)) call

-- ---- pages of the files

-- the side shows them under the database's names
pub side_shown : (p : Kept) (stood : Stood) (a : Disk) → IsPaged a p stood → (at : PageAt) → pages_of p.side a.files (at.file, at.page) ≡ shown_at p.log.db stood.files a.files at
side_shown p stood a is at =
    ap₂ (λ (s : List ℕ) (ns : List (List ℕ)). shown s ns a.files (at.file, at.page)) is.standing.side_name (is.standing.side_names ∙ ap names_of is.files)

pub there_too : (p : Kept) (stood : Stood) (a : Disk) (at : PageAt) → IsPaged a p stood → IsThere p.facts.files at → IsThere stood.files at
there_too p stood a at is there = subst (λ (fs : List DataFile). IsThere fs at) is.files there

pub page_sound : (p : Kept) (stood : Stood) (a : Disk) (at : PageAt) → IsPaged a p stood → IsThere p.facts.files at → IsSound (pages_of p.side a.files (at.file, at.page))
page_sound p stood a at is there =
    subst IsSound (sym (side_shown p stood a is at)) ((is.recovers (sealed_count p) (omega arith)).pages at (there_too p stood a at is there)).sound

-- ---- frames

pub place_is : (at : PageAt) (file page : ℕ) → at.file ≡ file → at.page ≡ page → ◌≡◌ {A = PageAt} at (record { file = file; page = page })
place_is at file page files pages = ap₂ (λ (f n : ℕ). let place : PageAt = record { file = f; page = n } in place) files pages

-- where one page lies, no other one does
pub one_page : (pages : List (Option (ℕ × ℕ))) (i file page f n : ℕ) → IsIn pages i file page → IsIn pages i f n → (f ≡ file) × (n ≡ page)
one_page pages i file page f n first second = some_pair_parts f file n page (same_Some (Some (f, n)) (Some (file, page)) (sym second ∙ first))

-- a page that lies in a frame which was set lies there now, or in another one where it lay before
set_in : (pages : List (Option (ℕ × ℕ))) (i j file page f n : ℕ) → IsIn (slice_set pages i (Some (file, page))) j f n → ((j ≡ i) × (f ≡ file) × (n ≡ page)) ⊎ ((j ≢ i) × IsIn pages j f n)
set_in pages i j file page f n there = elim (equal_or_not j i) [
  | inl same ↦
      let within : i < length pages = omega (arith, slice_get_within (slice_set pages i (Some (file, page))) j (Some (f, n)) there, length-set pages i (Some (file, page)), same) in
      let parts = one_page (slice_set pages i (Some (file, page))) i file page f n (slice_get-set_same pages i (Some (file, page)) within) (subst (λ (k : ℕ). IsIn (slice_set pages i (Some (file, page))) k f n) same there) in
      inl (same, parts.0, parts.1)
  | inr other ↦ inr (other, sym (slice_get-set_other pages i j (Some (file, page)) other) ∙ there)
]

-- where every frame is dirty one is
pub all_dirty : (pool : Pool) → IsPool pool → All (λ is_dirty. is_dirty ≡ true) pool.dirty → AreClean pool → ⊥
all_dirty pool is every clean =
    let low : 0 < length pool.dirty = omega (arith, is.some, is.marks) in
    clean 0 (slice_get-get_or pool.dirty 0 true low ∙ ap Some (every 0 true low))

-- ---- a page was read

read_stands : (p : Kept) (stood : Stood) (pool : Pool) (file page i : ℕ) (a b : Disk) → IsPaged a p stood → ChangesNothing a b → IsThere p.facts.files (record { file = file; page = page }) → IsPool p.pool
    → ReadsPage (pages_of p.side a.files) p.pool pool file page i → IsPaged b (record p { pool = pool }) stood
read_stands p stood pool file page i a b is call there sized read =
    let now : IsPaged b p stood = paged_kept p stood a b is call in
    let at : PageAt = record { file = file; page = page } in
    let here : IsThere stood.files at = there_too p stood a at is there in
    let stored = (is.recovers (sealed_count p) (omega arith)).pages at here in
    let held : List ℕ = pages_of p.side a.files (file, page) in
    let absent : IsDirty p.pool at → ⊥ = λ dirty. read.absent dirty.0 dirty.1 in
    let last : IsLast stood.records at held = subst (IsLast stood.records at) (sym (side_shown p stood a is at)) (record { whole = stored.sound.whole; place = stored.place; is_last = is.clean at here absent }) in
    let within : i < length p.pool.frames = omega (arith, slice_get_within p.pool.dirty i false read.clean, sized.marks, sized.frames) in
    let frame : (j : ℕ) → slice_index_or pool.frames j [] ≡ slice_index_or (slice_set p.pool.frames i held) j [] = λ j. ap (λ (fs : List (List ℕ)). slice_index_or fs j []) read.frames in
    let Good : PageAt → List ℕ → Type 0 = λ other bytes. IsThere stood.files other × IsLast stood.records other bytes in
    record {
      standing = standing-pool p pool now.standing;
      files = now.files;
      same_note = now.same_note;
      ends = now.ends;
      held = now.held;
      needs = now.needs;
      kept = now.kept;
      order = now.order;
      sealed = now.sealed;
      recovers = now.recovers;
      frames = λ j other in_frame. elim (set_in p.pool.pages i j file page other.file other.page (subst (λ (ps : List (Option (ℕ × ℕ))). IsIn ps j other.file other.page) read.pages in_frame)) [
        | inl new ↦
            let bytes : slice_index_or pool.frames j [] ≡ held = frame j ∙ ap (λ (k : ℕ). slice_index_or (slice_set p.pool.frames i held) k []) new.0 ∙ get_or-set_same p.pool.frames i held [] within in
            subst (λ (o : PageAt). Good o (slice_index_or pool.frames j [])) (sym (place_is other file page new.1 new.2)) (subst (Good at) (sym bytes) (here, last))
        | inr old ↦ subst (Good other) (sym (frame j ∙ get_or-set_other p.pool.frames i j held [] old.0)) (is.frames j other old.1)
      ];
      clean = λ other in_file not_dirty. now.clean other in_file (λ dirty.
          let apart : dirty.0 ≢ i = λ same. true≢false (same_Some true false (sym dirty.2 ∙ ap (slice_get p.pool.dirty) same ∙ read.clean)) in
          let there_still : IsIn pool.pages dirty.0 other.file other.page = ap (λ (ps : List (Option (ℕ × ℕ))). slice_get ps dirty.0) read.pages ∙ slice_get-set_other p.pool.pages i dirty.0 (Some (file, page)) apart ∙ dirty.1 in
          not_dirty (dirty.0, there_still, ap (λ (ds : List Bool). slice_get ds dirty.0) read.dirty ∙ dirty.2));
    }

pub fetched_stands : (p : Kept) (stood : Stood) (pool : Pool) (file page i : ℕ) (a b : Disk) → IsPaged a p stood → ChangesNothing a b → IsThere p.facts.files (record { file = file; page = page }) → IsPool p.pool → Fetches (pages_of p.side a.files) p.pool pool file page i
    → IsPaged b (record p { pool = pool }) stood
fetched_stands p stood pool file page i a b is call there sized fetched = elim fetched [
  | inl found ↦ subst (λ (q : Pool). IsPaged b (record p { pool = q }) stood) (sym found.1) (paged_kept p stood a b is call)
  | inr read ↦ read_stands p stood pool file page i a b is call there sized read
]

-- or lay in a frame, or every frame is dirty
pub found_stands : (p : Kept) (stood : Stood) (pool : Pool) (file page : ℕ) (found : Option ℕ) (a b : Disk) → IsPaged a p stood → ChangesNothing a b → IsThere p.facts.files (record { file = file; page = page }) → IsPool p.pool
    → IfSome found (λ i. Fetches (pages_of p.side a.files) p.pool pool file page i) → (IsNone found → (pool ≡ p.pool) × All (λ is_dirty. is_dirty ≡ true) p.pool.dirty) → IsPaged b (record p { pool = pool }) stood
found_stands p stood pool file page None a b is call there sized fetched full = subst (λ (q : Pool). IsPaged b (record p { pool = q }) stood) (sym (full refl).0) (paged_kept p stood a b is call)
found_stands p stood pool file page (Some i) a b is call there sized fetched full = fetched_stands p stood pool file page i a b is call there sized fetched

-- in one frame alone
pub found_alone : (pages : List (Option (ℕ × ℕ))) (file page : ℕ) (found : Option ℕ) → IfSome found (λ i. IsIn pages i file page) → IfSome found (λ i. (j : ℕ) → IsIn pages j file page → j ≡ i) → IfSome found (λ i. IsFound pages file page i)
found_alone pages file page None here alone = tt
found_alone pages file page (Some i) here alone = record { here = here; alone = alone }

-- what is done once a page was looked for
pub brought_crash : (p found : Kept) (stood : Stood) (a b c : Disk) → IsPaged a p stood → ChangesNothing a b → found ≡ record p { pool = found.pool } → Effect (IsOwn found.log.db stood.files) (Leaves found.log.db (sealed_count found) stood) b c
    → Effect (IsOwn p.log.db stood.files) (Leaves p.log.db (sealed_count p) stood) a c
brought_crash p found stood a b c is call same second =
    effect_then (nothing_crash p stood a b is call)
    (crash_as p.log.db found.log.db (sealed_count p) (sealed_count found) stood b c (ap (λ (k : Kept). k.log.db) same) (omega (arith, ap (λ (k : Kept). k.log.stored) same)) second)

-- and once it was looked for again, where all was written meanwhile
pub read_crash : (p found written : Kept) (stood : Stood) (a d e : Disk) → IsPaged a p stood → found ≡ record p { pool = found.pool } → written.log.db ≡ found.log.db → written.log.stored ≡ found.log.end → Effect (IsOwn p.log.db stood.files) (Leaves p.log.db (sealed_count p) stood) a d
    → IsPaged d written stood → ChangesNothing d e → Effect (IsOwn p.log.db stood.files) (Leaves p.log.db (sealed_count p) stood) a e
read_crash p found written stood a d e is same db stored first stands call =
    let ends : found.log.end ≡ p.log.end = ap (λ (k : Kept). k.log.end) same in
    effect_then first
    (crash_as p.log.db written.log.db (sealed_count p) (sealed_count written) stood d e (db ∙ ap (λ (k : Kept). k.log.db) same) (omega (arith, stored, ends, is.sealed)) (nothing_crash written stood d e stands call))
