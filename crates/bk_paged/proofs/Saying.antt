-- A database that says one record more.
use Rattle.std.proofs.Common.{◌≡◌, ◌≤◌, ◌<◌, ◌^◌, ℕ, ◌+◌, ◌-◌, Bool, true, false, not, cond, List, [], ◌∷◌, ◌++◌, length, take, refl, inl, inr, sym, ap, subst, ◌∙◌, true≢false, arith, append_assoc}
use Rattle.std.specs.List.{AllByRecursion, filter}
use Rattle.std.specs.Prelude.{slice_index_or}
use Rattle.std.proofs.lemmas.Bool.{and_parts, cases_lt, cond-false, or_from}
use Rattle.std.proofs.lemmas.List.{drop-append-le, length-append, take-append-le, take_all}
use Rattle.std.proofs.lemmas.List.Folds.{list_all-append}
use Rattle.bk_device.specs.Compose.{effect_none}
use Rattle.bk_device.specs.Disk.{Disk}
use Rattle.bk_device.specs.Effects.{Effect}
use Rattle.bk_facts.specs.declared.facts.DataFile.{DataFile}
use Rattle.bk_ids.specs.declared.record.Rec.{Rec}
use Rattle.bk_log.specs.Log.{value_of}
use Rattle.bk_paths.specs.PageLaws.{last_more, page_more}
use Rattle.bk_paths.specs.PathLaws.{numbered_length, path_more}
use Rattle.bk_paths.specs.Pages.{last_page}
use Rattle.bk_paths.specs.Paths.{IsPath, KeepsOpen, end_of, settled, undoing}
use Rattle.bk_pool.specs.Pool.{IsIn, Pool}
use Rattle.bk_record.specs.LengthLaws.{inside_short}
use Rattle.bk_record.specs.Spelling.{IsRecord}
use Rattle.bk_redo.specs.declared.place.PageAt.{PageAt}
use Rattle.bk_redo.specs.Effects.{cells_after, effect_of, fills, touches}
use Rattle.bk_redo.specs.PageStates.{page_of}
use Rattle.bk_undo.specs.declared.pending.Pending.{Pending}
use Rattle.bk_undo.specs.Laws.{UndoingIsNoLonger}
use Rattle.bk_undo.specs.Losers.{closes, compensation, is_open, pending, writes}
use Rattle.bk_lemmas.specs.Lists.{all_joined}
use Rattle.bk_paged.specs.Appends.{with_waiting}
use Rattle.bk_paged.specs.Holds.{Holds, Leaves, Recovers, Stood, with_one}
use Rattle.bk_paged.specs.Names.{IsOwn, IsThere, shown_at}
use Rattle.bk_paged.specs.Paged.{IsDirty, IsLast, IsPaged, Kept, checkpoint_record, sealed_count}
use Rattle.bk_paged.specs.Leaving.{still_holds}
use Rattle.bk_paged.specs.StandLaws.{standing-pool, standing-waiting}

-- ---- what is pending behind one record more

-- what passes the stricter of two tests has what all have that pass the other one
all_stricter : (P : Pending → Type 0) (test stricter : Pending → Bool) (ws : List Pending) → ((w : Pending) → stricter w ≡ true → test w ≡ true) → AllByRecursion P (filter test ws) → AllByRecursion P (filter stricter ws)
all_stricter P test stricter [] leads all = tt
all_stricter P test stricter (w ∷ ws) leads all = by (all_stricter P test stricter ws leads) (stricter w) refl (test w) refl
  where
    rest : (t : Bool) → test w ≡ t → AllByRecursion P (filter test ws)
    rest true is = (subst (λ (b : Bool). AllByRecursion P (cond b (w ∷ filter test ws) (filter test ws))) is all).1
    rest false is = subst (λ (b : Bool). AllByRecursion P (cond b (w ∷ filter test ws) (filter test ws))) is all

    by : (AllByRecursion P (filter test ws) → AllByRecursion P (filter stricter ws)) → (s : Bool) → stricter w ≡ s → (t : Bool) → test w ≡ t → AllByRecursion P (filter stricter (w ∷ ws))
    by more false off t is = subst (λ (b : Bool). AllByRecursion P (cond b (w ∷ filter stricter ws) (filter stricter ws))) (sym off) (more (rest t is))
    by more true on false off = absurd (true≢false (sym (leads w on) ∙ off))
    by more true on true is =
        let both : P w × AllByRecursion P (filter test ws) = subst (λ (b : Bool). AllByRecursion P (cond b (w ∷ filter test ws) (filter test ws))) is all in
        subst (λ (b : Bool). AllByRecursion P (cond b (w ∷ filter stricter ws) (filter stricter ws))) (sym on) (both.0, more both.1)

still_open : (records : List Rec) (r : Rec) (w : Pending) → is_open (records ++ r ∷ []) w ≡ true → is_open records w ≡ true
still_open records r w is = (and_parts (is_open records w) (is_open (r ∷ []) w) (sym (list_all-append (λ (s : Rec). not (closes s w)) records (r ∷ [])) ∙ is)).0

-- a log that keeps what is open goes on doing so, where it keeps the first record of the record's transaction, or the record is no write
pub keeps_open_more : (kept : ℕ) (records : List Rec) (r : Rec) → AllByRecursion (λ (w : Pending). kept ≤ w.begin) (writes r) → KeepsOpen kept records → KeepsOpen kept (records ++ r ∷ [])
keeps_open_more kept [] r own opened =
    all_joined (λ (w : Pending). kept ≤ w.begin) (filter (is_open []) (writes r)) [] (every (writes r) own) tt
  where
    every : (ws : List Pending) → AllByRecursion (λ (w : Pending). kept ≤ w.begin) ws → AllByRecursion (λ (w : Pending). kept ≤ w.begin) (filter (is_open []) ws)
    every [] all = tt
    every (w ∷ ws) all = (all.0, every ws all.1)
keeps_open_more kept (x ∷ records) r own opened =
    let P : Pending → Type 0 = λ w. kept ≤ w.begin in
    let parts = all_apart P (filter (is_open records) (writes x)) (pending records) opened in
    all_joined P (filter (is_open (records ++ r ∷ [])) (writes x)) (pending (records ++ r ∷ []))
    (all_stricter P (is_open records) (is_open (records ++ r ∷ [])) (writes x) (still_open records r) parts.0) (keeps_open_more kept records r own parts.1)
  where
    all_apart : (P : Pending → Type 0) (xs ys : List Pending) → AllByRecursion P (xs ++ ys) → AllByRecursion P xs × AllByRecursion P ys
    all_apart P [] ys all = (tt, all)
    all_apart P (y ∷ xs) ys all = let rest = all_apart P xs ys all.1 in ((all.0, rest.0), rest.1)

-- ---- a path with one record more

-- a record that may be said next
pub record Next (kept : ℕ) (records : List Rec) (r : Rec) : Type 0 where
  pub number : r.lsn ≡ end_of records
  pub room : r.lsn < 2 ^ 62
  pub begun : r.begin ≤ r.lsn
  pub is_record : IsRecord r
  pub plain : (at : PageAt) → fills at r ≡ false
  pub opened : AllByRecursion (λ (w : Pending). kept ≤ w.begin) (writes r)

pub said_path : (kept : ℕ) (records : List Rec) (r : Rec) → IsPath records → Next kept records r → IsPath (records ++ r ∷ [])
said_path kept records r path next = path_more records (r ∷ []) path (next.number, tt) (next.is_record, tt) (next.begun, tt)

settled_end : UndoingIsNoLonger → (records : List Rec) → end_of (settled records) ≤ length records + end_of records
unfolding settled
settled_end few records =
    omega (arith, length-append records (undoing records), numbered_length (end_of records) (compensation (end_of records) records), few (end_of records) records)

pub said_recovers : UndoingIsNoLonger → (kept since : ℕ) (files : List DataFile) (shown : PageAt → List ℕ) (records : List Rec) (r : Rec) → Recovers kept since files shown records → Next kept records r → Recovers kept since files shown (records ++ r ∷ [])
said_recovers few kept since files shown records r is next =
    let path : IsPath (records ++ r ∷ []) = said_path kept records r is.path next in
    let longer : length (records ++ r ∷ []) ≡ length records + 1 = length-append records (r ∷ []) in
    record {
      path = path;
      some = is.some;
      order = is.order;
      early = omega (arith, is.early, longer);
      opened = keeps_open_more kept records r next.opened is.opened;
      room = omega (arith, settled_end few (records ++ r ∷ []), longer, next.number, next.room);
      pages = λ at there.
          let page = is.pages at there in
          record { sound = page.sound; place = page.place; is_page = page_more records (r ∷ []) since at (page_of (shown at)) path (or_from (fills at r) false (next.plain at) refl) page.is_page };
    }

-- ---- a database that says one record more

pub untouched_last : (records : List Rec) (r : Rec) (at : PageAt) → IsPath (records ++ r ∷ []) → touches at r ≡ false → last_page at (records ++ r ∷ []) ≡ last_page at records
untouched_last records r at path off =
    last_more records (r ∷ []) at path
    ∙ cond-false (touches at r) (record { lsn = r.lsn; cells = cells_after at (effect_of r.body) (last_page at records).cells }) (last_page at records) off

-- the log is enough to recover all records
pub whole_recovers : (p : Kept) (stood : Stood) (a : Disk) → IsPaged a p stood → Recovers p.log.head.kept p.since stood.files (shown_at p.log.db stood.files a.files) stood.records
whole_recovers p stood a is =
    let n : ℕ = length stood.records in
    subst (Recovers p.log.head.kept p.since stood.files (shown_at p.log.db stood.files a.files)) (take_all n stood.records (omega arith)) (is.recovers n (omega (arith, is.sealed, is.ends)))

pub next_path : (p : Kept) (stood : Stood) (a : Disk) (r : Rec) → IsPaged a p stood → Next p.log.head.kept stood.records r → IsPath (stood.records ++ r ∷ [])
next_path p stood a r is next = said_path p.log.head.kept stood.records r (whole_recovers p stood a is).path next

-- frames and clean pages are as of the new end
pub said_with : UndoingIsNoLonger → (p : Kept) (stood : Stood) (a : Disk) (r : Rec) (pool : Pool) → IsPaged a p stood → Next p.log.head.kept stood.records r
    → ((i : ℕ) (at : PageAt) → IsIn pool.pages i at.file at.page → IsThere stood.files at × IsLast (stood.records ++ r ∷ []) at (slice_index_or pool.frames i []))
    → ((at : PageAt) → IsThere stood.files at → (IsDirty pool at → ⊥) → page_of (shown_at p.log.db stood.files a.files at) ≡ last_page at (stood.records ++ r ∷ []))
    → IsPaged a (with_waiting (record p { pool = pool }) r) (with_one stood r)
said_with few p stood a r pool is next frames clean =
    let records : List Rec = stood.records in
    let n : ℕ = length records in
    let longer : length (records ++ r ∷ []) ≡ n + 1 = length-append records (r ∷ []) in
    let Full : List Rec → Type 0 = Recovers p.log.head.kept p.since stood.files (shown_at p.log.db stood.files a.files) in
    let full : Full records = whole_recovers p stood a is in
    record {
      standing = standing-waiting (record p { pool = pool }) r (standing-pool p pool is.standing);
      files = is.files;
      same_note = is.same_note;
      ends = omega (arith, is.ends, longer);
      held = sym (append_assoc (value_of a.files p.log).records p.log.waiting (r ∷ [])) ∙ ap (λ (rs : List Rec). rs ++ r ∷ []) is.held
          ∙ sym (drop-append-le (p.log.head.kept - 1) records (r ∷ []) (omega (arith, full.some, full.order, full.early)));
      needs = is.needs;
      kept = is.kept;
      order = is.order;
      sealed = omega (arith, is.sealed);
      recovers = λ k enough. elim (cases_lt n k) [
        | inl past ↦
            let all : take k (records ++ r ∷ []) ≡ records ++ r ∷ [] = take_all k (records ++ r ∷ []) (omega (arith, past, longer)) in
            subst Full (sym all) (said_recovers few p.log.head.kept p.since stood.files (shown_at p.log.db stood.files a.files) records r full next)
        | inr within ↦ subst Full (sym (take-append-le k records (r ∷ []) within)) (is.recovers k enough)
      ];
      frames = frames;
      clean = clean;
    }

pub said_stands : UndoingIsNoLonger → (p : Kept) (stood : Stood) (a : Disk) (r : Rec) → IsPaged a p stood → Next p.log.head.kept stood.records r → ((at : PageAt) → touches at r ≡ false) → IsPaged a (with_waiting p r) (with_one stood r)
said_stands few p stood a r is next off =
    let path : IsPath (stood.records ++ r ∷ []) = next_path p stood a r is next in
    said_with few p stood a r p.pool is next
    (λ i at here.
    let old = is.frames i at here in
    (old.0, record { whole = old.1.whole; place = old.1.place; is_last = old.1.is_last ∙ sym (untouched_last stood.records r at path (off at)) }))
    (λ at there not_dirty. is.clean at there not_dirty ∙ sym (untouched_last stood.records r at path (off at)))

-- ---- what a crash leaves meanwhile

-- fewer records are asked for
-- nothing was done yet
pub none_one : (p : Kept) (stood : Stood) (a : Disk) (r : Rec) → IsPaged a p stood → Effect (IsOwn p.log.db stood.files) (Leaves p.log.db (sealed_count p) (with_one stood r)) a a
none_one p stood a r is =
    let k : ℕ = sealed_count p in
    let same : take k (stood.records ++ r ∷ []) ≡ take k stood.records = take-append-le k stood.records (r ∷ []) (omega (arith, is.sealed, is.ends)) in
    effect_none a (λ image mine. (
      k,
      omega arith,
      subst (λ (rs : List Rec). Holds p.log.db (record stood { records = rs }) image) (sym same) (still_holds p stood a image is mine),
    ))

-- the record of a checkpoint is one that may be said next
pub checkpoint_next : (p : Kept) (stood : Stood) (a : Disk) (now : ℕ) → IsPaged a p stood → p.log.end < 2 ^ 62 → now < 2 ^ 64 → Next p.log.head.kept stood.records (checkpoint_record p now)
checkpoint_next p stood a now is room small =
    let r : Rec = checkpoint_record p now in
    record {
      number = is.ends;
      room = room;
      begun = omega arith;
      is_record = record { lsn = omega (arith, room); begin = omega arith; body = small; len = inside_short r small tt };
      plain = λ at. refl;
      opened = tt;
    }

pub checkpoint_said : UndoingIsNoLonger → (p q : Kept) (stood : Stood) (a : Disk) (now : ℕ) → IsPaged a p stood → p.log.end < 2 ^ 62 → now < 2 ^ 64
    → q ≡ with_waiting p (checkpoint_record p now) → IsPaged a q (with_one stood (checkpoint_record p now))
checkpoint_said few p q stood a now is room small same =
    subst (λ (k : Kept). IsPaged a k (with_one stood (checkpoint_record p now))) (sym same) (said_stands few p stood a (checkpoint_record p now) is (checkpoint_next p stood a now is room small) (λ at. refl))

-- all that was done to log, side and pool
pub all_same : (p between q : Kept) → between ≡ record p { log = between.log } → q ≡ record between { side = q.side; pool = q.pool; since = between.log.end } → between.log.end ≡ p.log.end
    → q ≡ record p { log = q.log; side = q.side; pool = q.pool; since = p.log.end }
all_same p between q first second ends =
    let facts : q.facts ≡ p.facts = ap (λ (k : Kept). k.facts) second ∙ ap (λ (k : Kept). k.facts) first in
    let note : q.note ≡ p.note = ap (λ (k : Kept). k.note) second ∙ ap (λ (k : Kept). k.note) first in
    let since : q.since ≡ p.log.end = ap (λ (k : Kept). k.since) second ∙ ends in
    let failed : q.failed ≡ p.failed = ap (λ (k : Kept). k.failed) second ∙ ap (λ (k : Kept). k.failed) first in
    λ x. record { log = q.log; side = q.side; pool = q.pool; facts = facts x; note = note x; since = since x; failed = failed x }
