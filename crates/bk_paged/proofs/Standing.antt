-- A database whose log was changed still stands.
use Rattle.std.proofs.Common.{◌≡◌, ◌≤◌, ℕ, ◌-◌, Bool, List, [], ◌++◌, length, take, refl, sym, ap, subst, ◌∙◌, arith, append-nil}
use Rattle.bk_device.specs.Disk.{Files, Disk}
use Rattle.bk_device.specs.Effects.{Effect}
use Rattle.bk_facts.specs.declared.facts.Facts.{Facts}
use Rattle.bk_facts.specs.Facts.{Notes}
use Rattle.bk_log.specs.Log.{IsLog, value_of, Kept as KeptLog}
use Rattle.bk_segments.specs.Files.{IsOwn as IsOfLog, Logged, with_more}
use Rattle.bk_paths.specs.Paths.{KeepsOpen, kept_from}
use Rattle.bk_redo.specs.declared.place.PageAt.{PageAt}
use Rattle.bk_redo.specs.PageStates.{page_of}
use Rattle.bk_paged.specs.Laws.{recovers_as}
use Rattle.bk_paged.specs.Holds.{Stood}
use Rattle.bk_paged.specs.Names.{shown_at}
use Rattle.bk_paged.specs.Paged.{IsPaged, Kept, sealed_count}
use Rattle.bk_paged.specs.Leaving.{Flushed}
use Rattle.bk_paged.specs.Named.{shown_stays}
use Rattle.bk_paged.specs.StandLaws.{standing-log}

-- The log is another one, with no fewer durable records; facts and note are those in its note.
pub log_stands : {P : Files → Type 0} (p : Kept) (stood : Stood) (log : KeptLog) (facts : Facts) (note : List ℕ) (failed : Bool) (a b : Disk) → IsPaged a p stood → Effect (IsOfLog p.log.db) P a b → IsLog b log
    → log.db ≡ p.log.db → log.end ≡ p.log.end → p.log.stored ≤ log.stored → log.stored ≤ log.end → (value_of b.files log).records ++ log.waiting ≡ kept_from log.head.kept stood.records
    → Notes log.note facts note → facts.files ≡ p.facts.files → length note ≤ 30720 → 1 ≤ log.head.kept → log.head.kept ≤ facts.checkpoint → facts.checkpoint ≤ p.since
    → ((k : ℕ) → log.stored - 1 ≤ k → KeepsOpen log.head.kept (take k stood.records)) → log.head.kept ≤ stood.needed
    → IsPaged b (record p { log = log; facts = facts; note = note; failed = failed }) (record stood { note = note })
log_stands p stood log facts note failed a b is effect logs db ends later sealed held noted files short some kept order opened need =
    let same : (at : PageAt) → shown_at log.db stood.files b.files at ≡ shown_at p.log.db stood.files a.files at = λ at. ap (λ (n : ℕ). shown_at n stood.files b.files at) db ∙ shown_stays p.log.db stood.files effect at in
    record {
      standing = standing-log p log facts note failed is.standing effect logs db noted files short;
      files = files ∙ is.files;
      same_note = refl;
      ends = ends ∙ is.ends;
      held = held;
      needs = need;
      kept = kept;
      order = order;
      sealed = sealed;
      recovers = λ k enough.
          let old = is.recovers k (omega (arith, enough, later)) in
          recovers_as p.log.head.kept log.head.kept p.since p.since stood.files (shown_at p.log.db stood.files a.files) (shown_at log.db stood.files b.files) (take k stood.records) old some (omega (arith, kept, order)) (omega arith) (opened k enough) same;
      frames = is.frames;
      clean = λ at there not_dirty. ap page_of (same at) ∙ is.clean at there not_dirty;
    }

pub flush_stands : (p : Kept) (stood : Stood) (log : KeptLog) (failed : Bool) (a b : Disk) → IsPaged a p stood → Effect (IsOfLog p.log.db) (Flushed p.log a) a b → IsLog b log
    → value_of b.files log ≡ with_more (value_of a.files p.log) p.log.waiting → log.db ≡ p.log.db → log.end ≡ p.log.end → log.waiting ≡ [] → log.stored ≡ p.log.end
    → IsPaged b (record p { log = log; failed = failed }) stood
flush_stands p stood log failed a b is effect logs value db ends none stored =
    let kept : log.head.kept ≡ p.log.head.kept = ap (λ (l : Logged). l.kept) value in
    let note : log.note ≡ p.log.note = ap (λ (l : Logged). l.note) value in
    let records : (value_of b.files log).records ≡ (value_of a.files p.log).records ++ p.log.waiting = ap (λ (l : Logged). l.records) value in
    let front = is.recovers (sealed_count p) (omega arith) in
    let stands : IsPaged b (record p { log = log; facts = p.facts; note = p.note; failed = failed }) (record stood { note = p.note }) =
    log_stands p stood log p.facts p.note failed a b is effect logs db ends (omega (arith, stored, is.sealed)) (omega (arith, stored, ends))
    (ap (λ (w : List _). (value_of b.files log).records ++ w) none ∙ append-nil (value_of b.files log).records ∙ records ∙ is.held ∙ ap (λ (n : ℕ). kept_from n stood.records) (sym kept))
    (subst (λ (n : List ℕ). Notes n p.facts p.note) (sym note) is.standing.noted) refl is.standing.room.rest (omega (arith, kept, front.some)) (omega (arith, kept, is.kept)) is.order
    (λ k enough. subst (λ (n : ℕ). KeepsOpen n (take k stood.records)) (sym kept) (is.recovers k (omega (arith, enough, stored, is.sealed))).opened) (omega (arith, kept, is.needs)) in
    subst (λ (n : List ℕ). IsPaged b (record p { log = log; failed = failed }) (record stood { note = n })) is.same_note stands
