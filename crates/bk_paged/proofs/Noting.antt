-- A database whose note is put anew, and one whose log is cut.
use Rattle.std.proofs.Common.{◌≡◌, ◌≤◌, ◌⊎◌, ℕ, ◌-◌, Bool, List, ◌++◌, length, take, drop, refl, inl, inr, sym, ap, subst, ◌∙◌, arith}
use Rattle.std.proofs.lemmas.List.{drop-append-le, drop-drop, take_all}
use Rattle.bk_device.specs.Compose.{effect_weaken}
use Rattle.bk_device.specs.Disk.{Files, Disk}
use Rattle.bk_device.specs.Effects.{Effect}
use Rattle.bk_facts.specs.declared.facts.DataFile.{DataFile}
use Rattle.bk_facts.specs.declared.facts.Facts.{Facts}
use Rattle.bk_facts.specs.Facts.{Notes}
use Rattle.bk_ids.specs.declared.record.Rec.{Rec}
use Rattle.bk_log.specs.Log.{IsLog, value_of, Kept as KeptLog}
use Rattle.bk_segments.specs.Files.{IsOwn as IsOfLog, LogIs, Logged, cut_at}
use Rattle.bk_paths.specs.Paths.{KeepsOpen, kept_from}
use Rattle.bk_paged.specs.Laws.{stored_length}
use Rattle.bk_paged.specs.Holds.{Leaves, Stood}
use Rattle.bk_paged.specs.Names.{IsOwn}
use Rattle.bk_paged.specs.Paged.{IsPaged, Kept, sealed_count}
use Rattle.bk_paged.specs.Leaving.{front_holds, log_front, log_wide, note_short, same_facts, stored_front}
use Rattle.bk_paged.proofs.Standing.{log_stands}

-- ---- the note

abbrev pub Noted : KeptLog → List ℕ → Disk → Files → Type 0
Noted log bytes a image = LogIs image log.db (value_of a.files log) ⊎ LogIs image log.db (record (value_of a.files log) { note = bytes })

-- the bytes are a note for the database, with this latest checkpoint
pub record Spells (p : Kept) (bytes : List ℕ) (checkpoint : ℕ) (note : List ℕ) : Type 0 where
  pub noted : Notes bytes (record { checkpoint = checkpoint; files = p.facts.files }) note
  pub short : length note ≤ 30720
  pub kept : p.log.head.kept ≤ checkpoint
  pub early : checkpoint ≤ p.since

-- what was spelled of facts and a note is a note, as the log is given it
pub spelled : (facts : Facts) (given note vec bytes : List ℕ) → given ≡ note → bytes ≡ vec → Notes vec facts given → Notes bytes facts note
spelled facts given note vec bytes same is notes = subst (λ (n : List ℕ). Notes bytes facts n) same (subst (λ (b : List ℕ). Notes b facts given) (sym is) notes)

-- with the number from which on the pages are as of as the latest checkpoint
pub spelled_now : (p : Kept) (stood : Stood) (a : Disk) (bytes : List ℕ) → IsPaged a p stood → Notes bytes (record { checkpoint = p.since; files = p.facts.files }) p.note → Spells p bytes p.since p.note
spelled_now p stood a bytes is notes = record { noted = notes; short = is.standing.room.rest; kept = omega (arith, is.kept, is.order); early = omega arith }

-- with another note of the layer above
pub spelled_new : (p : Kept) (stood : Stood) (a : Disk) (bytes note : List ℕ) → IsPaged a p stood → length note ≤ 30720 → Notes bytes p.facts note → Spells p bytes p.facts.checkpoint note
spelled_new p stood a bytes note is short notes = record { noted = notes; short = short; kept = is.kept; early = is.order }

abbrev pub Either : Kept → Stood → List ℕ → Files → Type 0
Either p stood note image = Leaves p.log.db (sealed_count p) stood image ⊎ Leaves p.log.db (sealed_count p) (record stood { note = note }) image

pub note_crash : (p : Kept) (stood : Stood) (bytes : List ℕ) (checkpoint : ℕ) (note : List ℕ) (a b : Disk) → IsPaged a p stood → Spells p bytes checkpoint note → Effect (IsOfLog p.log.db) (Noted p.log bytes a) a b
    → Effect (IsOwn p.log.db stood.files) (Either p stood note) a b
note_crash p stood bytes checkpoint note a b is spells effect =
    let old : Logged = value_of a.files p.log in
    let put : Logged = record old { note = bytes } in
    let Q : Logged → Type 0 = λ log. (log ≡ old) ⊎ (log ≡ put) in
    let k : ℕ = sealed_count p in
    let front = is.recovers k (omega arith) in
    effect_weaken (λ image here. elim here.1 [
      | inl before ↦ inl (
        k,
        omega arith,
        log_front p stood a image k here.0 is (omega arith) (ap (λ (l : Logged). l.kept) before) (ap (λ (l : Logged). l.note) before) (ap (λ (l : Logged). l.records) before ∙ stored_front p stood a is) here.2 here.3,
      )
      | inr after ↦ inr (
        k,
        omega arith,
        front_holds p stood a image k checkpoint put note is (omega arith) (subst (λ (l : Logged). LogIs image p.log.db l) after here.2)
            (subst (λ (fs : List DataFile). Notes bytes (record { checkpoint = checkpoint; files = fs }) note) is.files spells.noted) spells.short (stored_front p stood a is) front.some spells.kept spells.early front.opened here.3 is.needs,
      )
    ])
    (log_wide p stood Q a b is (effect_weaken (λ image here. elim here [
      | inl before ↦ (old, inl refl, before)
      | inr after ↦ (put, inr refl, after)
    ]) effect))

-- where the layer above keeps its note a crash leaves the database
pub checkpoint_crash : (p : Kept) (stood : Stood) (bytes : List ℕ) (checkpoint : ℕ) (a b : Disk) → IsPaged a p stood → Spells p bytes checkpoint p.note → Effect (IsOfLog p.log.db) (Noted p.log bytes a) a b
    → Effect (IsOwn p.log.db stood.files) (Leaves p.log.db (sealed_count p) stood) a b
checkpoint_crash p stood bytes checkpoint a b is spells effect =
    effect_weaken (λ image here. elim here [ inl before ↦ before | inr after ↦ subst (λ (n : List ℕ). Leaves p.log.db (sealed_count p) (record stood { note = n }) image) is.same_note after ])
    (note_crash p stood bytes checkpoint p.note a b is spells effect)

pub note_stands : (p : Kept) (stood : Stood) (bytes : List ℕ) (checkpoint : ℕ) (note : List ℕ) (log : KeptLog) (failed : Bool) (a b : Disk) → IsPaged a p stood → Spells p bytes checkpoint note → Effect (IsOfLog p.log.db) (Noted p.log bytes a) a b
    → IsLog b log → value_of b.files log ≡ record (value_of a.files p.log) { note = bytes } → log.db ≡ p.log.db → log.stored ≡ p.log.stored → log.end ≡ p.log.end → log.waiting ≡ p.log.waiting
    → IsPaged b (record p { log = log; facts = record { checkpoint = checkpoint; files = p.facts.files }; note = note; failed = failed }) (record stood { note = note })
note_stands p stood bytes checkpoint note log failed a b is spells effect logs value db stored ends waiting =
    let kept : log.head.kept ≡ p.log.head.kept = ap (λ (l : Logged). l.kept) value in
    let in_note : log.note ≡ bytes = ap (λ (l : Logged). l.note) value in
    let records : (value_of b.files log).records ≡ (value_of a.files p.log).records = ap (λ (l : Logged). l.records) value in
    let front = is.recovers (sealed_count p) (omega arith) in
    let facts : Facts = record { checkpoint = checkpoint; files = p.facts.files } in
    log_stands p stood log facts note failed a b is effect logs db ends (omega (arith, stored)) (omega (arith, stored, ends, is.sealed))
    (ap (λ (rs : List Rec). rs ++ log.waiting) records ∙ ap (λ (w : List Rec). (value_of a.files p.log).records ++ w) waiting ∙ is.held ∙ ap (λ (n : ℕ). kept_from n stood.records) (sym kept))
    (subst (λ (n : List ℕ). Notes n facts note) (sym in_note) spells.noted) refl spells.short (omega (arith, kept, front.some)) (omega (arith, kept, spells.kept)) spells.early
    (λ k enough. subst (λ (n : ℕ). KeepsOpen n (take k stood.records)) (sym kept) (is.recovers k (omega (arith, enough, stored))).opened) (omega (arith, kept, is.needs))

-- the note is kept as a copy
pub note_stands_as : (p : Kept) (stood : Stood) (bytes : List ℕ) (checkpoint : ℕ) (note copy : List ℕ) (log : KeptLog) (failed : Bool) (a b : Disk) → IsPaged a p stood → Spells p bytes checkpoint note → copy ≡ note → Effect (IsOfLog p.log.db) (Noted p.log bytes a) a b
    → IsLog b log → value_of b.files log ≡ record (value_of a.files p.log) { note = bytes } → log.db ≡ p.log.db → log.stored ≡ p.log.stored → log.end ≡ p.log.end → log.waiting ≡ p.log.waiting
    → IsPaged b (record p { log = log; facts = record { checkpoint = checkpoint; files = p.facts.files }; note = copy; failed = failed }) (record stood { note = note })
note_stands_as p stood bytes checkpoint note copy log failed a b is spells same effect logs value db stored ends waiting =
    subst (λ (n : List ℕ). IsPaged b (record p { log = log; facts = record { checkpoint = checkpoint; files = p.facts.files }; note = n; failed = failed }) (record stood { note = note })) (sym same)
    (note_stands p stood bytes checkpoint note log failed a b is spells effect logs value db stored ends waiting)

-- the latest checkpoint alone is put anew
pub checkpoint_stands : (p : Kept) (stood : Stood) (bytes : List ℕ) (checkpoint : ℕ) (log : KeptLog) (failed : Bool) (a b : Disk) → IsPaged a p stood → Spells p bytes checkpoint p.note → Effect (IsOfLog p.log.db) (Noted p.log bytes a) a b
    → IsLog b log → value_of b.files log ≡ record (value_of a.files p.log) { note = bytes } → log.db ≡ p.log.db → log.stored ≡ p.log.stored → log.end ≡ p.log.end → log.waiting ≡ p.log.waiting
    → IsPaged b (record p { log = log; facts = record { checkpoint = checkpoint; files = p.facts.files }; failed = failed }) stood
checkpoint_stands p stood bytes checkpoint log failed a b is spells effect logs value db stored ends waiting =
    let q : Kept = record p { log = log; facts = record { checkpoint = checkpoint; files = p.facts.files }; failed = failed } in
    subst (λ (n : List ℕ). IsPaged b q (record stood { note = n })) is.same_note (note_stands p stood bytes checkpoint p.note log failed a b is spells effect logs value db stored ends waiting)

-- ---- the kept point

abbrev pub Cut : KeptLog → ℕ → Disk → Files → Type 0
Cut log to a image = LogIs image log.db (value_of a.files log) ⊎ LogIs image log.db (cut_at to (value_of a.files log))

-- a list that was cut, cut again
pub cut_again : (kept to : ℕ) (records : List Rec) → 1 ≤ kept → kept ≤ to → drop (to - kept) (kept_from kept records) ≡ kept_from to records
cut_again kept to records some order =
    drop-drop (to - kept) (kept - 1) records ∙ ap (λ (n : ℕ). drop n records) (omega (arith, some, order))

-- where all records are durable a front with all of those is all records
front_whole : (p : Kept) (stood : Stood) (a : Disk) (k : ℕ) → IsPaged a p stood → p.log.stored ≡ p.log.end → sealed_count p ≤ k → take k stood.records ≡ stood.records
front_whole p stood a k is whole enough = take_all k stood.records (omega (arith, whole, enough, is.ends))

pub cut_crash : (p : Kept) (stood : Stood) (to : ℕ) (a b : Disk) → IsPaged a p stood → p.log.stored ≡ p.log.end → p.log.head.kept ≤ to → to ≤ p.facts.checkpoint → KeepsOpen to stood.records → to ≤ stood.needed → Effect (IsOfLog p.log.db) (Cut p.log to a) a b
    → Effect (IsOwn p.log.db stood.files) (Leaves p.log.db (sealed_count p) stood) a b
cut_crash p stood to a b is whole from early opened need effect =
    let old : Logged = value_of a.files p.log in
    let Q : Logged → Type 0 = λ log. (log ≡ old) ⊎ (log ≡ cut_at to old) in
    let k : ℕ = sealed_count p in
    let front = is.recovers k (omega arith) in
    let facts = same_facts p stood a is in
    effect_weaken (λ image here. elim here.1 [
      | inl before ↦ (
        k,
        omega arith,
        log_front p stood a image k here.0 is (omega arith) (ap (λ (l : Logged). l.kept) before) (ap (λ (l : Logged). l.note) before) (ap (λ (l : Logged). l.records) before ∙ stored_front p stood a is) here.2 here.3,
      )
      | inr after ↦ (
        k,
        omega arith,
        front_holds p stood a image k p.facts.checkpoint (cut_at to old) stood.note is (omega arith) (subst (λ (l : Logged). LogIs image p.log.db l) after here.2) facts
            (note_short p stood a is)
            (ap (drop (to - p.log.head.kept)) (stored_front p stood a is) ∙ cut_again p.log.head.kept to (take k stood.records) front.some from)
            (omega (arith, front.some, from)) early is.order
            (subst (KeepsOpen to) (sym (front_whole p stood a k is whole (omega arith))) opened) here.3 need,
      )
    ])
    (log_wide p stood Q a b is (effect_weaken (λ image here. elim here [
      | inl before ↦ (old, inl refl, before)
      | inr after ↦ (cut_at to old, inr refl, after)
    ]) effect))

pub cut_stands : (p : Kept) (stood : Stood) (to : ℕ) (log : KeptLog) (failed : Bool) (a b : Disk) → IsPaged a p stood → p.log.stored ≡ p.log.end → p.log.head.kept ≤ to → to ≤ p.facts.checkpoint → KeepsOpen to stood.records → to ≤ stood.needed
    → Effect (IsOfLog p.log.db) (Cut p.log to a) a b → IsLog b log → value_of b.files log ≡ cut_at to (value_of a.files p.log) → log.db ≡ p.log.db → log.stored ≡ p.log.stored → log.end ≡ p.log.end → log.waiting ≡ p.log.waiting
    → IsPaged b (record p { log = log; failed = failed }) stood
cut_stands p stood to log failed a b is whole from early opened need effect logs value db stored ends waiting =
    let old : Logged = value_of a.files p.log in
    let kept : log.head.kept ≡ to = ap (λ (l : Logged). l.kept) value in
    let in_note : log.note ≡ p.log.note = ap (λ (l : Logged). l.note) value in
    let records : (value_of b.files log).records ≡ drop (to - p.log.head.kept) old.records = ap (λ (l : Logged). l.records) value in
    let front = is.recovers (sealed_count p) (omega arith) in
    let size = stored_length a p.log is.standing.logs in
    let held : drop (to - p.log.head.kept) old.records ++ p.log.waiting ≡ kept_from to stood.records =
    sym (drop-append-le (to - p.log.head.kept) old.records p.log.waiting (omega (arith, size, early, is.order, whole, is.ends, front.early, (is.recovers (p.log.end) (omega (arith, whole))).early)))
    ∙ ap (drop (to - p.log.head.kept)) is.held ∙ cut_again p.log.head.kept to stood.records front.some from in
    let stands : IsPaged b (record p { log = log; facts = p.facts; note = p.note; failed = failed }) (record stood { note = p.note }) =
    log_stands p stood log p.facts p.note failed a b is effect logs db ends (omega (arith, stored)) (omega (arith, stored, ends, is.sealed))
    (ap (λ (rs : List Rec). rs ++ log.waiting) records ∙ ap (λ (w : List Rec). drop (to - p.log.head.kept) old.records ++ w) waiting ∙ held ∙ ap (λ (n : ℕ). kept_from n stood.records) (sym kept))
    (subst (λ (n : List ℕ). Notes n p.facts p.note) (sym in_note) is.standing.noted) refl is.standing.room.rest (omega (arith, kept, from, front.some)) (omega (arith, kept, early)) is.order
    (λ k enough. subst (λ (n : ℕ). KeepsOpen n (take k stood.records)) (sym kept) (subst (KeepsOpen to) (sym (front_whole p stood a k is whole (omega (arith, enough, stored)))) opened)) (omega (arith, kept, need)) in
    subst (λ (n : List ℕ). IsPaged b (record p { log = log; failed = failed }) (record stood { note = n })) is.same_note stands
