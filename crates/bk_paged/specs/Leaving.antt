-- What a crash leaves of a database, by what it leaves of the log.
use Rattle.std.proofs.Common.{◌≡◌, ◌≤◌, ◌⊎◌, ℕ, ◌+◌, ◌-◌, List, ◌++◌, length, take, drop, refl, inl, inr, sym, ap, subst, ◌∙◌, arith}
use Rattle.std.proofs.lemmas.List.{length-append, take_all, drop-take}
use Rattle.std.proofs.Math.Seq.{take-append_seam}
use Rattle.std.specs.List.{flat_map}
use Rattle.bk_device.specs.Compose.{effect_none, effect_weaken, effect_widen}
use Rattle.bk_device.specs.Disk.{Files, Disk}
use Rattle.bk_device.specs.Effects.{Effect, MayLeaveOwn}
use Rattle.bk_facts.specs.declared.facts.DataFile.{DataFile}
use Rattle.bk_facts.specs.declared.facts.Facts.{Facts}
use Rattle.bk_bytes.specs.Field.{bytes_of}
use Rattle.bk_bytes.specs.FieldLaws.{length-bytes_of}
use Rattle.bk_facts.specs.Facts.{Notes, facts_bytes, file_bytes}
use Rattle.bk_ids.specs.declared.record.Rec.{Rec}
use Rattle.bk_log.specs.Laws.{log_left}
use Rattle.bk_log.specs.Log.{value_of, Kept as KeptLog}
use Rattle.bk_segments.specs.Files.{IsOwn as IsOfLog, LogIs, Logged, with_more}
use Rattle.bk_paths.specs.Paths.{KeepsOpen, kept_from}
use Rattle.bk_redo.specs.declared.place.PageAt.{PageAt}
use Rattle.bk_side.specs.Names.{AreDifferent}
use Rattle.bk_paged.specs.Laws.{apart, recovers_as, stored_length}
use Rattle.bk_paged.specs.Holds.{HaveRoom, Holds, Leaves, Stood, front_of}
use Rattle.bk_paged.specs.Names.{IsOwn, names_of, shown_at}
use Rattle.bk_paged.specs.Paged.{IsPaged, Kept, sealed_count}
use Rattle.bk_paged.specs.Named.{shown_left}

-- ---- the records of the log

-- a front of a list that was cut is cut from a front
cut_front : (n m : ℕ) (xs ys records : List Rec) → xs ++ ys ≡ drop n records → m ≡ n + length xs → n ≤ length records → xs ≡ drop n (take m records)
cut_front n m xs ys records same size inside =
    sym (take-append_seam xs ys) ∙ ap (take (length xs)) same ∙ sym (drop-take n (length xs) records) ∙ ap (λ (k : ℕ). drop n (take k records)) (sym size)

-- the durable records are those of the front with so many of them
pub stored_front : (p : Kept) (stood : Stood) (a : Disk) → IsPaged a p stood → (value_of a.files p.log).records ≡ kept_from p.log.head.kept (take (sealed_count p) stood.records)
stored_front p stood a is =
    let size = stored_length a p.log is.standing.logs in
    let some : 1 ≤ p.log.head.kept = (is.recovers (sealed_count p) (omega arith)).some in
    cut_front (p.log.head.kept - 1) (sealed_count p) (value_of a.files p.log).records p.log.waiting stood.records is.held (omega (arith, size, some)) (omega (arith, size, some, is.sealed, is.ends))

-- ---- room in the note

-- another note has room, too
pub with_note : {files : List DataFile} {note other : List ℕ} → HaveRoom files note → length other ≤ 30720 → HaveRoom files other
with_note room short = record { few = room.few; first = room.first; rest = short }

-- the note of a log takes both
pub room_short : (facts : Facts) (note bytes : List ℕ) → HaveRoom facts.files note → bytes ≡ facts_bytes facts ++ note → length bytes ≤ 32768
room_short facts note bytes room is =
    let behind : List ℕ = bytes_of 2 (length facts.files) ++ flat_map file_bytes facts.files in
    omega (
      arith,
      ap length is,
      length-append (facts_bytes facts) note,
      length-append (bytes_of 8 facts.checkpoint) behind,
      length-append (bytes_of 8 0) behind,
      length-bytes_of 8 facts.checkpoint,
      length-bytes_of 8 0,
      room.first,
      room.rest,
    )

-- ---- a front of the records

-- what a log holds, with the pages as they were, is the database with a front of its records
pub front_holds : (p : Kept) (stood : Stood) (a : Disk) (image : Files) (k checkpoint : ℕ) (log : Logged) (note : List ℕ) → IsPaged a p stood → sealed_count p ≤ k → LogIs image p.log.db log
    → Notes log.note (record { checkpoint = checkpoint; files = stood.files }) note → length note ≤ 30720 → log.records ≡ kept_from log.kept (take k stood.records) → 1 ≤ log.kept → log.kept ≤ checkpoint → checkpoint ≤ p.since
    → KeepsOpen log.kept (take k stood.records) → ((at : PageAt) → shown_at p.log.db stood.files image at ≡ shown_at p.log.db stood.files a.files at)
    → log.kept ≤ stood.needed → Holds p.log.db (record (front_of k stood) { note = note }) image
front_holds p stood a image k checkpoint log note is enough log_is noted short held some kept early opened same need = record {
  log = log;
  checkpoint = checkpoint;
  log_is = log_is;
  noted = noted;
  room = with_note (subst (λ (fs : List DataFile). HaveRoom fs p.note) is.files is.standing.room) short;
  different = subst (λ (fs : List DataFile). AreDifferent (names_of fs)) is.files is.standing.different;
  held = held;
  needs = need;
  recovers = recovers_as p.log.head.kept log.kept p.since checkpoint stood.files (shown_at p.log.db stood.files a.files) (shown_at p.log.db stood.files image) (take k stood.records) (is.recovers k enough) some kept early opened same;
}

-- where only the log's files were touched, and it is one of some logs
pub log_wide : (p : Kept) (stood : Stood) (Q : Logged → Type 0) (a b : Disk) → IsPaged a p stood → Effect (IsOfLog p.log.db) (λ image. (log : Logged) × Q log × LogIs image p.log.db log) a b
    → Effect (IsOwn p.log.db stood.files) (λ image. (log : Logged) × Q log × LogIs image p.log.db log × ((at : PageAt) → shown_at p.log.db stood.files image at ≡ shown_at p.log.db stood.files a.files at)) a b
log_wide p stood Q a b is effect =
    effect_widen (λ name at. inl at) (λ image here left. (
      here.0,
      here.1,
      here.2,
      shown_left p.log.db stood.files p.side image is.standing.side_name (is.standing.side_names ∙ ap names_of is.files) is.standing.sides
          (λ name side. left name (λ log. apart p.log.db stood.files name log side) (inr side)),
    )) effect

-- the same facts, with the files of the database
pub same_facts : (p : Kept) (stood : Stood) (a : Disk) → IsPaged a p stood → Notes p.log.note (record { checkpoint = p.facts.checkpoint; files = stood.files }) stood.note
same_facts p stood a is =
    let Of : List DataFile → List ℕ → Type 0 = λ fs n. Notes p.log.note (record { checkpoint = p.facts.checkpoint; files = fs }) n in
    subst (λ (n : List ℕ). Of stood.files n) is.same_note (subst (λ (fs : List DataFile). Of fs p.note) is.files is.standing.noted)

pub note_short : (p : Kept) (stood : Stood) (a : Disk) → IsPaged a p stood → length stood.note ≤ 30720
note_short p stood a is = subst (λ (n : List ℕ). length n ≤ 30720) is.same_note is.standing.room.rest

-- a log with the same kept point and note, and those records of a front that it keeps
pub log_front : (p : Kept) (stood : Stood) (a : Disk) (image : Files) (k : ℕ) (log : Logged) → IsPaged a p stood → sealed_count p ≤ k → log.kept ≡ p.log.head.kept → log.note ≡ p.log.note
    → log.records ≡ kept_from p.log.head.kept (take k stood.records) → LogIs image p.log.db log → ((at : PageAt) → shown_at p.log.db stood.files image at ≡ shown_at p.log.db stood.files a.files at)
    → Holds p.log.db (front_of k stood) image
log_front p stood a image k log is enough kept note held log_is same =
    let front = is.recovers k enough in
    front_holds p stood a image k p.facts.checkpoint log stood.note is enough log_is
    (subst (λ (n : List ℕ). Notes n (record { checkpoint = p.facts.checkpoint; files = stood.files }) stood.note) (sym note) (same_facts p stood a is))
    (note_short p stood a is)
    (held ∙ ap (λ (n : ℕ). kept_from n (take k stood.records)) (sym kept))
    (omega (arith, kept, front.some)) (omega (arith, kept, is.kept)) is.order
    (subst (λ (n : ℕ). KeepsOpen n (take k stood.records)) (sym kept) front.opened) same (omega (arith, kept, is.needs))

-- each crash leaves the durable records
pub still_holds : (p : Kept) (stood : Stood) (a : Disk) (image : Files) → IsPaged a p stood → MayLeaveOwn (IsOwn p.log.db stood.files) a image → Holds p.log.db (front_of (sealed_count p) stood) image
still_holds p stood a image is mine =
    log_front p stood a image (sealed_count p) (value_of a.files p.log) is (omega arith) refl refl (stored_front p stood a is)
    (log_left image is.standing.logs (λ name log. mine name (inl log)))
    (shown_left p.log.db stood.files p.side image is.standing.side_name (is.standing.side_names ∙ ap names_of is.files) is.standing.sides (λ name side. mine name (inr side)))

-- nothing was done
pub paged_none : (p : Kept) (stood : Stood) (a : Disk) → IsPaged a p stood → Effect (IsOwn p.log.db stood.files) (Leaves p.log.db (sealed_count p) stood) a a
paged_none p stood a is = effect_none a (λ image mine. (sealed_count p, omega arith, still_holds p stood a image is mine))

-- ---- sealing what waits

abbrev pub Flushed : KeptLog → Disk → Files → Type 0
Flushed log a image = LogIs image log.db (value_of a.files log) ⊎ LogIs image log.db (with_more (value_of a.files log) log.waiting)

pub flush_crash : (p : Kept) (stood : Stood) (a b : Disk) → IsPaged a p stood → Effect (IsOfLog p.log.db) (Flushed p.log a) a b → Effect (IsOwn p.log.db stood.files) (Leaves p.log.db (sealed_count p) stood) a b
flush_crash p stood a b is effect =
    let old : Logged = value_of a.files p.log in
    let Q : Logged → Type 0 = λ log. (log ≡ old) ⊎ (log ≡ with_more old p.log.waiting) in
    let whole : take (length stood.records) stood.records ≡ stood.records = take_all (length stood.records) stood.records (omega arith) in
    effect_weaken (λ image here. elim here.1 [
      | inl before ↦ (
        sealed_count p,
        omega arith,
        log_front p stood a image (sealed_count p) here.0 is (omega arith) (ap (λ (l : Logged). l.kept) before) (ap (λ (l : Logged). l.note) before)
            (ap (λ (l : Logged). l.records) before ∙ stored_front p stood a is) here.2 here.3,
      )
      | inr after ↦ (
        length stood.records,
        omega (arith, is.sealed, is.ends),
        log_front p stood a image (length stood.records) here.0 is (omega (arith, is.sealed, is.ends)) (ap (λ (l : Logged). l.kept) after) (ap (λ (l : Logged). l.note) after)
            (ap (λ (l : Logged). l.records) after ∙ is.held ∙ ap (kept_from p.log.head.kept) (sym whole)) here.2 here.3,
      )
    ])
    (log_wide p stood Q a b is (effect_weaken (λ image here. elim here [
      | inl before ↦ (old, inl refl, before)
      | inr after ↦ (with_more old p.log.waiting, inr refl, after)
    ]) effect))
