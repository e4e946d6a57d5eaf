-- What the layers above may take of a log.
use Rattle.std.proofs.Common.{◌≡◌, ◌≤◌, ℕ, Bool, List, Option, Some, refl, inl, inr, sym, ap, ap₂, subst, ◌∙◌, arith}
use Rattle.bk_control.specs.Control.{control_value, control_durable, control_kept}
use Rattle.bk_control.specs.Slots.{control_of}
use Rattle.bk_device.specs.Compose.{durable_kept}
use Rattle.bk_device.specs.Disk.{Files, Disk, IsDurable}
use Rattle.bk_device.specs.Effects.{IsName, KeepsFiles, MayLeaveOwn}
use Rattle.bk_gate.specs.Blobs.{sealed}
use Rattle.bk_gate.specs.Laws.{gate_kept, gate_reserved}
use Rattle.bk_ids.specs.declared.record.Rec.{Rec}
use Rattle.bk_segments.specs.declared.head.Head.{Head}
use Rattle.bk_segments.specs.Control.{read_control, IsSound}
use Rattle.bk_segments.specs.Records.{IsRun}
use Rattle.bk_log.specs.Log.{value_of, Kept, IsLog}
use Rattle.bk_segments.specs.Files.{control_file, segment_file, IsOwn, blobs_at, blobs_of, shown, AreBegun, Logged, LogIs}
use Rattle.bk_segments.specs.FileLaws.{blobs_same, begun_same, log_is, shown_same}
use Rattle.bk_segments.specs.SegmentLaws.{segments_same}

-- ---- what files are

-- as their control record has them
logged_as : (files : Files) (db : ℕ) (log : Logged) → (is : LogIs files db log) → log ≡ shown files db is.head log.note
logged_as files db log is = ap₂ (λ (k : ℕ) (rs : List Rec). let l : Logged = record { kept = k; records = rs; note = log.note } in l) is.kept is.records

-- they are one log
pub one_logged : (files : Files) (db : ℕ) (log other : Logged) → LogIs files db log → LogIs files db other → log ≡ other
one_logged files db log other is also =
    let both : ◌≡◌ {A = Option (Head × List ℕ)} (Some (is.head, log.note)) (Some (also.head, other.note)) = sym is.reads ∙ also.reads in
    let pair : ◌≡◌ {A = Head × List ℕ} (is.head, log.note) (also.head, other.note) = cc in
    logged_as files db log is ∙ ap (λ (x : Head × List ℕ). shown files db x.0 x.1) pair ∙ sym (logged_as files db other also)

-- ---- the files of a log that stands

pub control_there : {disk : Disk} {log : Kept} → IsLog disk log → IsDurable disk (control_file log.db)
control_there {disk = disk} is = let Durable : List ℕ → Type 0 = λ n. IsDurable disk n in subst Durable is.control_name (control_durable is.controls)

pub control_is : {disk : Disk} {log : Kept} → IsLog disk log → control_of (disk.files (control_file log.db)) ≡ Some log.control.content
control_is {disk = disk} is = ap (λ (name : List ℕ). control_of (disk.files name)) (sym is.control_name) ∙ control_value is.controls

-- what a crash leaves where the segments are as they were, by the control's content
pub still : (log : Kept) (a : Disk) (image : Files) (head : Head) (note content : List ℕ) → IsLog a log → head.front ≡ log.head.front → head.back ≡ log.head.back → head.first ≡ log.head.first → head.kept ≤ log.stored → IsSound head note
    → control_of (image (control_file log.db)) ≡ Some content → read_control content ≡ Some (head, note) → ((n : ℕ) → log.head.front ≤ n → n ≤ log.head.back → blobs_at image log.db n ≡ blobs_at a.files log.db n)
    → LogIs image log.db (shown a.files log.db head note)
still log a image head note content is front back first inside sound control reads same =
    let Order : ℕ → ℕ → Type 0 = λ f b. ((n : ℕ) → f ≤ n → n ≤ b → blobs_at image log.db n ≡ blobs_at a.files log.db n) in
    let same_here : (n : ℕ) → head.front ≤ n → n ≤ head.back → blobs_at image log.db n ≡ blobs_at a.files log.db n = λ n low high. same n (omega (arith, low, front)) (omega (arith, high, back)) in
    let blobs : blobs_of image log.db head ≡ blobs_of a.files log.db head = blobs_same a.files image log.db head sound.front same_here in
    let begun : AreBegun (blobs_at image log.db) head = λ n low high none. is.begun n (omega (arith, low, front)) (omega (arith, high, back)) (sym (same_here n low high) ∙ none) in
    let run_here : IsRun head.first (blobs_of a.files log.db head) log.stored = run_as log a head is front back first in
    let run : IsRun head.first (blobs_of image log.db head) log.stored = subst (λ (bs : List (List ℕ)). IsRun head.first bs log.stored) (sym blobs) run_here in
    subst (λ (l : Logged). LogIs image log.db l) (shown_same a.files image log.db head note blobs) (log_is image log.db head note content log.stored control reads sound begun run inside is.small)
  where
    run_as : (log : Kept) (a : Disk) (head : Head) → IsLog a log → head.front ≡ log.head.front → head.back ≡ log.head.back → head.first ≡ log.head.first → IsRun head.first (blobs_of a.files log.db head) log.stored
    run_as log a head is front back first =
        let Run : ℕ → ℕ → ℕ → Type 0 = λ f b k. IsRun k (blobs_of a.files log.db (record { kept = head.kept; gone = head.gone; front = f; back = b; first = k })) log.stored in
        let there : Run log.head.front log.head.back log.head.first = is.run in
        subst (λ (k : ℕ). Run head.front head.back k) (sym first) (subst (λ (b : ℕ). Run head.front b log.head.first) (sym back) (subst (λ (f : ℕ). Run f log.head.back log.head.first) (sym front) there))

-- a segment that counts, which a crash leaves as it is
pub segment_left : (log : Kept) (a : Disk) (image : Files) (n : ℕ) → IsLog a log → log.head.front ≤ n → n ≤ log.head.back → a.may (segment_file log.db n) (image (segment_file log.db n)) → blobs_at image log.db n ≡ blobs_at a.files log.db n
segment_left log a image n is low high may = ap sealed (is.durable n low high (image (segment_file log.db n)) may)

-- each crash leaves the log
pub log_left : {disk : Disk} {log : Kept} (image : Files) → IsLog disk log → MayLeaveOwn (IsOwn log.db) disk image → LogIs image log.db (value_of disk.files log)
log_left {disk = disk} {log = log} image is mine =
    still log disk image log.head log.note log.control.content is refl refl refl is.inside is.sound
    (ap control_of (control_there is (image (control_file log.db)) (mine (control_file log.db) (inl refl))) ∙ control_is is) is.reads
    (λ n low high. segment_left log disk image n is low high (mine (segment_file log.db n) (inr (n, refl))))

-- records may wait
pub log_waits : {disk : Disk} {log : Kept} (waiting : List Rec) (end bytes flushes : ℕ) → IsLog disk log → IsLog disk (record log { waiting = waiting; end = end; spare_bytes = bytes; spare_flushes = flushes })
log_waits waiting end bytes flushes is = record {
  control_name = is.control_name;
  gate_name = is.gate_name;
  controls = is.controls;
  gates = is.gates;
  reads = is.reads;
  sound = is.sound;
  segments = is.segments;
  count = is.count;
  durable = is.durable;
  begun = is.begun;
  run = is.run;
  inside = is.inside;
  small = is.small;
}

-- room may be made
pub log_reserved : {disk : Disk} {log : Kept} (bytes flushes spare : ℕ) → IsLog disk log → IsLog disk (record log { gate = record log.gate { spare = spare }; spare_bytes = bytes; spare_flushes = flushes })
log_reserved bytes flushes spare is = record {
  control_name = is.control_name;
  gate_name = is.gate_name;
  controls = is.controls;
  gates = gate_reserved spare is.gates;
  reads = is.reads;
  sound = is.sound;
  segments = is.segments;
  count = is.count;
  durable = is.durable;
  begun = is.begun;
  run = is.run;
  inside = is.inside;
  small = is.small;
}

-- whether it is failed is no matter of the disk
pub log_marked : {disk : Disk} {log : Kept} (failed : Bool) → IsLog disk log → IsLog disk (record log { failed = failed })
log_marked failed is = record {
  control_name = is.control_name;
  gate_name = is.gate_name;
  controls = is.controls;
  gates = is.gates;
  reads = is.reads;
  sound = is.sound;
  segments = is.segments;
  count = is.count;
  durable = is.durable;
  begun = is.begun;
  run = is.run;
  inside = is.inside;
  small = is.small;
}

-- what is done under other names leaves the log's blobs
pub blobs_kept : {a b : Disk} (db : ℕ) (head : Head) → KeepsFiles (IsOwn db) a b → head.front ≤ head.back → blobs_of b.files db head ≡ blobs_of a.files db head
blobs_kept {a = a} {b = b} db head keeps order = blobs_same a.files b.files db head order (λ n low high. ap sealed (keeps.same (segment_file db n) (inr (n, refl))))

-- and what it is
pub value_kept : {a b : Disk} {log : Kept} → KeepsFiles (IsOwn log.db) a b → IsLog a log → value_of b.files log ≡ value_of a.files log
value_kept {a = a} {b = b} {log = log} keeps is = shown_same a.files b.files log.db log.head log.note (blobs_kept log.db log.head keeps is.sound.front)

-- and the log stands
pub log_kept : {a b : Disk} {log : Kept} → KeepsFiles (IsOwn log.db) a b → IsLog a log → IsLog b log
log_kept {a = a} {b = b} {log = log} keeps is =
    let control_at : (name : List ℕ) → IsName log.control.name name → IsOwn log.db name = λ name at. inl (at ∙ is.control_name) in
    let gate_at : (name : List ℕ) → IsName log.gate.name name → IsOwn log.db name = λ name at. inr (log.head.back, at ∙ is.gate_name) in
    record {
      control_name = is.control_name;
      gate_name = is.gate_name;
      controls = control_kept (record { same = λ name at. keeps.same name (control_at name at); nothing_more = λ name at. keeps.nothing_more name (control_at name at) }) is.controls;
      gates = gate_kept (record { same = λ name at. keeps.same name (gate_at name at); nothing_more = λ name at. keeps.nothing_more name (gate_at name at) }) is.gates;
      reads = is.reads;
      sound = is.sound;
      segments = segments_same (blobs_at a.files log.db) (blobs_at b.files log.db) log.db log.head.front log.head.first log.segments is.segments (λ n low high. ap sealed (keeps.same (segment_file log.db n) (inr (n, refl))));
      count = is.count;
      durable = λ n low high. durable_kept (segment_file log.db n) (inr (n, refl)) keeps (is.durable n low high);
      begun = begun_same a.files b.files log.db log.head (λ n low high. ap sealed (keeps.same (segment_file log.db n) (inr (n, refl)))) is.begun;
      run = subst (λ (bs : List (List ℕ)). IsRun log.head.first bs log.stored) (sym (blobs_kept log.db log.head keeps is.sound.front)) is.run;
      inside = is.inside;
      small = is.small;
    }
