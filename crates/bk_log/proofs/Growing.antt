-- What beginning a new segment did to the device, and then sealing a blob in it.
use Rattle.std.proofs.Common.{◌≡◌, ◌⊎◌, ◌≤◌, ◌<◌, ◌^◌, ℕ, Bool, ◌+◌, ◌-◌, List, [], ◌∷◌, ◌++◌, length, drop, Some, refl, inl, inr, sym, ap, subst, ◌∙◌, arith, length-append}
use Rattle.bk_control.specs.Control.{IsControl, control_kept, Kept as KeptControl}
use Rattle.bk_control.specs.Slots.{control_of}
use Rattle.bk_device.specs.Compose.{effect_then, effect_weaken, effect_widen, keeps_by_effect, durable_kept}
use Rattle.bk_device.specs.Disk.{Files, Disk, IsDurable}
use Rattle.bk_device.specs.Effects.{Effect, IsName}
use Rattle.bk_gate.specs.Blobs.{sealed}
use Rattle.bk_gate.specs.Gate.{IsGate, Kept as KeptGate}
use Rattle.bk_gate.specs.Laws.{gate_kept}
use Rattle.bk_ids.specs.declared.record.Rec.{Rec}
use Rattle.bk_lemmas.specs.Tests.{equal_or_not}
use Rattle.bk_segments.specs.declared.head.Head.{Head}
use Rattle.bk_segments.specs.declared.segments.Segment.{Segment}
use Rattle.bk_segments.specs.Control.{read_control, IsSound}
use Rattle.bk_segments.specs.Records.{records_of, IsRun}
use Rattle.bk_log.specs.Log.{value_of, Kept, IsLog}
use Rattle.bk_segments.specs.Files.{control_file, segment_file, IsOwn, blobs_at, blobs_from, blobs_of, shown, with_more, AreBegun, AreSegments, IsAdded, Logged, LogIs}
use Rattle.bk_segments.specs.FileLaws.{control_not_segment, one_segment, blobs_same, begun_same, all_blobs, log_is, shown_same}
use Rattle.bk_segments.specs.RunLaws.{run_begun, records_begun, one_blob}
use Rattle.bk_log.specs.Laws.{control_there, control_is, still, segment_left}
use Rattle.bk_segments.specs.SegmentLaws.{segments_same, segments_added}

-- the head with one segment more
abbrev pub next : Head → Head
next head = record { kept = head.kept; gone = head.gone; front = head.front; back = head.back + 1; first = head.first }

pub next_sound : {head : Head} {note : List ℕ} → IsSound head note → head.back + 1 ≤ head.gone + 65535 → head.back + 1 < 2 ^ 62 → IsSound (next head) note
next_sound is few small = record { gone = is.gone; front = omega (arith, is.front); back = small; few = omega (arith, few); kept = is.kept; short = is.short }

-- its blobs are those of the old one and then those of the new segment
pub blobs_next : (files : Files) (db : ℕ) (head : Head) → head.front ≤ head.back → blobs_of files db (next head) ≡ blobs_of files db head ++ blobs_at files db (head.back + 1)
blobs_next files db head order =
    let count : head.back + 1 - head.front ≡ head.back - head.front + 1 = omega (arith, order) in
    ap (λ (n : ℕ). blobs_from (blobs_at files db) head.front n ++ blobs_at files db (head.back + 1)) count
    ∙ ap (λ (bs : List (List ℕ)). bs ++ blobs_at files db (head.back + 1)) (all_blobs files db head order)

-- and in the new segment there is one without a byte
blobs_begun : (files : Files) (db : ℕ) (head : Head) → head.front ≤ head.back → blobs_at files db (head.back + 1) ≡ [] ∷ [] → blobs_of files db (next head) ≡ blobs_of files db head ++ [] ∷ []
blobs_begun files db head order begun = blobs_next files db head order ∙ ap (λ (bs : List (List ℕ)). blobs_of files db head ++ bs) begun

next_begun : (files : Files) (db : ℕ) (head : Head) → AreBegun (blobs_at files db) head → blobs_at files db (head.back + 1) ≡ [] ∷ [] → AreBegun (blobs_at files db) (next head)
next_begun files db head begun last n low high none = elim (equal_or_not n (head.back + 1)) [
  | inl same ↦ one_blob (blobs_at files db (head.back + 1)) [] last (ap (blobs_at files db) (sym same) ∙ none)
  | inr before ↦ begun n low (omega (arith, high, before)) none
]

-- the same segments, and whether it is failed is no matter of the disk
pub log_again : {disk : Disk} {log : Kept} (segments : List Segment) (failed : Bool) → segments ≡ log.segments → IsLog disk log → IsLog disk (record log { segments = segments; failed = failed })
log_again {disk = disk} {log = log} segments failed same is = record {
  control_name = is.control_name;
  gate_name = is.gate_name;
  controls = is.controls;
  gates = is.gates;
  reads = is.reads;
  sound = is.sound;
  segments = subst (AreSegments (blobs_at disk.files log.db) log.db log.head.front log.head.first) (sym same) is.segments;
  count = omega (arith, is.count, ap length same);
  durable = is.durable;
  begun = is.begun;
  run = is.run;
  inside = is.inside;
  small = is.small;
}

-- ---- the segment is made

-- it is none of those that count
beside : {disk : Disk} (log : Kept) (n : ℕ) → IsLog disk log → n ≤ log.head.back → segment_file log.db n ≡ segment_file log.db (log.head.back + 1) → ⊥
beside log n is within same =
    let one : n ≡ log.head.back + 1 = one_segment log.db n (log.head.back + 1) (omega (arith, within, is.sound.back)) (omega (arith, is.sound.back)) same in
    absurd (omega (arith, within, one))

pub begun_crash : {P : Files → Type 0} (log : Kept) (a b : Disk) → IsLog a log → Effect (IsName (segment_file log.db (log.head.back + 1))) P a b → Effect (IsOwn log.db) (λ image. LogIs image log.db (value_of a.files log)) a b
begun_crash log a b is effect =
    effect_widen (λ name at. inr (log.head.back + 1, at)) (λ image here left.
    still log a image log.head log.note log.control.content is refl refl refl is.inside is.sound
    (ap control_of (control_there is (image (control_file log.db)) (left (control_file log.db) (control_not_segment log.db (log.head.back + 1)) (inl refl))) ∙ control_is is) is.reads
    (λ n low high. segment_left log a image n is low high (left (segment_file log.db n) (beside log n is high) (inr (n, refl))))) effect

pub begun_log : {P : Files → Type 0} (log : Kept) (a b : Disk) → IsLog a log → Effect (IsName (segment_file log.db (log.head.back + 1))) P a b → IsLog b log
begun_log log a b is effect =
    let other : (n : ℕ) → n ≤ log.head.back → segment_file log.db n ≡ segment_file log.db (log.head.back + 1) → ⊥ = λ n within. beside log n is within in
    let blobs : blobs_of b.files log.db log.head ≡ blobs_of a.files log.db log.head = blobs_same a.files b.files log.db log.head is.sound.front (λ n low high. ap sealed (effect.others (segment_file log.db n) (other n high))) in
    record {
      control_name = is.control_name;
      gate_name = is.gate_name;
      controls = control_kept (keeps_by_effect (λ n at same. control_not_segment log.db (log.head.back + 1) (sym is.control_name ∙ (sym at ∙ same))) effect) is.controls;
      gates = gate_kept (keeps_by_effect (λ n at same. other log.head.back (omega arith) (sym is.gate_name ∙ (sym at ∙ same))) effect) is.gates;
      reads = is.reads;
      sound = is.sound;
      segments = segments_same (blobs_at a.files log.db) (blobs_at b.files log.db) log.db log.head.front log.head.first log.segments is.segments (λ n low high. ap sealed (effect.others (segment_file log.db n) (other n (omega (arith, high, is.count)))));
      count = is.count;
      durable = λ n low high. durable_kept {names = IsName (segment_file log.db n)} (segment_file log.db n) refl (keeps_by_effect (λ m at same. other n high (sym at ∙ same)) effect) (is.durable n low high);
      begun = begun_same a.files b.files log.db log.head (λ n low high. ap sealed (effect.others (segment_file log.db n) (other n high))) is.begun;
      run = subst (λ (bs : List (List ℕ)). IsRun log.head.first bs log.stored) (sym blobs) is.run;
      inside = is.inside;
      small = is.small;
    }

pub begun_value : {P : Files → Type 0} (log : Kept) (a b : Disk) → IsLog a log → Effect (IsName (segment_file log.db (log.head.back + 1))) P a b → value_of b.files log ≡ value_of a.files log
begun_value log a b is effect =
    shown_same a.files b.files log.db log.head log.note (blobs_same a.files b.files log.db log.head is.sound.front (λ n low high. ap sealed (effect.others (segment_file log.db n) (beside log n is high))))

-- ---- and then named

-- an image in which the control names it
named_is : (log : Kept) (b : Disk) (image : Files) (bytes : List ℕ) → IsLog b log → IsSound (next log.head) log.note → read_control bytes ≡ Some (next log.head, log.note) → control_of (image (control_file log.db)) ≡ Some bytes
    → ((n : ℕ) → log.head.front ≤ n → n ≤ log.head.back → blobs_at image log.db n ≡ blobs_at b.files log.db n) → blobs_at image log.db (log.head.back + 1) ≡ [] ∷ [] → LogIs image log.db (value_of b.files log)
named_is log b image bytes is sound reads control same one =
    let blobs : blobs_of image log.db (next log.head) ≡ blobs_of b.files log.db log.head ++ [] ∷ [] =
    blobs_begun image log.db log.head is.sound.front one ∙ ap (λ (bs : List (List ℕ)). bs ++ [] ∷ []) (blobs_same b.files image log.db log.head is.sound.front same) in
    let run : IsRun log.head.first (blobs_of image log.db (next log.head)) log.stored = subst (λ (bs : List (List ℕ)). IsRun log.head.first bs log.stored) (sym blobs) (run_begun log.head.first log.stored (blobs_of b.files log.db log.head) is.run) in
    let begun : AreBegun (blobs_at image log.db) (next log.head) = next_begun image log.db log.head (begun_same b.files image log.db log.head same is.begun) one in
    subst (λ (l : Logged). LogIs image log.db l)
    (ap (λ (rs : List Rec). record { kept = log.head.kept; records = drop (log.head.kept - log.head.first) rs; note = log.note }) (ap records_of blobs ∙ records_begun (blobs_of b.files log.db log.head)))
    (log_is image log.db (next log.head) log.note bytes log.stored control reads sound begun run is.inside is.small)

pub named_crash : (log : Kept) (bytes : List ℕ) (b c : Disk) → IsLog b log → IsSound (next log.head) log.note → read_control bytes ≡ Some (next log.head, log.note) → IsDurable b (segment_file log.db (log.head.back + 1)) → sealed (b.files (segment_file log.db (log.head.back + 1))) ≡ [] ∷ []
    → Effect (IsName log.control.name) (λ image. (control_of (image log.control.name) ≡ Some log.control.content) ⊎ (control_of (image log.control.name) ≡ Some bytes)) b c
    → Effect (IsOwn log.db) (λ image. LogIs image log.db (value_of b.files log)) b c
named_crash log bytes b c is sound reads durable one effect =
    let At : List ℕ → Type 0 = λ n. Effect (IsName n) (λ image. (control_of (image n) ≡ Some log.control.content) ⊎ (control_of (image n) ≡ Some bytes)) b c in
    let segments : (image : Files) → ((name : List ℕ) → (IsName (control_file log.db) name → ⊥) → IsOwn log.db name → b.may name (image name)) → (n : ℕ) → log.head.front ≤ n → n ≤ log.head.back → blobs_at image log.db n ≡ blobs_at b.files log.db n =
    λ image left n low high. segment_left log b image n is low high (left (segment_file log.db n) (λ same. control_not_segment log.db n (sym same)) (inr (n, refl))) in
    effect_widen (λ name at. inl at) (λ image here left. elim here [
      | inl old ↦ still log b image log.head log.note log.control.content is refl refl refl is.inside is.sound old is.reads (segments image left)
      | inr new ↦ named_is log b image bytes is sound reads new (segments image left)
          (ap sealed (durable (image (segment_file log.db (log.head.back + 1))) (left (segment_file log.db (log.head.back + 1)) (λ same. control_not_segment log.db (log.head.back + 1) (sym same)) (inr (log.head.back + 1, refl)))) ∙ one)
    ]) (subst At is.control_name effect)

-- both steps
pub grown_crash : {P : Files → Type 0} (log : Kept) (bytes : List ℕ) (a b c : Disk) → IsLog a log → IsSound (next log.head) log.note → read_control bytes ≡ Some (next log.head, log.note) → IsDurable b (segment_file log.db (log.head.back + 1)) → sealed (b.files (segment_file log.db (log.head.back + 1))) ≡ [] ∷ []
    → Effect (IsName (segment_file log.db (log.head.back + 1))) P a b
    → Effect (IsName log.control.name) (λ image. (control_of (image log.control.name) ≡ Some log.control.content) ⊎ (control_of (image log.control.name) ≡ Some bytes)) b c
    → Effect (IsOwn log.db) (λ image. LogIs image log.db (value_of a.files log)) a c
grown_crash log bytes a b c is sound reads durable one first second =
    effect_then (begun_crash log a b is first)
    (effect_weaken (λ image here. subst (λ (l : Logged). LogIs image log.db l) (begun_value log a b is first) here) (named_crash log bytes b c (begun_log log a b is first) sound reads durable one second))

grown_blobs : {P Q : Files → Type 0} (log : Kept) (a b c : Disk) → IsLog a log → sealed (b.files (segment_file log.db (log.head.back + 1))) ≡ [] ∷ [] → Effect (IsName (segment_file log.db (log.head.back + 1))) P a b → Effect (IsName log.control.name) Q b c
    → blobs_of c.files log.db (next log.head) ≡ blobs_of a.files log.db log.head ++ [] ∷ []
grown_blobs log a b c is one first second =
    let apart : (n : ℕ) → segment_file log.db n ≡ log.control.name → ⊥ = λ n same. control_not_segment log.db n (sym (same ∙ is.control_name)) in
    blobs_begun c.files log.db log.head is.sound.front (ap sealed (second.others (segment_file log.db (log.head.back + 1)) (apart (log.head.back + 1))) ∙ one)
    ∙ ap (λ (bs : List (List ℕ)). bs ++ [] ∷ []) (blobs_same a.files c.files log.db log.head is.sound.front (λ n low high. ap sealed (second.others (segment_file log.db n) (apart n) ∙ first.others (segment_file log.db n) (beside log n is high))))

pub grown_value : {P Q : Files → Type 0} (log : Kept) (a b c : Disk) → IsLog a log → sealed (b.files (segment_file log.db (log.head.back + 1))) ≡ [] ∷ [] → Effect (IsName (segment_file log.db (log.head.back + 1))) P a b → Effect (IsName log.control.name) Q b c
    → shown c.files log.db (next log.head) log.note ≡ value_of a.files log
grown_value log a b c is one first second =
    ap (λ (rs : List Rec). record { kept = log.head.kept; records = drop (log.head.kept - log.head.first) rs; note = log.note }) (ap records_of (grown_blobs log a b c is one first second) ∙ records_begun (blobs_of a.files log.db log.head))

-- and the log stands with it
pub grown_log : {P Q : Files → Type 0} (log : Kept) (bytes : List ℕ) (a b c : Disk) (control : KeptControl) (gate : KeptGate) (segments : List Segment) (end : ℕ) (waiting : List Rec) (spare_bytes spare_flushes : ℕ) (failed : Bool) → IsLog a log → IsAdded log.segments segments log.db (log.head.back + 1) log.stored → IsSound (next log.head) log.note → read_control bytes ≡ Some (next log.head, log.note)
    → control.name ≡ log.control.name → control.content ≡ bytes → IsControl c control → gate.name ≡ segment_file log.db (log.head.back + 1) → IsGate b gate
    → IsDurable b (segment_file log.db (log.head.back + 1)) → sealed (b.files (segment_file log.db (log.head.back + 1))) ≡ [] ∷ []
    → Effect (IsName (segment_file log.db (log.head.back + 1))) P a b → Effect (IsName log.control.name) Q b c
    → IsLog c (record { db = log.db; control = control; gate = gate; head = next log.head; segments = segments; note = log.note; stored = log.stored; end = end; waiting = waiting; spare_bytes = spare_bytes; spare_flushes = spare_flushes; failed = failed })
grown_log log bytes a b c control gate segments end waiting spare_bytes spare_flushes failed is added sound reads control_name content controls gate_name gates durable one first second =
    let mid = begun_log log a b is first in
    let apart : (n : ℕ) → segment_file log.db n ≡ log.control.name → ⊥ = λ n same. control_not_segment log.db n (sym (same ∙ is.control_name)) in
    let same : (n : ℕ) → log.head.front ≤ n → n ≤ log.head.back → blobs_at c.files log.db n ≡ blobs_at a.files log.db n =
    λ n low high. ap sealed (second.others (segment_file log.db n) (apart n) ∙ first.others (segment_file log.db n) (beside log n is high)) in
    let all : blobs_of c.files log.db log.head ≡ blobs_of a.files log.db log.head = blobs_same a.files c.files log.db log.head is.sound.front same in
    let count : length log.segments ≡ log.head.back - log.head.front + 1 = omega (arith, is.count, is.sound.front) in
    let last_begins : IsRun log.head.first (blobs_from (blobs_at c.files log.db) log.head.front (length log.segments)) log.stored =
    subst (λ (bs : List (List ℕ)). IsRun log.head.first bs log.stored) (sym (ap (blobs_from (blobs_at c.files log.db) log.head.front) count ∙ all_blobs c.files log.db log.head is.sound.front ∙ all)) is.run in
    let moved : (n : ℕ) → IsDurable b (segment_file log.db n) → IsDurable c (segment_file log.db n) = λ n settled. durable_kept {names = IsName (segment_file log.db n)} (segment_file log.db n) refl (keeps_by_effect (λ m at same. apart n (sym at ∙ same)) second) settled in
    record {
      control_name = control_name ∙ is.control_name;
      gate_name = gate_name;
      controls = controls;
      gates = gate_kept (keeps_by_effect (λ n at same. apart (log.head.back + 1) (sym gate_name ∙ (sym at ∙ same))) second) gates;
      reads = ap read_control content ∙ reads;
      sound = sound;
      segments = segments_added (blobs_at c.files log.db) log.db log.head.front log.head.first (log.head.back + 1) log.stored log.segments segments
          (segments_same (blobs_at b.files log.db) (blobs_at c.files log.db) log.db log.head.front log.head.first log.segments mid.segments (λ n low high. ap sealed (second.others (segment_file log.db n) (apart n))))
          (sym is.count) last_begins added;
      count = omega (arith, is.count, ap length added.1, length-append log.segments (added.0 ∷ []));
      durable = λ n low high. elim (equal_or_not n (log.head.back + 1)) [
        | inl last ↦ moved n (subst (λ (m : ℕ). IsDurable b (segment_file log.db m)) (sym last) durable)
        | inr before ↦ moved n (mid.durable n low (omega (arith, high, before)))
      ];
      begun = next_begun c.files log.db log.head (begun_same a.files c.files log.db log.head same is.begun) (ap sealed (second.others (segment_file log.db (log.head.back + 1)) (apart (log.head.back + 1))) ∙ one);
      run = subst (λ (bs : List (List ℕ)). IsRun log.head.first bs log.stored) (sym (grown_blobs log a b c is one first second)) (run_begun log.head.first log.stored (blobs_of a.files log.db log.head) is.run);
      inside = is.inside;
      small = is.small;
    }

-- ---- room was made, and then a blob was sealed

pub flush_crash : (db later : ℕ) (before between : Logged) (waiting more : List Rec) (a b c : Disk) → later ≡ db → between ≡ before → more ≡ waiting → Effect (IsOwn db) (λ image. LogIs image db before) a b
    → Effect (IsOwn later) (λ image. LogIs image later between ⊎ LogIs image later (with_more between more)) b c
    → Effect (IsOwn db) (λ image. LogIs image db before ⊎ LogIs image db (with_more before waiting)) a c
flush_crash db later before between waiting more a b c same_db same same_waiting first second =
    let One : ℕ → Type 0 = λ d. Effect (IsOwn d) (λ image. LogIs image d between ⊎ LogIs image d (with_more between more)) b c in
    let Two : Logged → Type 0 = λ l. Effect (IsOwn db) (λ image. LogIs image db l ⊎ LogIs image db (with_more l more)) b c in
    let Three : List Rec → Type 0 = λ w. Effect (IsOwn db) (λ image. LogIs image db before ⊎ LogIs image db (with_more before w)) b c in
    effect_then (effect_weaken (λ image here. inl here) first) (subst Three same_waiting (subst Two same (subst One same_db second)))
