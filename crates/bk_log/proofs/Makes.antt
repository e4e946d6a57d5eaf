-- A log that was made, or opened.
use Rattle.std.proofs.Common.{◌≡◌, ◌⊎◌, ◌≤◌, ◌<◌, ◌^◌, ℕ, Bool, ◌+◌, ◌-◌, List, [], ◌∷◌, length, Option, Some, None, refl, inl, inr, sym, ap, subst, ◌∙◌, arith}
use Rattle.bk_bytes.specs.Codec.{◌>>=◌}
use Rattle.bk_control.specs.Control.{IsControl, Kept as KeptControl}
use Rattle.bk_control.specs.Slots.{control_of}
use Rattle.bk_device.specs.Calls.{ChangesNothing}
use Rattle.bk_device.specs.Compose.{effect_weaken, effect_none, effect_of_nothing}
use Rattle.bk_device.specs.Disk.{Files, Disk, IsDurable}
use Rattle.bk_device.specs.Effects.{Effect}
use Rattle.bk_device.specs.Laws.{durable_by_nothing}
use Rattle.bk_gate.specs.Blobs.{sealed}
use Rattle.bk_gate.specs.Gate.{IsGate, Kept as KeptGate}
use Rattle.bk_ids.specs.declared.record.Rec.{Rec}
use Rattle.bk_segments.specs.declared.head.Head.{Head}
use Rattle.bk_segments.specs.declared.segments.Segment.{Segment}
use Rattle.bk_segments.specs.Control.{read_control, IsSound}
use Rattle.bk_segments.specs.Records.{IsRun}
use Rattle.bk_segments.specs.RunLaws.{run_none, run_begun, none_begun, one_blob}
use Rattle.bk_segments.specs.SegmentLaws.{segments_same, segments_none, segments_added}
use Rattle.bk_segments.specs.FileLaws.{one_head, foreign_control, log_is, log_same, blobs_same, begun_same, blobs_moved, shown_same}
use Rattle.bk_log.specs.Log.{value_of, Kept, IsLog}
use Rattle.bk_segments.specs.Files.{control_file, segment_file, IsOwn, blobs_of, blobs_at, shown, emptied, AreBegun, AreSegments, IsAdded, Logged, LogIs, IsForeign, AreDurable, AreSettled, Holds}
use Rattle.bk_segments.specs.Making.{Made}

-- ---- a log that was made

-- the head of a log that is made
abbrev pub first_head : ℕ → Head
first_head at = record { kept = at; gone = 1; front = 1; back = 1; first = at }

pub made_sound : (at : ℕ) (note bytes : List ℕ) → note ≡ bytes → length bytes ≤ 32768 → IsSound (first_head at) note
made_sound at note bytes same short =
    let Sound : List ℕ → Type 0 = λ n. IsSound (first_head at) n in
    subst Sound (sym same) (record { gone = omega arith; front = omega arith; back = omega arith; few = omega arith; kept = omega arith; short = short })

-- which shows no record
pub made_value : (files : Files) (db at : ℕ) (note bytes : List ℕ) → note ≡ bytes → sealed (files (segment_file db 1)) ≡ [] ∷ [] → shown files db (first_head at) note ≡ emptied at bytes
made_value files db at note bytes same one =
    ap (λ (n : List ℕ). shown files db (first_head at) n) same
    ∙ ap (λ (rs : List Rec). record { kept = at; records = rs; note = bytes }) (none_begun (at - at) (sealed (files (segment_file db 1))) one)

made_run : (files : Files) (db at : ℕ) → sealed (files (segment_file db 1)) ≡ [] ∷ [] → IsRun at (blobs_of files db (first_head at)) at
made_run files db at one = subst (λ (bs : List (List ℕ)). IsRun at bs at) (sym one) (run_begun at at [] (run_none at))

made_begun : (files : Files) (db at : ℕ) → sealed (files (segment_file db 1)) ≡ [] ∷ [] → AreBegun (blobs_at files db) (first_head at)
made_begun files db at one n low high none =
    let same : n ≡ 1 = omega (arith, low, high) in
    one_blob (blobs_at files db 1) [] one (ap (blobs_at files db) (sym same) ∙ none)

made_is : (image : Files) (db at : ℕ) (note bytes : List ℕ) → at < 2 ^ 64 → length note ≤ 32768 → read_control bytes ≡ Some (first_head at, note) → control_of (image (control_file db)) ≡ Some bytes → sealed (image (segment_file db 1)) ≡ [] ∷ [] → LogIs image db (emptied at note)
made_is image db at note bytes small short reads control one =
    subst (λ (l : Logged). LogIs image db l) (made_value image db at note note refl one)
    (log_is image db (first_head at) note bytes at control reads (made_sound at note note refl short) (made_begun image db at one) (made_run image db at one) (omega arith) small)

-- without a blob in the segment there is no log
made_foreign : (image : Files) (db at : ℕ) (note bytes : List ℕ) → read_control bytes ≡ Some (first_head at, note) → control_of (image (control_file db)) ≡ Some bytes → sealed (image (segment_file db 1)) ≡ [] → IsForeign image db
made_foreign image db at note bytes reads control none log is =
    let same = (one_head image db bytes (first_head at) note log control reads is).0 in
    let Begun : Head → Type 0 = AreBegun (blobs_at image db) in
    let begun : AreBegun (blobs_at image db) (first_head at) = subst Begun same is.begun in
    begun 1 (omega arith) (omega arith) none

-- nothing was done yet
pub made_untouched : (db at : ℕ) (note : List ℕ) (a : Disk) → IsDurable a (control_file db) → control_of (a.files (control_file db)) ≡ None → Effect (IsOwn db) (λ image. IsForeign image db ⊎ LogIs image db (emptied at note)) a a
made_untouched db at note a durable none = effect_none a (λ image mine. inl (foreign_control image db (ap control_of (durable (image (control_file db)) (mine (control_file db) (inl refl))) ∙ none)))

-- each crash leaves no log, or this one
pub made_crash : (db at : ℕ) (note bytes : List ℕ) (a b : Disk) → at < 2 ^ 64 → length note ≤ 32768 → read_control bytes ≡ Some (first_head at, note) → Effect (IsOwn db) (Made db bytes) a b
    → Effect (IsOwn db) (λ image. IsForeign image db ⊎ LogIs image db (emptied at note)) a b
made_crash db at note bytes a b small short reads effect =
    effect_weaken (λ image here. elim here [
      | inl none ↦ inl (foreign_control image db none)
      | inr made ↦ elim made.1 [
        | inl none ↦ inl (made_foreign image db at note bytes reads made.0 none)
        | inr one ↦ inr (made_is image db at note bytes small short reads made.0 one)
      ]
    ]) effect

-- and it stands
pub made_log : (db at : ℕ) (bytes note given : List ℕ) (a : Disk) (control : KeptControl) (gate : KeptGate) (segments : List Segment) (end : ℕ) (waiting : List Rec) (spare_bytes spare_flushes : ℕ) (failed : Bool) → at < 2 ^ 64 → IsAdded [] segments db 1 at → note ≡ given → length given ≤ 32768 → read_control bytes ≡ Some (first_head at, given) → control.name ≡ control_file db → control.content ≡ bytes → gate.name ≡ segment_file db 1
    → IsControl a control → IsGate a gate → IsDurable a (segment_file db 1) → sealed (a.files (segment_file db 1)) ≡ [] ∷ []
    → IsLog a (record { db = db; control = control; gate = gate; head = first_head at; segments = segments; note = note; stored = at; end = end; waiting = waiting; spare_bytes = spare_bytes; spare_flushes = spare_flushes; failed = failed })
made_log db at bytes note given a control gate segments end waiting spare_bytes spare_flushes failed small added same short reads control_name content gate_name controls gates durable one =
    record {
      control_name = control_name;
      gate_name = gate_name;
      controls = controls;
      gates = gates;
      reads = ap read_control content ∙ reads ∙ ap (λ (n : List ℕ). Some (first_head at, n)) (sym same);
      sound = made_sound at note given same short;
      segments = segments_added (blobs_at a.files db) db 1 at 1 at [] segments (segments_none (blobs_at a.files db) db 1 at) refl (run_none at) added;
      count = omega (arith, ap length added.1);
      durable = λ n low high. let same : n ≡ 1 = omega (arith, low, high) in subst (λ (m : ℕ). IsDurable a (segment_file db m)) (sym same) durable;
      begun = made_begun a.files db at one;
      run = made_run a.files db at one;
      inside = omega arith;
      small = small;
    }

-- ---- opening a log

-- what is left is what each log was
abbrev pub Same : ℕ → Disk → Files → Type 0
Same db a image = (log : Logged) → LogIs a.files db log → LogIs image db log

-- nothing was done
pub load_nothing : (db : ℕ) (a b : Disk) → AreDurable db a → ChangesNothing a b → Effect (IsOwn db) (Same db a) a b
load_nothing db a b durable call =
    effect_of_nothing (λ image mine log is. log_same db log (ap control_of (durable (control_file db) (inl refl) (image (control_file db)) (mine (control_file db) (inl refl))))
    (λ n. ap sealed (durable (segment_file db n) (inr (n, refl)) (image (segment_file db n)) (mine (segment_file db n) (inr (n, refl))))) is) call

-- the head that was found
pub found_holds : (files : Files) (db : ℕ) (head : Head) (note content : List ℕ) → control_of (files (control_file db)) ≡ Some content → read_control content ≡ Some (head, note) → IsSound head note → Holds files db head
found_holds files db head note content control reads sound = (note, ap (λ (o : Option (List ℕ)). o >>= read_control) control ∙ reads, sound)

-- nothing is pending in a segment that counts
pub settled : (db : ℕ) (head : Head) (n : ℕ) {a b : Disk} → AreSettled db a → Holds a.files db head → head.front ≤ n → n ≤ head.back → ChangesNothing a b → IsDurable b (segment_file db n)
settled db head n are holds low high call = durable_by_nothing (segment_file db n) call (are.counted head holds n low high)

-- the log is what it was
pub opened_value : (log : Kept) (a b : Disk) → IsLog b log → ChangesNothing a b → value_of b.files log ≡ value_of a.files log
opened_value log a b is call = shown_same a.files b.files log.db log.head log.note (blobs_same a.files b.files log.db log.head is.sound.front (λ n low high. blobs_moved log.db n call))

-- and it stands
pub load_log : (db : ℕ) (head : Head) (note : List ℕ) (stored : ℕ) (a b : Disk) (control : KeptControl) (gate : KeptGate) (segments : List Segment) (end : ℕ) (waiting : List Rec) (spare_bytes spare_flushes : ℕ) (failed : Bool) → AreSegments (blobs_at a.files db) db head.front head.first segments → head.front + length segments ≡ head.back + 1 → AreSettled db a → Holds a.files db head → ChangesNothing a b → control.name ≡ control_file db → gate.name ≡ segment_file db head.back
    → IsControl b control → IsGate b gate → read_control control.content ≡ Some (head, note) → IsSound head note → AreBegun (blobs_at a.files db) head → IsRun head.first (blobs_of a.files db head) stored → head.kept ≤ stored → stored < 2 ^ 64
    → IsLog b (record { db = db; control = control; gate = gate; head = head; segments = segments; note = note; stored = stored; end = end; waiting = waiting; spare_bytes = spare_bytes; spare_flushes = spare_flushes; failed = failed })
load_log db head note stored a b control gate segments end waiting spare_bytes spare_flushes failed are count durable holds call control_name gate_name controls gates reads sound begun run inside small =
    let same : (n : ℕ) → blobs_at b.files db n ≡ blobs_at a.files db n = λ n. blobs_moved db n call in
    record {
      control_name = control_name;
      gate_name = gate_name;
      controls = controls;
      gates = gates;
      reads = reads;
      sound = sound;
      segments = segments_same (blobs_at a.files db) (blobs_at b.files db) db head.front head.first segments are (λ n low high. same n);
      count = count;
      durable = λ n low high. settled db head n durable holds low high call;
      begun = begun_same a.files b.files db head (λ n low high. same n) begun;
      run = subst (λ (bs : List (List ℕ)). IsRun head.first bs stored) (sym (blobs_same a.files b.files db head sound.front (λ n low high. same n))) run;
      inside = inside;
      small = small;
    }
