-- What emptying a log did to the device: a control record that names a new segment alone was put.
use Rattle.std.proofs.Common.{◌≡◌, ◌⊎◌, ◌≤◌, ◌<◌, ◌^◌, ℕ, ◌+◌, ◌-◌, List, [], ◌∷◌, ◌++◌, length, Some, refl, inl, inr, sym, ap, subst, ◌∙◌, arith}
use Rattle.std.proofs.lemmas.Option.{slice_get_within}
use Rattle.bk_control.specs.Control.{IsControl, Kept as KeptControl}
use Rattle.bk_control.specs.Slots.{control_of}
use Rattle.bk_device.specs.Compose.{effect_then, effect_weaken, effect_widen, keeps_by_effect, durable_kept}
use Rattle.bk_device.specs.Disk.{Files, Disk, IsDurable}
use Rattle.bk_device.specs.Effects.{Effect, IsName}
use Rattle.bk_gate.specs.Blobs.{sealed}
use Rattle.bk_gate.specs.Gate.{IsGate, Kept as KeptGate}
use Rattle.bk_gate.specs.Laws.{gate_kept}
use Rattle.bk_ids.specs.declared.record.Rec.{Rec}
use Rattle.bk_segments.specs.declared.head.Head.{Head}
use Rattle.bk_segments.specs.declared.segments.Segment.{Segment}
use Rattle.bk_segments.specs.Control.{read_control, IsSound}
use Rattle.bk_segments.specs.Records.{IsRun}
use Rattle.bk_segments.specs.RunLaws.{run_none, run_begun, none_begun, one_blob}
use Rattle.bk_log.specs.Log.{value_of, Kept, IsLog}
use Rattle.bk_segments.specs.Files.{control_file, segment_file, IsOwn, IsBeside, IsNamed, IsAdded, blobs_at, blobs_from, blobs_of, shown, emptied, AreBegun, Logged, LogIs}
use Rattle.bk_segments.specs.FileLaws.{control_not_segment, log_is}
use Rattle.bk_segments.specs.SegmentLaws.{segments_none, segments_added}
use Rattle.bk_log.specs.Laws.{still, segment_left}
use Rattle.bk_log.proofs.Cuts.{cleared, cleared_crash, swept_crash, swept_log, swept_value}

-- the head of a log that begins anew at a number in the segment behind the last one
abbrev pub begun : Head → ℕ → Head
begun head at = record { kept = at; gone = head.gone; front = head.back + 1; back = head.back + 1; first = at }

pub begun_sound : {head : Head} {old note : List ℕ} (at : ℕ) → IsSound head old → head.back + 1 ≤ head.gone + 65536 → head.back + 1 < 2 ^ 62 → length note ≤ 32768 → IsSound (begun head at) note
begun_sound at is few small short = record { gone = omega (arith, is.gone, is.front); front = omega arith; back = small; few = few; kept = omega arith; short = short }

-- with a blob without a byte alone in that segment it shows no record
none_shown : (files : Files) (db at : ℕ) (head : Head) (note : List ℕ) → blobs_at files db (head.back + 1) ≡ [] ∷ [] → (blobs_of files db (begun head at) ≡ [] ∷ []) × (shown files db (begun head at) note ≡ emptied at note)
none_shown files db at head note one =
    let blobs : blobs_of files db (begun head at) ≡ [] ∷ [] = only (blobs_at files db) (head.back + 1) (head.back + 1) refl ∙ one in
    (blobs, ap (λ (rs : List Rec). record { kept = at; records = rs; note = note }) (none_begun (at - at) (blobs_of files db (begun head at)) blobs))
  where
    only : (blobs : ℕ → List (List ℕ)) (n m : ℕ) → n ≡ m → blobs_from blobs n (m - n) ++ blobs m ≡ blobs m
    only blobs n m same =
        let zero_left : m - n ≡ 0 = omega (arith, same) in
        ap (λ (k : ℕ). blobs_from blobs n k ++ blobs m) zero_left

-- and each segment that counts has a blob
one_begun : (files : Files) (db at : ℕ) (head : Head) → blobs_at files db (head.back + 1) ≡ [] ∷ [] → AreBegun (blobs_at files db) (begun head at)
one_begun files db at head one n low high none =
    let same : n ≡ head.back + 1 = omega (arith, low, high) in
    one_blob (blobs_at files db (head.back + 1)) [] one (ap (blobs_at files db) (sym same) ∙ none)

one_run : (files : Files) (db at : ℕ) (head : Head) → blobs_of files db (begun head at) ≡ [] ∷ [] → IsRun at (blobs_of files db (begun head at)) at
one_run files db at head blobs = subst (λ (bs : List (List ℕ)). IsRun at bs at) (sym blobs) (run_begun at at [] (run_none at))

-- an image in which the control has that head
begun_is : (image : Files) (db at : ℕ) (head : Head) (note bytes : List ℕ) → at < 2 ^ 64 → IsSound (begun head at) note → read_control bytes ≡ Some (begun head at, note) → control_of (image (control_file db)) ≡ Some bytes → blobs_at image db (head.back + 1) ≡ [] ∷ [] → LogIs image db (emptied at note)
begun_is image db at head note bytes small sound reads control one =
    let shows = none_shown image db at head note one in
    subst (λ (l : Logged). LogIs image db l) shows.1 (log_is image db (begun head at) note bytes at control reads sound (one_begun image db at head one) (one_run image db at head shows.0) (omega arith) small)

-- the record was put, or not
pub begun_put : (log : Kept) (b c : Disk) (at : ℕ) (note bytes : List ℕ) → IsLog b log → at < 2 ^ 64 → IsSound (begun log.head at) note → read_control bytes ≡ Some (begun log.head at, note) → IsDurable b (segment_file log.db (log.head.back + 1)) → blobs_at b.files log.db (log.head.back + 1) ≡ [] ∷ []
    → Effect (IsName log.control.name) (λ image. (control_of (image log.control.name) ≡ Some log.control.content) ⊎ (control_of (image log.control.name) ≡ Some bytes)) b c
    → Effect (IsOwn log.db) (λ image. LogIs image log.db (value_of b.files log) ⊎ LogIs image log.db (emptied at note)) b c
begun_put log b c at note bytes is small sound reads durable one effect =
    let At : List ℕ → Type 0 = λ n. Effect (IsName n) (λ image. (control_of (image n) ≡ Some log.control.content) ⊎ (control_of (image n) ≡ Some bytes)) b c in
    let other : (n : ℕ) → IsName (control_file log.db) (segment_file log.db n) → ⊥ = λ n same. control_not_segment log.db n (sym same) in
    effect_widen (λ name at. inl at) (λ image here left. elim here [
      | inl old ↦ inl (still log b image log.head log.note log.control.content is refl refl refl is.inside is.sound old is.reads
          (λ n low high. segment_left log b image n is low high (left (segment_file log.db n) (other n) (inr (n, refl)))))
      | inr new ↦ inr (begun_is image log.db at log.head note bytes small sound reads new
          (ap sealed (durable (image (segment_file log.db (log.head.back + 1))) (left (segment_file log.db (log.head.back + 1)) (other (log.head.back + 1)) (inr (log.head.back + 1, refl)))) ∙ one))
    ]) (subst At is.control_name effect)

-- and then the log has that head
abbrev pub begun_kept : Kept → KeptControl → KeptGate → List Segment → ℕ → List ℕ → Kept
begun_kept log control gate segments at note = record log { control = control; gate = gate; head = begun log.head at; segments = segments; note = note; stored = at }

pub begun_anew : {P : Files → Type 0} (log : Kept) (b c : Disk) (at : ℕ) (note bytes : List ℕ) (control : KeptControl) (gate : KeptGate) (segments : List Segment) → IsLog b log → at < 2 ^ 64 → IsSound (begun log.head at) note → read_control bytes ≡ Some (begun log.head at, note)
    → control.name ≡ log.control.name → control.content ≡ bytes → IsControl c control → gate.name ≡ segment_file log.db (log.head.back + 1) → IsGate b gate → IsAdded [] segments log.db (log.head.back + 1) at
    → IsDurable b (segment_file log.db (log.head.back + 1)) → blobs_at b.files log.db (log.head.back + 1) ≡ [] ∷ []
    → Effect (IsName log.control.name) P b c → IsLog c (begun_kept log control gate segments at note)
begun_anew log b c at note bytes control gate segments is small sound reads name content controls gate_name gates added durable one effect =
    let n : ℕ = log.head.back + 1 in
    let apart : segment_file log.db n ≡ log.control.name → ⊥ = λ same. control_not_segment log.db n (sym (same ∙ is.control_name)) in
    let there : blobs_at c.files log.db n ≡ [] ∷ [] = ap sealed (effect.others (segment_file log.db n) apart) ∙ one in
    let shows = none_shown c.files log.db at log.head note there in
    record {
      control_name = name ∙ is.control_name;
      gate_name = gate_name;
      controls = controls;
      gates = gate_kept (keeps_by_effect (λ m at same. apart (sym gate_name ∙ (sym at ∙ same))) effect) gates;
      reads = ap read_control content ∙ reads;
      sound = sound;
      segments = segments_added (blobs_at c.files log.db) log.db n at n at [] segments (segments_none (blobs_at c.files log.db) log.db n at) (omega arith) (run_none at) added;
      count = omega (arith, ap length added.1);
      durable = λ m low high.
          let same : m ≡ n = omega (arith, low, high) in
          subst (λ (k : ℕ). IsDurable c (segment_file log.db k)) (sym same) (durable_kept {names = IsName (segment_file log.db n)} (segment_file log.db n) refl (keeps_by_effect (λ k at same. apart (sym at ∙ same)) effect) durable);
      begun = one_begun c.files log.db at log.head there;
      run = one_run c.files log.db at log.head shows.0;
      inside = omega arith;
      small = small;
    }

pub begun_value : {P : Files → Type 0} (log : Kept) (b c : Disk) (at : ℕ) (note : List ℕ) → IsLog b log → blobs_at b.files log.db (log.head.back + 1) ≡ [] ∷ [] → Effect (IsName log.control.name) P b c → shown c.files log.db (begun log.head at) note ≡ emptied at note
begun_value log b c at note is one effect =
    let n : ℕ = log.head.back + 1 in
    let apart : segment_file log.db n ≡ log.control.name → ⊥ = λ same. control_not_segment log.db n (sym (same ∙ is.control_name)) in
    (none_shown c.files log.db at log.head note (ap sealed (effect.others (segment_file log.db n) apart) ∙ one)).1

-- the old segments lie below
pub old_below : {b : Disk} (log : Kept) → IsLog b log → (at : ℕ) (name : List ℕ) → IsNamed log.segments name → IsBeside log.db (begun log.head at) name
old_below log is number name at =
    let below : log.head.front + at.0 < log.head.back + 1 = omega (arith, is.count, slice_get_within log.segments at.0 at.1 at.2) in
    (log.head.front + at.0, omega (arith, below), inl below, at.3 ∙ is.segments.names at.0 at.1 at.2)

-- ---- all of it

-- the record was put and the old segments were removed
pub emptied_second : {P : Files → Type 0} (log : Kept) (b c d : Disk) (at : ℕ) (note bytes : List ℕ) (old : List Segment) (control : KeptControl) (gate : KeptGate) (segments : List Segment) → IsLog b log → at < 2 ^ 64 → IsSound (begun log.head at) note → read_control bytes ≡ Some (begun log.head at, note)
    → control.name ≡ log.control.name → control.content ≡ bytes → IsControl c control → gate.name ≡ segment_file log.db (log.head.back + 1) → IsGate b gate → IsAdded [] segments log.db (log.head.back + 1) at
    → IsDurable b (segment_file log.db (log.head.back + 1)) → blobs_at b.files log.db (log.head.back + 1) ≡ [] ∷ [] → old ≡ log.segments
    → Effect (IsName log.control.name) (λ image. (control_of (image log.control.name) ≡ Some log.control.content) ⊎ (control_of (image log.control.name) ≡ Some bytes)) b c
    → Effect (IsNamed old) P c d
    → Effect (IsOwn log.db) (λ image. LogIs image log.db (value_of b.files log) ⊎ LogIs image log.db (emptied at note)) b d
    × IsLog d (begun_kept log control gate segments at note) × (value_of d.files (begun_kept log control gate segments at note) ≡ emptied at note)
emptied_second log b c d at note bytes old control gate segments is small sound reads name content controls gate_name gates added durable one same putting removing =
    let anew = begun_anew log b c at note bytes control gate segments is small sound reads name content controls gate_name gates added durable one putting in
    let value = begun_value log b c at note is one putting in
    let below : (name : List ℕ) → IsNamed old name → IsBeside log.db (begun log.head at) name = λ name at2. old_below log is at name (subst (λ (xs : List Segment). IsNamed xs name) same at2) in (
      effect_then (begun_put log b c at note bytes is small sound reads durable one putting)
          (effect_weaken (λ image here. inr (subst (λ (l : Logged). LogIs image log.db l) value here)) (swept_crash (begun_kept log control gate segments at note) c d anew below removing)),
      swept_log (begun_kept log control gate segments at note) c d anew below removing,
      swept_value (begun_kept log control gate segments at note) c d anew below removing ∙ value,
    )

-- and that was noted
pub emptied_third : (log : Kept) (b d e : Disk) (at : ℕ) (note again : List ℕ) (control : KeptControl) (gate : KeptGate) (segments : List Segment) → IsLog d (begun_kept log control gate segments at note) → value_of d.files (begun_kept log control gate segments at note) ≡ emptied at note → read_control again ≡ Some (cleared (begun log.head at), note)
    → Effect (IsOwn log.db) (λ image. LogIs image log.db (value_of b.files log) ⊎ LogIs image log.db (emptied at note)) b d
    → Effect (IsName control.name) (λ image. (control_of (image control.name) ≡ Some control.content) ⊎ (control_of (image control.name) ≡ Some again)) d e
    → Effect (IsOwn log.db) (λ image. LogIs image log.db (value_of b.files log) ⊎ LogIs image log.db (emptied at note)) b e
emptied_third log b d e at note again control gate segments is value reads so_far noting =
    effect_then so_far (effect_weaken (λ image here. inr (subst (λ (l : Logged). LogIs image log.db l) value here)) (cleared_crash (begun_kept log control gate segments at note) again d e is reads noting))

-- a segment was begun, and then the log was emptied
pub reset_crash : (db at : ℕ) (note : List ℕ) (before between : Logged) (a b c : Disk) → between ≡ before → Effect (IsOwn db) (λ image. LogIs image db before) a b → Effect (IsOwn db) (λ image. LogIs image db between ⊎ LogIs image db (emptied at note)) b c
    → Effect (IsOwn db) (λ image. LogIs image db before ⊎ LogIs image db (emptied at note)) a c
reset_crash db at note before between a b c same first second =
    let Of : Logged → Type 0 = λ l. Effect (IsOwn db) (λ image. LogIs image db l ⊎ LogIs image db (emptied at note)) b c in
    effect_then (effect_weaken (λ image here. inl here) first) (subst Of same second)
