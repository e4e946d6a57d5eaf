-- What opening a log, adding to it and putting its control record did to the device.
use Rattle.std.proofs.Common.{◌≡◌, ◌⊎◌, ◌≤◌, ◌<◌, ◌^◌, ℕ, Bool, List, [], ◌∷◌, ◌++◌, length, Some, refl, inl, inr, sym, ap, subst, ◌∙◌, arith}
use Rattle.std.proofs.lemmas.List.{append-nil}
use Rattle.bk_control.specs.Control.{IsControl, control_kept, Kept as KeptControl}
use Rattle.bk_control.specs.Slots.{control_of}
use Rattle.bk_device.specs.Compose.{effect_widen, effect_none, keeps_by_effect, durable_kept}
use Rattle.bk_device.specs.Disk.{Files, Disk, IsDurable}
use Rattle.bk_device.specs.Effects.{Effect, IsName}
use Rattle.bk_device.specs.Names.{same_or_other}
use Rattle.bk_gate.specs.Blobs.{sealed}
use Rattle.bk_gate.specs.Gate.{IsGate, Kept as KeptGate}
use Rattle.bk_gate.specs.Laws.{gate_kept}
use Rattle.bk_ids.specs.declared.record.Rec.{Rec}
use Rattle.bk_lemmas.specs.Tests.{equal_or_not}
use Rattle.bk_segments.specs.declared.head.Head.{Head}
use Rattle.bk_segments.specs.Control.{read_control, IsSound}
use Rattle.bk_segments.specs.Records.{records_in, IsRun, IsPart}
use Rattle.bk_log.specs.Log.{value_of, Kept, IsLog}
use Rattle.bk_segments.specs.Files.{control_file, segment_file, IsOwn, blobs_at, blobs_of, shown, with_more, AreBegun, AreSegments, Logged, LogIs}
use Rattle.bk_segments.specs.FileLaws.{control_not_segment, one_segment, blobs_same, blobs_more, log_is, shown_more}
use Rattle.bk_segments.specs.RunLaws.{run_more, last_blob}
use Rattle.bk_segments.specs.SegmentLaws.{segments_same}
use Rattle.bk_log.specs.Laws.{control_there, control_is, still, segment_left, log_left}

-- ---- putting the control record

-- the record was put, or not
pub put_crash : (log : Kept) (head : Head) (note bytes : List ℕ) (a b : Disk) → IsLog a log → head.front ≡ log.head.front → head.back ≡ log.head.back → head.first ≡ log.head.first → head.kept ≤ log.stored → IsSound head note → read_control bytes ≡ Some (head, note)
    → Effect (IsName log.control.name) (λ image. (control_of (image log.control.name) ≡ Some log.control.content) ⊎ (control_of (image log.control.name) ≡ Some bytes)) a b
    → Effect (IsOwn log.db) (λ image. LogIs image log.db (value_of a.files log) ⊎ LogIs image log.db (shown a.files log.db head note)) a b
put_crash log head note bytes a b is front back first inside sound reads effect =
    let At : List ℕ → Type 0 = λ n. Effect (IsName n) (λ image. (control_of (image n) ≡ Some log.control.content) ⊎ (control_of (image n) ≡ Some bytes)) a b in
    let segments : (image : Files) → ((name : List ℕ) → (IsName (control_file log.db) name → ⊥) → IsOwn log.db name → a.may name (image name)) → (n : ℕ) → log.head.front ≤ n → n ≤ log.head.back → blobs_at image log.db n ≡ blobs_at a.files log.db n =
    λ image left n low high. segment_left log a image n is low high (left (segment_file log.db n) (λ same. control_not_segment log.db n (sym same)) (inr (n, refl))) in
    effect_widen (λ name at. inl at) (λ image here left. elim here [
      | inl old ↦ inl (still log a image log.head log.note log.control.content is refl refl refl is.inside is.sound old is.reads (segments image left))
      | inr new ↦ inr (still log a image head note bytes is front back first inside sound new reads (segments image left))
    ]) (subst At is.control_name effect)

-- the segments are as they were
pub put_blobs : {P : Files → Type 0} (log : Kept) (head : Head) (a b : Disk) → IsLog a log → head.front ≤ head.back → Effect (IsName log.control.name) P a b → blobs_of b.files log.db head ≡ blobs_of a.files log.db head
put_blobs log head a b is order effect =
    blobs_same a.files b.files log.db head order (λ n low high. ap sealed (effect.others (segment_file log.db n) (λ same. control_not_segment log.db n (sym (same ∙ is.control_name)))))

-- and the log stands with the record
pub put_log : {P : Files → Type 0} (log : Kept) (head : Head) (note bytes : List ℕ) (a b : Disk) (control : KeptControl) (end : ℕ) (waiting : List Rec) (spare_bytes spare_flushes : ℕ) (failed : Bool) → IsLog a log → head.front ≡ log.head.front → head.back ≡ log.head.back → head.first ≡ log.head.first → head.kept ≤ log.stored → IsSound head note
    → control.name ≡ log.control.name → control.content ≡ bytes → read_control bytes ≡ Some (head, note) → IsControl b control → Effect (IsName log.control.name) P a b
    → IsLog b (record { db = log.db; control = control; gate = log.gate; head = head; segments = log.segments; note = note; stored = log.stored; end = end; waiting = waiting; spare_bytes = spare_bytes; spare_flushes = spare_flushes; failed = failed })
put_log log head note bytes a b control end waiting spare_bytes spare_flushes failed is front back first inside sound name content reads controls effect =
    let apart : (n : ℕ) → segment_file log.db n ≡ log.control.name → ⊥ = λ n same. control_not_segment log.db n (sym (same ∙ is.control_name)) in
    let Run : ℕ → ℕ → ℕ → Type 0 = λ f r k. IsRun k (blobs_of b.files log.db (record { kept = head.kept; gone = head.gone; front = f; back = r; first = k })) log.stored in
    let there : Run log.head.front log.head.back log.head.first = subst (λ (bs : List (List ℕ)). IsRun log.head.first bs log.stored) (sym (put_blobs log log.head a b is is.sound.front effect)) is.run in
    record {
      control_name = name ∙ is.control_name;
      gate_name = is.gate_name ∙ ap (segment_file log.db) (sym back);
      controls = controls;
      gates = gate_kept (keeps_by_effect (λ n at same. apart log.head.back (sym is.gate_name ∙ (sym at ∙ same))) effect) is.gates;
      reads = ap read_control content ∙ reads;
      sound = sound;
      segments = segments_as log head is front first (segments_same (blobs_at a.files log.db) (blobs_at b.files log.db) log.db log.head.front log.head.first log.segments is.segments (λ n low high. ap sealed (effect.others (segment_file log.db n) (apart n))));
      count = omega (arith, is.count, front, back);
      durable = λ n low high. durable_kept {names = IsName (segment_file log.db n)} (segment_file log.db n) refl (keeps_by_effect (λ m at same. apart n (sym at ∙ same)) effect) (is.durable n (omega (arith, low, front)) (omega (arith, high, back)));
      begun = λ n low high none. is.begun n (omega (arith, low, front)) (omega (arith, high, back)) (sym (ap sealed (effect.others (segment_file log.db n) (apart n))) ∙ none);
      run = subst (λ (k : ℕ). Run head.front head.back k) (sym first) (subst (λ (r : ℕ). Run head.front r log.head.first) (sym back) (subst (λ (f : ℕ). Run f log.head.back log.head.first) (sym front) there));
      inside = inside;
      small = is.small;
    }
  where
    segments_as : {blobs : ℕ → List (List ℕ)} {disk : Disk} (log : Kept) (head : Head) → IsLog disk log → head.front ≡ log.head.front → head.first ≡ log.head.first → AreSegments blobs log.db log.head.front log.head.first log.segments → AreSegments blobs log.db head.front head.first log.segments
    segments_as {blobs = blobs} log head is front first are =
        subst (λ (f : ℕ). AreSegments blobs log.db f head.first log.segments) (sym front) (subst (λ (k : ℕ). AreSegments blobs log.db log.head.front k log.segments) (sym first) are)

-- another note is sound, and a later kept point

pub noted : {head : Head} {note more : List ℕ} → IsSound head note → length more ≤ 32768 → IsSound head more
noted is short = record { gone = is.gone; front = is.front; back = is.back; few = is.few; kept = is.kept; short = short }

pub cut_sound : {head : Head} {note : List ℕ} {to : ℕ} → IsSound head note → head.kept ≤ to → IsSound (record head { kept = to }) note
cut_sound is from = record { gone = is.gone; front = is.front; back = is.back; few = is.few; kept = omega (arith, is.kept, from); short = is.short }

-- ---- adding a blob

last_or_before : (n back : ℕ) → n ≤ back → (n ≡ back) ⊎ (n < back)
last_or_before n back within = elim (equal_or_not n back) [ inl same ↦ inl same | inr differ ↦ inr (omega (arith, within, differ)) ]

-- the segments are begun still
added_begun : (a b : Files) (db : ℕ) (head : Head) (blob : List ℕ) → AreBegun (blobs_at a db) head → ((n : ℕ) → head.front ≤ n → n < head.back → blobs_at b db n ≡ blobs_at a db n) → blobs_at b db head.back ≡ blobs_at a db head.back ++ blob ∷ [] → AreBegun (blobs_at b db) head
added_begun a b db head blob begun before last n low high none = elim (last_or_before n head.back high) [
  | inl at ↦ last_blob (blobs_at a db head.back) (blobs_at b db head.back) blob last (ap (blobs_at b db) (sym at) ∙ none)
  | inr less ↦ begun n low high (sym (before n low less) ∙ none)
]

-- the blob was added, or not
pub add_crash : (log : Kept) (name blob : List ℕ) (end : ℕ) (a b : Disk) → IsLog a log → IsPart log.stored blob end → end < 2 ^ 64 → name ≡ log.gate.name
    → Effect (IsName name) (λ image. (sealed (image name) ≡ sealed (a.files name)) ⊎ (sealed (image name) ≡ sealed (a.files name) ++ blob ∷ [])) a b
    → Effect (IsOwn log.db) (λ image. LogIs image log.db (value_of a.files log) ⊎ LogIs image log.db (with_more (value_of a.files log) (records_in blob))) a b
add_crash log name blob end a b is part small named effect =
    let last : List ℕ = segment_file log.db log.head.back in
    let At : List ℕ → Type 0 = λ n. Effect (IsName n) (λ image. (sealed (image n) ≡ sealed (a.files n)) ⊎ (sealed (image n) ≡ sealed (a.files n) ++ blob ∷ [])) a b in
    let control : (image : Files) → ((n : List ℕ) → (IsName last n → ⊥) → IsOwn log.db n → a.may n (image n)) → control_of (image (control_file log.db)) ≡ Some log.control.content =
    λ image left. ap control_of (control_there is (image (control_file log.db)) (left (control_file log.db) (control_not_segment log.db log.head.back) (inl refl))) ∙ control_is is in
    let before : (image : Files) → ((n : List ℕ) → (IsName last n → ⊥) → IsOwn log.db n → a.may n (image n)) → (n : ℕ) → log.head.front ≤ n → n < log.head.back → blobs_at image log.db n ≡ blobs_at a.files log.db n =
    λ image left n low high. segment_left log a image n is low (omega (arith, high)) (left (segment_file log.db n) (λ same. below log n is high same) (inr (n, refl))) in
    effect_widen (λ n at. inr (log.head.back, at)) (λ image here left. elim here [
      | inl old ↦ inl (still log a image log.head log.note log.control.content is refl refl refl is.inside is.sound (control image left) is.reads
          (λ n low high. elim (last_or_before n log.head.back high) [ inl at ↦ subst (λ (m : ℕ). blobs_at image log.db m ≡ blobs_at a.files log.db m) (sym at) old | inr less ↦ before image left n low less ]))
      | inr new ↦ inr (grown log a image blob end is part small (control image left) (added_begun a.files image log.db log.head blob is.begun (before image left) new) (blobs_more a.files image log.db log.head blob is.sound.front (before image left) new))
    ]) (subst At (named ∙ is.gate_name) effect)
  where
    below : {disk : Disk} (log : Kept) (n : ℕ) → IsLog disk log → n < log.head.back → segment_file log.db n ≡ segment_file log.db log.head.back → ⊥
    below log n is less same =
        let one : n ≡ log.head.back = one_segment log.db n log.head.back (omega (arith, less, is.sound.back)) (omega (arith, is.sound.back)) same in
        absurd (omega (arith, less, one))

    grown : (log : Kept) (a : Disk) (image : Files) (blob : List ℕ) (end : ℕ) → IsLog a log → IsPart log.stored blob end → end < 2 ^ 64 → control_of (image (control_file log.db)) ≡ Some log.control.content → AreBegun (blobs_at image log.db) log.head → blobs_of image log.db log.head ≡ blobs_of a.files log.db log.head ++ blob ∷ []
        → LogIs image log.db (with_more (value_of a.files log) (records_in blob))
    grown log a image blob end is part small control begun more =
        let run : IsRun log.head.first (blobs_of image log.db log.head) end = subst (λ (bs : List (List ℕ)). IsRun log.head.first bs end) (sym more) (run_more log.head.first log.stored end (blobs_of a.files log.db log.head) blob is.run part) in
        subst (λ (l : Logged). LogIs image log.db l) (shown_more a.files image log.db log.head log.note blob log.stored more is.run is.inside)
        (log_is image log.db log.head log.note log.control.content end control is.reads is.sound begun run (omega (arith, is.inside, part.ends)) small)

-- all blobs, and one more
pub add_blobs : {P : Files → Type 0} (log : Kept) (name blob : List ℕ) (a b : Disk) → IsLog a log → name ≡ log.gate.name → sealed (b.files name) ≡ sealed (a.files name) ++ blob ∷ [] → Effect (IsName name) P a b
    → blobs_of b.files log.db log.head ≡ blobs_of a.files log.db log.head ++ blob ∷ []
add_blobs log name blob a b is named grown effect =
    let Grown : List ℕ → Type 0 = λ n. sealed (b.files n) ≡ sealed (a.files n) ++ blob ∷ [] in
    blobs_more a.files b.files log.db log.head blob is.sound.front
    (λ n low high. ap sealed (effect.others (segment_file log.db n) (λ same. lower log name n is named high same)))
    (subst Grown (named ∙ is.gate_name) grown)
  where
    lower : {disk : Disk} (log : Kept) (name : List ℕ) (n : ℕ) → IsLog disk log → name ≡ log.gate.name → n < log.head.back → segment_file log.db n ≡ name → ⊥
    lower log name n is named less same =
        let one : n ≡ log.head.back = one_segment log.db n log.head.back (omega (arith, less, is.sound.back)) (omega (arith, is.sound.back)) (same ∙ (named ∙ is.gate_name)) in
        absurd (omega (arith, less, one))

pub add_value : {P : Files → Type 0} (log : Kept) (name blob : List ℕ) (a b : Disk) → IsLog a log → name ≡ log.gate.name → sealed (b.files name) ≡ sealed (a.files name) ++ blob ∷ [] → Effect (IsName name) P a b
    → shown b.files log.db log.head log.note ≡ with_more (value_of a.files log) (records_in blob)
add_value log name blob a b is named grown effect =
    shown_more a.files b.files log.db log.head log.note blob log.stored (add_blobs log name blob a b is named grown effect) is.run is.inside

-- and the log stands with it
pub add_log : {P : Files → Type 0} (log : Kept) (name blob : List ℕ) (end : ℕ) (a b : Disk) (gate : KeptGate) (later : ℕ) (waiting : List Rec) (spare_bytes spare_flushes : ℕ) (failed : Bool) → IsLog a log → IsPart log.stored blob end → end < 2 ^ 64 → name ≡ log.gate.name → gate.name ≡ name
    → sealed (b.files name) ≡ sealed (a.files name) ++ blob ∷ [] → IsGate b gate → IsDurable b name → Effect (IsName name) P a b
    → IsLog b (record { db = log.db; control = log.control; gate = gate; head = log.head; segments = log.segments; note = log.note; stored = end; end = later; waiting = waiting; spare_bytes = spare_bytes; spare_flushes = spare_flushes; failed = failed })
add_log log name blob end a b gate later waiting spare_bytes spare_flushes failed is part small named new_name grown gates durable effect =
    let at_last : name ≡ segment_file log.db log.head.back = named ∙ is.gate_name in
    let Durable : List ℕ → Type 0 = λ n. IsDurable b n in
    let before : (n : ℕ) → n < log.head.back → segment_file log.db n ≡ name → ⊥ = λ n less same.
    let one : n ≡ log.head.back = one_segment log.db n log.head.back (omega (arith, less, is.sound.back)) (omega (arith, is.sound.back)) (same ∙ at_last) in
    absurd (omega (arith, less, one)) in
    let each : (n : ℕ) → log.head.front ≤ n → n ≤ log.head.back → IsDurable b (segment_file log.db n) = λ n low high. elim (same_or_other name (segment_file log.db n)) [
      | inl same ↦ subst Durable (sym same) durable
      | inr other ↦ durable_kept {names = IsName (segment_file log.db n)} (segment_file log.db n) refl (keeps_by_effect (λ m at same. other (sym at ∙ same)) effect) (is.durable n low high)
    ] in
    record {
      control_name = is.control_name;
      gate_name = new_name ∙ at_last;
      controls = control_kept (keeps_by_effect (λ m at same. control_not_segment log.db log.head.back (sym is.control_name ∙ (sym at ∙ (same ∙ at_last)))) effect) is.controls;
      gates = gates;
      reads = is.reads;
      sound = is.sound;
      segments = segments_same (blobs_at a.files log.db) (blobs_at b.files log.db) log.db log.head.front log.head.first log.segments is.segments (λ n low high. ap sealed (effect.others (segment_file log.db n) (before n (omega (arith, high, is.count)))));
      count = is.count;
      durable = each;
      begun = added_begun a.files b.files log.db log.head blob is.begun (λ n low high. ap sealed (effect.others (segment_file log.db n) (before n high))) (subst (λ (m : List ℕ). sealed (b.files m) ≡ sealed (a.files m) ++ blob ∷ []) at_last grown);
      run = subst (λ (bs : List (List ℕ)). IsRun log.head.first bs end) (sym (add_blobs log name blob a b is named grown effect)) (run_more log.head.first log.stored end (blobs_of a.files log.db log.head) blob is.run part);
      inside = omega (arith, is.inside, part.ends);
      small = small;
    }

-- nothing waits, so nothing is added
pub nothing_added : (log : Logged) (waiting : List Rec) → waiting ≡ [] → log ≡ with_more log waiting
nothing_added log waiting none = ap (λ (rs : List Rec). record log { records = rs }) (sym (append-nil log.records)) ∙ ap (with_more log) (sym none)

pub none_added : (from to : ℕ) (blob : List ℕ) → IsPart from blob to → to ≡ from → records_in blob ≡ []
none_added from to blob part same = empty (records_in blob) (omega (arith, part.ends, same))
  where
    empty : (rs : List Rec) → length rs ≡ 0 → rs ≡ []
    empty [] e = refl
    empty (r ∷ rs) e = absurd (omega (arith, e))

pub none_waits : (from to : ℕ) (blob : List ℕ) → IsPart from blob to → records_in blob ≡ [] → to ≡ from
none_waits from to blob part none = omega (arith, part.ends, ap (λ (rs : List Rec). length rs) none)

-- ---- nothing was done

pub none_crash : {Q : Files → Type 0} (log : Kept) (a : Disk) → IsLog a log → Effect (IsOwn log.db) (λ image. LogIs image log.db (value_of a.files log) ⊎ Q image) a a
none_crash log a is = effect_none a (λ image mine. inl (log_left image is mine))

pub stay_crash : (log : Kept) (a : Disk) → IsLog a log → Effect (IsOwn log.db) (λ image. LogIs image log.db (value_of a.files log)) a a
stay_crash log a is = effect_none a (λ image mine. log_left image is mine)
