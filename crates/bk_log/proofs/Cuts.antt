-- What moving the front of a log did to the device: a control record that leaves segments out was put, and they were removed.
use Rattle.std.proofs.Common.{◌≡◌, ◌⊎◌, ◌≤◌, ◌<◌, ℕ, zero, suc, Bool, ◌+◌, ◌-◌, List, [], ◌∷◌, ◌++◌, length, take, drop, Some, None, refl, inl, inr, sym, ap, subst, ◌∙◌, arith}
use Rattle.std.specs.Prelude.{slice_get, string_bytes, OnOk, Result, Ok, Err}
use Rattle.std.proofs.lemmas.List.{drop_at, drop-drop, length-drop}
use Rattle.std.proofs.lemmas.Option.{slice_get_within}
use Rattle.bk_control.specs.Control.{IsControl, control_kept, Kept as KeptControl}
use Rattle.bk_control.specs.Slots.{control_of}
use Rattle.bk_device.specs.Calls.{ChangesNothing}
use Rattle.bk_device.specs.Compose.{effect_of_nothing, effect_then, effect_weaken, effect_widen, keeps_by_effect, durable_kept}
use Rattle.bk_device.specs.Disk.{Files, Disk, IsLawful}
use Rattle.bk_device.specs.Effects.{Effect, IsName}
use Rattle.bk_device.specs.Laws.{nothing_then}
use Rattle.bk_gate.specs.Blobs.{sealed}
use Rattle.bk_gate.specs.Laws.{gate_kept}
use Rattle.bk_ids.specs.declared.record.Rec.{Rec}
use Rattle.bk_segments.specs.declared.head.Head.{Head}
use Rattle.bk_segments.specs.declared.segments.Segment.{Segment}
use Rattle.bk_segments.specs.Control.{read_control, IsSound}
use Rattle.bk_segments.specs.Records.{records_of, IsRun}
use Rattle.bk_segments.specs.RunLaws.{records_append, run_split}
use Rattle.bk_log.specs.Log.{value_of, Kept, IsLog}
use Rattle.bk_segments.specs.Files.{control_file, segment_file, AreTidy, HasNoRest, IsOwn, IsBeside, IsNamed, BeginsAt, IsFirstAt, blobs_at, blobs_from, blobs_of, shown, cut_at, AreBegun, Holds, IsTidy, Logged, LogIs, AreDurable}
use Rattle.bk_segments.specs.FileLaws.{control_not_segment, one_segment, blobs_same, begun_same, log_is, shown_same, shown_cut}
use Rattle.bk_segments.specs.SegmentLaws.{get_dropped, blobs_split, segments_same, segments_dropped}
use Rattle.bk_log.specs.Laws.{control_there, control_is, still, segment_left}
use Rattle.bk_bytes.specs.Codec.{◌>>=◌}
use Rattle.bk_log.proofs.Makes.{Same, load_nothing, opened_value}
use Rattle.bk_log.proofs.Steps.{put_crash, put_log, put_blobs}

-- ---- segments that do not count were removed

-- a segment that counts is none of them
not_beside : {disk : Disk} (log : Kept) (n : ℕ) → IsLog disk log → log.head.front ≤ n → n ≤ log.head.back → IsBeside log.db log.head (segment_file log.db n) → ⊥
not_beside log n is low high at =
    let one : n ≡ at.0 = one_segment log.db n at.0 (omega (arith, high, is.sound.back)) (omega (arith, at.1, is.sound.back)) at.3 in
    elim at.2 [ inl below ↦ absurd (omega (arith, one, below, low)) | inr behind ↦ absurd (omega (arith, one, behind, high)) ]

-- one below the front is
beside_below : {disk : Disk} (log : Kept) (n : ℕ) (name : List ℕ) → IsLog disk log → n < log.head.front → name ≡ segment_file log.db n → IsBeside log.db log.head name
beside_below log n name is below same = (n, omega (arith, below, is.sound.front), inl below, same)

pub swept_crash : {part : List ℕ → Type 0} {P : Files → Type 0} (log : Kept) (b c : Disk) → IsLog b log → ((name : List ℕ) → part name → IsBeside log.db log.head name) → Effect part P b c
    → Effect (IsOwn log.db) (λ image. LogIs image log.db (value_of b.files log)) b c
swept_crash log b c is below effect =
    effect_widen (λ name at. let one = below name at in inr (one.0, one.3)) (λ image here left.
    still log b image log.head log.note log.control.content is refl refl refl is.inside is.sound
    (ap control_of (control_there is (image (control_file log.db)) (left (control_file log.db) (λ at. let one = below (control_file log.db) at in control_not_segment log.db one.0 one.3) (inl refl))) ∙ control_is is) is.reads
    (λ n low high. segment_left log b image n is low high (left (segment_file log.db n) (λ at. not_beside log n is low high (below (segment_file log.db n) at)) (inr (n, refl))))) effect

swept_blobs : {part : List ℕ → Type 0} {P : Files → Type 0} (log : Kept) (b c : Disk) → IsLog b log → ((name : List ℕ) → part name → IsBeside log.db log.head name) → Effect part P b c → (n : ℕ) → log.head.front ≤ n → n ≤ log.head.back → blobs_at c.files log.db n ≡ blobs_at b.files log.db n
swept_blobs log b c is below effect n low high = ap sealed (effect.others (segment_file log.db n) (λ at. not_beside log n is low high (below (segment_file log.db n) at)))

pub swept_value : {part : List ℕ → Type 0} {P : Files → Type 0} (log : Kept) (b c : Disk) → IsLog b log → ((name : List ℕ) → part name → IsBeside log.db log.head name) → Effect part P b c → value_of c.files log ≡ value_of b.files log
swept_value log b c is below effect = shown_same b.files c.files log.db log.head log.note (blobs_same b.files c.files log.db log.head is.sound.front (swept_blobs log b c is below effect))

pub swept_log : {part : List ℕ → Type 0} {P : Files → Type 0} (log : Kept) (b c : Disk) → IsLog b log → ((name : List ℕ) → part name → IsBeside log.db log.head name) → Effect part P b c → IsLog c log
swept_log log b c is below effect =
    let blobs : blobs_of c.files log.db log.head ≡ blobs_of b.files log.db log.head = blobs_same b.files c.files log.db log.head is.sound.front (swept_blobs log b c is below effect) in
    record {
      control_name = is.control_name;
      gate_name = is.gate_name;
      controls = control_kept (keeps_by_effect (λ n at there. let one = below n there in control_not_segment log.db one.0 (sym is.control_name ∙ (sym at ∙ one.3))) effect) is.controls;
      gates = gate_kept (keeps_by_effect (λ n at there. let Below : List ℕ → Type 0 = IsBeside log.db log.head in not_beside log log.head.back is is.sound.front (omega arith) (subst Below (at ∙ is.gate_name) (below n there))) effect) is.gates;
      reads = is.reads;
      sound = is.sound;
      segments = segments_same (blobs_at b.files log.db) (blobs_at c.files log.db) log.db log.head.front log.head.first log.segments is.segments (λ n low high. swept_blobs log b c is below effect n low (omega (arith, high, is.count)));
      count = is.count;
      durable = λ n low high. durable_kept {names = IsName (segment_file log.db n)} (segment_file log.db n) refl (keeps_by_effect (λ m at there. let Below : List ℕ → Type 0 = IsBeside log.db log.head in not_beside log n is low high (subst Below at (below m there))) effect) (is.durable n low high);
      begun = begun_same b.files c.files log.db log.head (swept_blobs log b c is below effect) is.begun;
      run = subst (λ (bs : List (List ℕ)). IsRun log.head.first bs log.stored) (sym blobs) is.run;
      inside = is.inside;
      small = is.small;
    }

-- ---- the front moves to a later segment

-- the head with that front and kept point
abbrev pub moved : Head → ℕ → ℕ → ℕ → Head
moved head to k first = record { kept = to; gone = head.gone; front = head.front + k; back = head.back; first = first }

-- the kept point moves into the segment of this index, among the records that are stored
pub record IsMove (log : Kept) (to k : ℕ) (s : Segment) : Type 0 where
  pub there : slice_get log.segments k ≡ Some s
  pub first : s.first ≤ to
  pub from : log.head.kept ≤ to
  pub inside : to ≤ log.stored

pub move_within : {a : Disk} (log : Kept) (to k : ℕ) (s : Segment) → IsLog a log → IsMove log to k s → log.head.front + k ≤ log.head.back
move_within log to k s is move = omega (arith, slice_get_within log.segments k s move.there, is.count)

pub moved_sound : {a : Disk} (log : Kept) (to k : ℕ) (s : Segment) → IsLog a log → IsMove log to k s → IsSound (moved log.head to k s.first) log.note
moved_sound log to k s is move =
    let sound = is.sound in
    record { gone = omega (arith, sound.gone); front = move_within log to k s is move; back = sound.back; few = sound.few; kept = move.first; short = sound.short }

moved_run : (log : Kept) (a : Disk) (to k : ℕ) (s : Segment) → IsLog a log → IsMove log to k s → IsRun s.first (blobs_of a.files log.db (moved log.head to k s.first)) log.stored
moved_run log a to k s is move =
    run_split log.head.first s.first log.stored (blobs_from (blobs_at a.files log.db) log.head.front k) (blobs_of a.files log.db (moved log.head to k s.first)) (is.segments.runs k s move.there)
    (subst (λ (bs : List (List ℕ)). IsRun log.head.first bs log.stored) (blobs_split a.files log.db k log.head (move_within log to k s is move)) is.run)

-- which shows the log without the records below the kept point
moved_shown : (log : Kept) (a : Disk) (to k : ℕ) (s : Segment) → IsLog a log → IsMove log to k s → shown a.files log.db (moved log.head to k s.first) log.note ≡ cut_at to (value_of a.files log)
moved_shown log a to k s is move =
    let before : List (List ℕ) = blobs_from (blobs_at a.files log.db) log.head.front k in
    let behind : List (List ℕ) = blobs_of a.files log.db (moved log.head to k s.first) in
    let all : List Rec = records_of (blobs_of a.files log.db log.head) in
    let both : all ≡ records_of before ++ records_of behind = ap records_of (blobs_split a.files log.db k log.head (move_within log to k s is move)) ∙ records_append before behind in
    let size : s.first ≡ log.head.first + length (records_of before) = (is.segments.runs k s move.there).ends in
    let sum : to - log.head.first ≡ length (records_of before) + (to - s.first) = omega (arith, size, move.first) in
    let cut : drop (to - s.first) (records_of behind) ≡ drop (to - log.head.first) all =
    ap (drop (to - s.first)) (sym (drop_at (records_of before) (records_of behind) (length (records_of before)) refl))
    ∙ drop-drop (to - s.first) (length (records_of before)) (records_of before ++ records_of behind)
    ∙ ap (λ (n : ℕ). drop n (records_of before ++ records_of behind)) (sym sum)
    ∙ ap (drop (to - log.head.first)) (sym both) in
    ap (λ (rs : List Rec). record { kept = to; records = rs; note = log.note }) cut ∙ shown_cut a.files log.db to log.head log.note is.sound.kept move.from

-- an image in which the control has that head
moved_is : (log : Kept) (a : Disk) (image : Files) (to k : ℕ) (s : Segment) (bytes : List ℕ) → IsLog a log → IsMove log to k s → control_of (image (control_file log.db)) ≡ Some bytes → read_control bytes ≡ Some (moved log.head to k s.first, log.note)
    → ((n : ℕ) → log.head.front ≤ n → n ≤ log.head.back → blobs_at image log.db n ≡ blobs_at a.files log.db n) → LogIs image log.db (cut_at to (value_of a.files log))
moved_is log a image to k s bytes is move control reads same =
    let head : Head = moved log.head to k s.first in
    let sound = moved_sound log to k s is move in
    let blobs : blobs_of image log.db head ≡ blobs_of a.files log.db head = blobs_same a.files image log.db head sound.front (λ n low high. same n (omega (arith, low)) high) in
    let run : IsRun s.first (blobs_of image log.db head) log.stored = subst (λ (bs : List (List ℕ)). IsRun s.first bs log.stored) (sym blobs) (moved_run log a to k s is move) in
    let begun : AreBegun (blobs_at image log.db) head = λ n low high none. is.begun n (omega (arith, low)) high (sym (same n (omega (arith, low)) high) ∙ none) in
    subst (λ (l : Logged). LogIs image log.db l) (shown_same a.files image log.db head log.note blobs ∙ moved_shown log a to k s is move)
    (log_is image log.db head log.note bytes log.stored control reads sound begun run move.inside is.small)

-- the record was put, or not
pub moved_crash : (log : Kept) (a b : Disk) (to k : ℕ) (s : Segment) (bytes : List ℕ) → IsLog a log → IsMove log to k s → read_control bytes ≡ Some (moved log.head to k s.first, log.note)
    → Effect (IsName log.control.name) (λ image. (control_of (image log.control.name) ≡ Some log.control.content) ⊎ (control_of (image log.control.name) ≡ Some bytes)) a b
    → Effect (IsOwn log.db) (λ image. LogIs image log.db (value_of a.files log) ⊎ LogIs image log.db (cut_at to (value_of a.files log))) a b
moved_crash log a b to k s bytes is move reads effect =
    let At : List ℕ → Type 0 = λ n. Effect (IsName n) (λ image. (control_of (image n) ≡ Some log.control.content) ⊎ (control_of (image n) ≡ Some bytes)) a b in
    let segments : (image : Files) → ((name : List ℕ) → (IsName (control_file log.db) name → ⊥) → IsOwn log.db name → a.may name (image name)) → (n : ℕ) → log.head.front ≤ n → n ≤ log.head.back → blobs_at image log.db n ≡ blobs_at a.files log.db n =
    λ image left n low high. segment_left log a image n is low high (left (segment_file log.db n) (λ same. control_not_segment log.db n (sym same)) (inr (n, refl))) in
    effect_widen (λ name at. inl at) (λ image here left. elim here [
      | inl old ↦ inl (still log a image log.head log.note log.control.content is refl refl refl is.inside is.sound old is.reads (segments image left))
      | inr new ↦ inr (moved_is log a image to k s bytes is move new reads (segments image left))
    ]) (subst At is.control_name effect)

-- and then the log has that head
abbrev pub moved_kept : Kept → KeptControl → ℕ → ℕ → ℕ → Kept
moved_kept log control to k first = record log { control = control; head = moved log.head to k first; segments = drop k log.segments }

pub moved_log : {P : Files → Type 0} (log : Kept) (a b : Disk) (to k : ℕ) (s : Segment) (bytes : List ℕ) (control : KeptControl) → IsLog a log → IsMove log to k s → read_control bytes ≡ Some (moved log.head to k s.first, log.note)
    → control.name ≡ log.control.name → control.content ≡ bytes → IsControl b control → Effect (IsName log.control.name) P a b → IsLog b (moved_kept log control to k s.first)
moved_log log a b to k s bytes control is move reads name content controls effect =
    let head : Head = moved log.head to k s.first in
    let sound = moved_sound log to k s is move in
    let apart : (n : ℕ) → segment_file log.db n ≡ log.control.name → ⊥ = λ n same. control_not_segment log.db n (sym (same ∙ is.control_name)) in
    record {
      control_name = name ∙ is.control_name;
      gate_name = is.gate_name;
      controls = controls;
      gates = gate_kept (keeps_by_effect (λ n at same. apart log.head.back (sym is.gate_name ∙ (sym at ∙ same))) effect) is.gates;
      reads = ap read_control content ∙ reads;
      sound = sound;
      segments = segments_same (blobs_at a.files log.db) (blobs_at b.files log.db) log.db (log.head.front + k) s.first (drop k log.segments) (segments_dropped (blobs_at a.files log.db) log.db log.head.front log.head.first k s log.segments is.segments move.there)
          (λ n low high. ap sealed (effect.others (segment_file log.db n) (apart n)));
      count = omega (arith, is.count, length-drop k log.segments, slice_get_within log.segments k s move.there);
      durable = λ n low high. durable_kept {names = IsName (segment_file log.db n)} (segment_file log.db n) refl (keeps_by_effect (λ m at same. apart n (sym at ∙ same)) effect) (is.durable n (omega (arith, low)) high);
      begun = λ n low high none. is.begun n (omega (arith, low)) high (sym (ap sealed (effect.others (segment_file log.db n) (apart n))) ∙ none);
      run = subst (λ (bs : List (List ℕ)). IsRun s.first bs log.stored) (sym (put_blobs log head a b is sound.front effect)) (moved_run log a to k s is move);
      inside = move.inside;
      small = is.small;
    }

pub moved_value : {P : Files → Type 0} (log : Kept) (a b : Disk) (to k : ℕ) (s : Segment) → IsLog a log → IsMove log to k s → Effect (IsName log.control.name) P a b → shown b.files log.db (moved log.head to k s.first) log.note ≡ cut_at to (value_of a.files log)
moved_value log a b to k s is move effect =
    shown_same a.files b.files log.db (moved log.head to k s.first) log.note (put_blobs log (moved log.head to k s.first) a b is (moved_sound log to k s is move).front effect) ∙ moved_shown log a to k s is move

-- ---- and then the segments before it were removed

get_taken : {A : Type 0} (xs : List A) (k i : ℕ) (x : A) → slice_get (take k xs) i ≡ Some x → (i < k) × (slice_get xs i ≡ Some x)
get_taken xs zero i x there = absurd cc
get_taken [] (suc k) i x there = absurd cc
get_taken (y ∷ xs) (suc k) zero x there = (omega arith, there)
get_taken (y ∷ xs) (suc k) (suc i) x there = let rest = get_taken xs k i x there in (omega (arith, rest.0), rest.1)

-- the names of those before it
named_below : {a : Disk} (log : Kept) (k : ℕ) (first : List Segment) → IsLog a log → first ≡ take k log.segments → (name : List ℕ) → IsNamed first name → (n : ℕ) × (n < log.head.front + k) × (name ≡ segment_file log.db n)
named_below log k first is same name at =
    let taken = get_taken log.segments k at.0 at.1 (sym (ap (λ (xs : List Segment). slice_get xs at.0) same) ∙ at.2) in
    (log.head.front + at.0, omega (arith, taken.0), at.3 ∙ is.segments.names at.0 at.1 taken.1)

named_beside : {a b : Disk} (log : Kept) (to k : ℕ) (s : Segment) (first : List Segment) (control : KeptControl) → IsLog a log → IsLog b (moved_kept log control to k s.first) → first ≡ take k log.segments → (name : List ℕ) → IsNamed first name → IsBeside log.db (moved log.head to k s.first) name
named_beside log to k s first control is mid same name at =
    let below = named_below log k first is same name at in
    beside_below (moved_kept log control to k s.first) below.0 name mid below.1 below.2

pub cut_second : {P : Files → Type 0} (log : Kept) (a b c : Disk) (to k : ℕ) (s : Segment) (first : List Segment) (bytes : List ℕ) (control : KeptControl) → IsLog a log → IsMove log to k s → read_control bytes ≡ Some (moved log.head to k s.first, log.note)
    → control.name ≡ log.control.name → control.content ≡ bytes → IsControl b control → first ≡ take k log.segments
    → Effect (IsName log.control.name) (λ image. (control_of (image log.control.name) ≡ Some log.control.content) ⊎ (control_of (image log.control.name) ≡ Some bytes)) a b
    → Effect (IsNamed first) P b c
    → Effect (IsOwn log.db) (λ image. LogIs image log.db (value_of a.files log) ⊎ LogIs image log.db (cut_at to (value_of a.files log))) a c
cut_second log a b c to k s first bytes control is move reads name content controls taken putting removing =
    let mid = moved_log log a b to k s bytes control is move reads name content controls putting in
    let same = moved_value log a b to k s is move putting in
    effect_then (moved_crash log a b to k s bytes is move reads putting)
    (effect_weaken (λ image here. inr (subst (λ (l : Logged). LogIs image log.db l) same here)) (swept_crash (moved_kept log control to k s.first) b c mid (named_beside log to k s first control is mid taken) removing))

pub cut_between : {P : Files → Type 0} (log : Kept) (a b c : Disk) (to k : ℕ) (s : Segment) (first : List Segment) (bytes : List ℕ) (control : KeptControl) → IsLog a log → IsMove log to k s → read_control bytes ≡ Some (moved log.head to k s.first, log.note)
    → control.name ≡ log.control.name → control.content ≡ bytes → IsControl b control → first ≡ take k log.segments
    → Effect (IsName log.control.name) (λ image. (control_of (image log.control.name) ≡ Some log.control.content) ⊎ (control_of (image log.control.name) ≡ Some bytes)) a b
    → Effect (IsNamed first) P b c
    → IsLog c (moved_kept log control to k s.first) × (value_of c.files (moved_kept log control to k s.first) ≡ cut_at to (value_of a.files log))
cut_between log a b c to k s first bytes control is move reads name content controls taken putting removing =
    let mid = moved_log log a b to k s bytes control is move reads name content controls putting in
    let below = named_beside log to k s first control is mid taken in (
      swept_log (moved_kept log control to k s.first) b c mid below removing,
      swept_value (moved_kept log control to k s.first) b c mid below removing ∙ moved_value log a b to k s is move putting,
    )

-- and then that was noted

abbrev pub cleared : Head → Head
cleared head = record { kept = head.kept; gone = head.front; front = head.front; back = head.back; first = head.first }

pub cleared_sound : {head : Head} {note : List ℕ} → IsSound head note → IsSound (cleared head) note
cleared_sound is = record { gone = omega arith; front = is.front; back = is.back; few = omega (arith, is.few, is.gone); kept = is.kept; short = is.short }

-- a log whose record is cleared
pub cleared_crash : (log : Kept) (bytes : List ℕ) (c d : Disk) → IsLog c log → read_control bytes ≡ Some (cleared log.head, log.note)
    → Effect (IsName log.control.name) (λ image. (control_of (image log.control.name) ≡ Some log.control.content) ⊎ (control_of (image log.control.name) ≡ Some bytes)) c d
    → Effect (IsOwn log.db) (λ image. LogIs image log.db (value_of c.files log)) c d
cleared_crash log bytes c d is reads effect =
    effect_weaken (λ image here. elim here [ inl old ↦ old | inr new ↦ new ])
    (put_crash log (cleared log.head) log.note bytes c d is refl refl refl is.inside (cleared_sound is.sound) reads effect)

pub cleared_value : {P : Files → Type 0} (log : Kept) (c d : Disk) → IsLog c log → Effect (IsName log.control.name) P c d → shown d.files log.db (cleared log.head) log.note ≡ value_of c.files log
cleared_value log c d is effect = shown_same c.files d.files log.db log.head log.note (put_blobs log log.head c d is is.sound.front effect)

pub cleared_log : {P : Files → Type 0} (log : Kept) (bytes : List ℕ) (c d : Disk) (control : KeptControl) (end : ℕ) (waiting : List Rec) (failed : Bool) → IsLog c log → read_control bytes ≡ Some (cleared log.head, log.note)
    → control.name ≡ log.control.name → control.content ≡ bytes → IsControl d control → Effect (IsName log.control.name) P c d
    → IsLog d (record log { control = control; head = cleared log.head; end = end; waiting = waiting; failed = failed })
cleared_log log bytes c d control end waiting failed is reads name content controls effect =
    put_log log (cleared log.head) log.note bytes c d control end waiting log.spare_bytes log.spare_flushes failed is refl refl refl is.inside (cleared_sound is.sound) name content reads controls effect

pub cut_third : {P : Files → Type 0} (log : Kept) (a b c d : Disk) (to k : ℕ) (s : Segment) (first : List Segment) (bytes again : List ℕ) (control : KeptControl) → IsLog a log → IsMove log to k s → read_control bytes ≡ Some (moved log.head to k s.first, log.note)
    → control.name ≡ log.control.name → control.content ≡ bytes → IsControl b control → first ≡ take k log.segments
    → read_control again ≡ Some (cleared (moved log.head to k s.first), log.note)
    → Effect (IsName log.control.name) (λ image. (control_of (image log.control.name) ≡ Some log.control.content) ⊎ (control_of (image log.control.name) ≡ Some bytes)) a b
    → Effect (IsNamed first) P b c
    → Effect (IsName control.name) (λ image. (control_of (image control.name) ≡ Some control.content) ⊎ (control_of (image control.name) ≡ Some again)) c d
    → Effect (IsOwn log.db) (λ image. LogIs image log.db (value_of a.files log) ⊎ LogIs image log.db (cut_at to (value_of a.files log))) a d
cut_third log a b c d to k s first bytes again control is move reads named content controls taken reads_again putting removing noting =
    let mid = cut_between log a b c to k s first bytes control is move reads named content controls taken putting removing in
    effect_then (cut_second log a b c to k s first bytes control is move reads named content controls taken putting removing)
    (effect_weaken (λ image here. inr (subst (λ (l : Logged). LogIs image log.db l) mid.1 here)) (cleared_crash (moved_kept log control to k s.first) again c d mid.0 reads_again noting))

-- the removed ones are gone
pub cut_gone : {a : Disk} {Q : Files → Type 0} (log : Kept) (c d : Disk) (k : ℕ) (first : List Segment) (name : List ℕ) → IsLog a log → name ≡ log.control.name → k ≤ length log.segments → first ≡ take k log.segments
    → ((i : ℕ) (s : Segment) → slice_get first i ≡ Some s → c.files (string_bytes s.name) ≡ None) → Effect (IsName name) Q c d
    → (n : ℕ) → log.head.front ≤ n → n < log.head.front + k → d.files (segment_file log.db n) ≡ None
cut_gone log c d k first name is named within taken gone effect n low high =
    let i : ℕ = n - log.head.front in
    let there = get_there log.segments i (omega (arith, low, high, within)) in
    let front_there : slice_get first i ≡ Some there.0 = ap (λ (xs : List Segment). slice_get xs i) taken ∙ get_take log.segments k i there.0 (omega (arith, low, high)) there.1 in
    let number : log.head.front + i ≡ n = omega (arith, low) in
    let at : string_bytes there.0.name ≡ segment_file log.db n = is.segments.names i there.0 there.1 ∙ ap (segment_file log.db) number in
    effect.others (segment_file log.db n) (λ same. control_not_segment log.db n (sym (same ∙ named ∙ is.control_name))) ∙ subst (λ (m : List ℕ). c.files m ≡ None) at (gone i there.0 front_there)
  where
    get_there : {A : Type 0} (xs : List A) (i : ℕ) → i < length xs → (x : A) × (slice_get xs i ≡ Some x)
    get_there [] i below = absurd (omega (arith, below))
    get_there (x ∷ xs) zero below = (x, refl)
    get_there (x ∷ xs) (suc i) below = get_there xs i (omega (arith, below))

    get_take : {A : Type 0} (xs : List A) (k i : ℕ) (x : A) → i < k → slice_get xs i ≡ Some x → slice_get (take k xs) i ≡ Some x
    get_take xs zero i x below there = absurd (omega (arith, below))
    get_take [] (suc k) i x below there = absurd cc
    get_take (y ∷ xs) (suc k) zero x below there = there
    get_take (y ∷ xs) (suc k) (suc i) x below there = get_take xs k i x (omega (arith, below)) there

-- ---- opening a log

-- files are one log
pub log_as : {f g : Files} {db : ℕ} (one two : Logged) → LogIs f db one → LogIs f db two → LogIs g db one → LogIs g db two
log_as {f = f} {g = g} {db = db} one two first second is =
    let both : Some (first.head, one.note) ≡ Some (second.head, two.note) = sym first.reads ∙ second.reads in
    let pair : (first.head, one.note) ≡ (second.head, two.note) = cc in
    let head : first.head ≡ second.head = ap (λ (p : Head × List ℕ). p.0) pair in
    let note : one.note ≡ two.note = ap (λ (p : Head × List ℕ). p.1) pair in
    let Reads : List ℕ → Type 0 = λ n. (control_of (g (control_file db)) >>= read_control) ≡ Some (is.head, n) in
    record {
      head = is.head;
      end = is.end;
      reads = subst Reads note is.reads;
      sound = subst (IsSound is.head) note is.sound;
      begun = is.begun;
      run = is.run;
      inside = is.inside;
      small = is.small;
      kept = second.kept ∙ ap (λ (h : Head). h.kept) (sym head) ∙ sym first.kept ∙ is.kept;
      records = second.records ∙ ap (λ (h : Head). drop (h.kept - h.first) (records_of (blobs_of f db h))) (sym head) ∙ sym first.records ∙ is.records;
    }

-- segments that don't count were removed behind the opening
pub load_then : {P : Files → Type 0} (db : ℕ) (log : Kept) (a b c : Disk) → log.db ≡ db → IsLog b log → LogIs a.files db (value_of a.files log) → AreDurable db a → ChangesNothing a b → Effect (IsBeside db log.head) P b c
    → Effect (IsOwn db) (Same db a) a c
load_then {P = P} db log a b c same_db is loaded durable call second =
    let value : value_of b.files log ≡ value_of a.files log = opened_value log a b is call in
    let Of : ℕ → Type 0 = λ d. Effect (IsBeside d log.head) P b c in
    let Own : ℕ → Type 0 = λ d. Effect (IsOwn d) (λ image. LogIs image d (value_of b.files log)) b c in
    let swept : Effect (IsOwn db) (λ image. LogIs image db (value_of b.files log)) b c = subst Own same_db (swept_crash log b c is (λ name at. at) (subst Of (sym same_db) second)) in
    effect_then (load_nothing db a b durable call) (effect_weaken (λ image here l each. log_as (value_of a.files log) l loaded each (subst (λ (x : Logged). LogIs image db x) value here)) swept)

pub load_stands : {P : Files → Type 0} (db : ℕ) (log : Kept) (a b c : Disk) → log.db ≡ db → IsLog b log → ChangesNothing a b → Effect (IsBeside db log.head) P b c → IsLog c log × (value_of c.files log ≡ value_of a.files log)
load_stands {P = P} db log a b c same_db is call second =
    let Of : ℕ → Type 0 = λ d. Effect (IsBeside d log.head) P b c in
    let here = subst Of (sym same_db) second in
    (swept_log log b c is (λ name at. at) here, swept_value log b c is (λ name at. at) here ∙ opened_value log a b is call)

-- of what the control record names
pub load_tidy : (db : ℕ) (head : Head) (a b : Files) → Holds a db head → ((n : ℕ) → head.gone ≤ n → n ≤ head.back + 1 → (n < head.front) ⊎ (head.back < n) → b (segment_file db n) ≡ None) → IsTidy a b db head
load_tidy db head a b holds tidy other held n low high where_it =
    let both : Some (head, holds.0) ≡ Some (other, held.0) = sym holds.1 ∙ held.1 in
    let pair : (head, holds.0) ≡ (other, held.0) = cc in
    let same : head ≡ other = ap (λ (p : Head × List ℕ). p.0) pair in
    let Low : Head → Type 0 = λ h. h.gone ≤ n in
    let High : Head → Type 0 = λ h. n ≤ h.back + 1 in
    tidy n (subst Low (sym same) low) (subst High (sym same) high) where_it

-- ---- which segments are left

-- no other one lies below the kept point
pub least_kept : (old new : List Segment) (to count : ℕ) → ((i n : ℕ) → count < i → BeginsAt old i n → to < n) → count ≡ 0 → new ≡ old → IsFirstAt new to
least_kept old new to count rest none same i s low there =
    rest i s.first (omega (arith, none, low)) (s, sym (ap (λ (xs : List Segment). slice_get xs i) same) ∙ there, refl)

pub least_cut : (old new : List Segment) (to count : ℕ) → ((i n : ℕ) → count < i → BeginsAt old i n → to < n) → new ≡ drop count old → IsFirstAt new to
least_cut old new to count rest same i s low there =
    rest (count + i) s.first (omega (arith, low)) (s, get_dropped old count i (count + i) s refl (sym (ap (λ (xs : List Segment). slice_get xs i) same) ∙ there), refl)

-- and the segments before its first are gone
pub gone_cut : {T E : Type 0} (r : Result T E) (Gone : ℕ → Type 0) (old front count : ℕ) → OnOk r (front ≡ old + count) → OnOk r ((n : ℕ) → old ≤ n → n < old + count → Gone n) → OnOk r ((n : ℕ) → old ≤ n → n < front → Gone n)
gone_cut (Ok x) Gone old front count same gone = λ n low high. gone n low (omega (arith, same, high))
gone_cut (Err e) Gone old front count same gone = tt

-- which files opening a log touches
pub load_touches : (db : ℕ) (head : Head) (a b c : Disk) → ChangesNothing a b → Effect (IsBeside db head) (λ _. Unit {0}) b c → Effect (IsOwn db) (λ _. Unit {0}) a c
load_touches db head a b c call effect = effect_then (effect_of_nothing (λ image mine. tt) call) (effect_widen (λ name at. inr (at.0, at.3)) (λ image here left. tt) effect)

-- opening a log behind whose segments nothing is left changes nothing
pub load_still : (db : ℕ) (head : Head) {a b c : Disk} → IsLawful a → AreTidy a.files db → Holds a.files db head → ChangesNothing a b → (HasNoRest b.files db head → ChangesNothing b c) → ChangesNothing a c
load_still db head lawful tidy holds call swept =
    let none = tidy head holds in
    nothing_then lawful call (swept (record { below = λ n low high. call.files (segment_file db n) ∙ none.below n low high; behind = call.files (segment_file db (head.back + 1)) ∙ none.behind }))
