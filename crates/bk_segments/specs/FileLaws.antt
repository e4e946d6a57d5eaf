-- The names of a log's files, and what the files show.
use Rattle.std.proofs.Common.{◌≡◌, ◌≤◌, ◌<◌, ◌^◌, ℕ, zero, suc, ◌+◌, ◌-◌, List, [], ◌∷◌, ◌++◌, length, drop, get_or, Option, Some, None, refl, inl, inr, sym, ap, subst, ◌∙◌, arith, append_assoc, add-one}
use Rattle.std.specs.Fmt.{decimal}
use Rattle.std.specs.Prelude.{codes}
use Rattle.std.proofs.lemmas.Fmt.{decimal_injective}
use Rattle.std.proofs.lemmas.List.{drop_at, drop-append-le, drop-drop}
use Rattle.bk_bytes.specs.Codec.{◌>>=◌}
use Rattle.bk_control.specs.Slots.{control_of}
use Rattle.bk_device.specs.Calls.{ChangesNothing}
use Rattle.bk_device.specs.Disk.{Files, Disk, IsDurable}
use Rattle.bk_device.specs.Effects.{MayLeaveOwn}
use Rattle.bk_gate.specs.Blobs.{sealed}
use Rattle.bk_record.specs.Rec.{Rec}
use Rattle.bk_segments.specs.declared.head.Head.{Head}
use Rattle.bk_segments.specs.Control.{read_control, IsSound}
use Rattle.bk_segments.specs.Records.{records_in, records_of, IsRun}
use Rattle.bk_segments.specs.Files.{control_file, segment_file, blobs_at, blobs_from, blobs_of, shown, cut_at, with_more, AreBegun, Logged, LogIs, IsForeign, IsOwn, AreDurable, AreTidy, AreSettled, Holds}
use Rattle.bk_segments.specs.RunLaws.{records_append, records_one}

-- ---- names

pub control_not_segment : (db n : ℕ) → control_file db ≡ segment_file db n → ⊥
control_not_segment db n same = let e : 99 ≡ 103 = ap (λ (name : List ℕ). get_or name 0 0) same in absurd (omega (arith, e))

pub one_segment : (db m n : ℕ) → m < 2 ^ 64 → n < 2 ^ 64 → segment_file db m ≡ segment_file db n → m ≡ n
one_segment db m n small less same =
    let behind : decimal db ++ (codes "-" ++ decimal m) ≡ decimal db ++ (codes "-" ++ decimal n) = ap (drop 2) same in
    let last : codes "-" ++ decimal m ≡ codes "-" ++ decimal n =
    sym (drop_at (decimal db) (codes "-" ++ decimal m) (length (decimal db)) refl) ∙ ap (drop (length (decimal db))) behind ∙ drop_at (decimal db) (codes "-" ++ decimal n) (length (decimal db)) refl in
    decimal_injective m n small less (ap (drop 1) last)

-- ---- the blobs that count

pub from_same : (one two : ℕ → List (List ℕ)) (front count : ℕ) → ((n : ℕ) → front ≤ n → n < front + count → two n ≡ one n) → blobs_from two front count ≡ blobs_from one front count
from_same one two front zero same = refl
from_same one two front (suc count) same =
    let before : blobs_from two front count ≡ blobs_from one front count = from_same one two front count (λ n low high. same n low (omega (arith, high))) in
    let here : two (front + count) ≡ one (front + count) = same (front + count) (omega arith) (omega arith) in
    cc

pub blobs_same : (f g : Files) (db : ℕ) (head : Head) → head.front ≤ head.back → ((n : ℕ) → head.front ≤ n → n ≤ head.back → blobs_at g db n ≡ blobs_at f db n) → blobs_of g db head ≡ blobs_of f db head
blobs_same f g db head order same =
    let before : blobs_from (blobs_at g db) head.front (head.back - head.front) ≡ blobs_from (blobs_at f db) head.front (head.back - head.front) =
    from_same (blobs_at f db) (blobs_at g db) head.front (head.back - head.front) (λ n low high. same n low (omega (arith, high, order))) in
    let last : blobs_at g db head.back ≡ blobs_at f db head.back = same head.back order (omega arith) in
    cc

-- one blob more in the last segment
pub blobs_more : (f g : Files) (db : ℕ) (head : Head) (blob : List ℕ) → head.front ≤ head.back → ((n : ℕ) → head.front ≤ n → n < head.back → blobs_at g db n ≡ blobs_at f db n) → blobs_at g db head.back ≡ blobs_at f db head.back ++ blob ∷ []
    → blobs_of g db head ≡ blobs_of f db head ++ blob ∷ []
blobs_more f g db head blob order same last =
    let before : blobs_from (blobs_at g db) head.front (head.back - head.front) ≡ blobs_from (blobs_at f db) head.front (head.back - head.front) =
    from_same (blobs_at f db) (blobs_at g db) head.front (head.back - head.front) (λ n low high. same n low (omega (arith, high, order))) in
    let both : blobs_of g db head ≡ blobs_from (blobs_at f db) head.front (head.back - head.front) ++ (blobs_at f db head.back ++ blob ∷ []) = cc in
    both ∙ sym (append_assoc (blobs_from (blobs_at f db) head.front (head.back - head.front)) (blobs_at f db head.back) (blob ∷ []))

-- all of them, one segment after the other
pub all_blobs : (files : Files) (db : ℕ) (head : Head) → head.front ≤ head.back → blobs_from (blobs_at files db) head.front (head.back - head.front + 1) ≡ blobs_of files db head
all_blobs files db head order =
    let last : head.front + (head.back - head.front) ≡ head.back = omega (arith, order) in
    ap (blobs_from (blobs_at files db) head.front) (add-one (head.back - head.front)) ∙ ap (λ (n : ℕ). blobs_from (blobs_at files db) head.front (head.back - head.front) ++ blobs_at files db n) last

-- segments with the same blobs are begun
pub begun_same : (f g : Files) (db : ℕ) (head : Head) → ((n : ℕ) → head.front ≤ n → n ≤ head.back → blobs_at g db n ≡ blobs_at f db n) → AreBegun (blobs_at f db) head → AreBegun (blobs_at g db) head
begun_same f g db head same begun = λ n low high none. begun n low high (sym (same n low high) ∙ none)

-- ---- what the files are

pub log_is : (files : Files) (db : ℕ) (head : Head) (note content : List ℕ) (end : ℕ) → control_of (files (control_file db)) ≡ Some content → read_control content ≡ Some (head, note) → IsSound head note
    → AreBegun (blobs_at files db) head → IsRun head.first (blobs_of files db head) end → head.kept ≤ end → end < 2 ^ 64 → LogIs files db (shown files db head note)
log_is files db head note content end control reads sound begun run inside small = record {
  head = head;
  end = end;
  reads = ap (λ (o : Option (List ℕ)). o >>= read_control) control ∙ reads;
  sound = sound;
  begun = begun;
  run = run;
  inside = inside;
  small = small;
  kept = refl;
  records = refl;
}

-- files with the same control and the same blobs in the segments that count are the same log
pub log_counted : {f g : Files} (db : ℕ) (log : Logged) → (is : LogIs f db log) → control_of (g (control_file db)) ≡ control_of (f (control_file db)) → ((n : ℕ) → is.head.front ≤ n → n ≤ is.head.back → blobs_at g db n ≡ blobs_at f db n) → LogIs g db log
log_counted {f = f} {g = g} db log is control same =
    let blobs : blobs_of g db is.head ≡ blobs_of f db is.head = blobs_same f g db is.head is.sound.front same in
    record {
      head = is.head;
      end = is.end;
      reads = ap (λ (o : Option (List ℕ)). o >>= read_control) control ∙ is.reads;
      sound = is.sound;
      begun = begun_same f g db is.head same is.begun;
      run = subst (λ (bs : List (List ℕ)). IsRun is.head.first bs is.end) (sym blobs) is.run;
      inside = is.inside;
      small = is.small;
      kept = is.kept;
      records = is.records ∙ ap (λ (bs : List (List ℕ)). drop (is.head.kept - is.head.first) (records_of bs)) (sym blobs);
    }

-- the same in all segments
pub log_same : {f g : Files} (db : ℕ) (log : Logged) → control_of (g (control_file db)) ≡ control_of (f (control_file db)) → ((n : ℕ) → blobs_at g db n ≡ blobs_at f db n) → LogIs f db log → LogIs g db log
log_same db log control same is = log_counted db log is control (λ n low high. same n)

-- the same blobs show the same log
pub shown_same : (f g : Files) (db : ℕ) (head : Head) (note : List ℕ) → blobs_of g db head ≡ blobs_of f db head → shown g db head note ≡ shown f db head note
shown_same f g db head note same = ap (λ (blobs : List (List ℕ)). record { kept = head.kept; records = drop (head.kept - head.first) (records_of blobs); note = note }) same

-- one blob more shows its records behind the others
pub shown_more : (f g : Files) (db : ℕ) (head : Head) (note blob : List ℕ) (end : ℕ) → blobs_of g db head ≡ blobs_of f db head ++ blob ∷ [] → IsRun head.first (blobs_of f db head) end → head.kept ≤ end
    → shown g db head note ≡ with_more (shown f db head note) (records_in blob)
shown_more f g db head note blob end more run inside =
    let old : List Rec = records_of (blobs_of f db head) in
    let grown : records_of (blobs_of g db head) ≡ old ++ records_in blob =
    ap records_of more ∙ records_append (blobs_of f db head) (blob ∷ []) ∙ ap (λ (rs : List Rec). old ++ rs) (records_one blob) in
    let left : drop (head.kept - head.first) (old ++ records_in blob) ≡ drop (head.kept - head.first) old ++ records_in blob =
    drop-append-le (head.kept - head.first) old (records_in blob) (omega (arith, run.ends, inside)) in
    ap (λ (rs : List Rec). record { kept = head.kept; records = drop (head.kept - head.first) rs; note = note }) grown
    ∙ ap (λ (rs : List Rec). record { kept = head.kept; records = rs; note = note }) left

-- a later kept point shows the log without the records below it
pub shown_cut : (files : Files) (db to : ℕ) (head : Head) (note : List ℕ) → head.first ≤ head.kept → head.kept ≤ to → shown files db (record head { kept = to }) note ≡ cut_at to (shown files db head note)
shown_cut files db to head note first from =
    let all : List Rec = records_of (blobs_of files db head) in
    let sum : to - head.first ≡ (head.kept - head.first) + (to - head.kept) = omega (arith, first, from) in
    let cut : drop (to - head.first) all ≡ drop (to - head.kept) (drop (head.kept - head.first) all) =
    ap (λ (n : ℕ). drop n all) sum ∙ sym (drop-drop (to - head.kept) (head.kept - head.first) all) in
    ap (λ (rs : List Rec). record { kept = to; records = rs; note = note }) cut

-- ---- what is no log

pub foreign_control : (files : Files) (db : ℕ) → control_of (files (control_file db)) ≡ None → IsForeign files db
foreign_control files db none log is =
    let nothing : (control_of (files (control_file db)) >>= read_control) ≡ None = ap (λ (o : Option (List ℕ)). o >>= read_control) none in
    let some = is.reads in
    absurd cc

-- the control holds this content, of which nothing sound is read
pub foreign_record : (files : Files) (db : ℕ) (content : List ℕ) → control_of (files (control_file db)) ≡ Some content → ((head : Head) (note : List ℕ) → read_control content ≡ Some (head, note) → IsSound head note → ⊥) → IsForeign files db
foreign_record files db content control none log is =
    none is.head log.note (sym (ap (λ (o : Option (List ℕ)). o >>= read_control) control) ∙ is.reads) is.sound

-- a log whose control holds a head and a note has them
pub one_head : (files : Files) (db : ℕ) (content : List ℕ) (head : Head) (note : List ℕ) (log : Logged) → control_of (files (control_file db)) ≡ Some content → read_control content ≡ Some (head, note) → (is : LogIs files db log) → (is.head ≡ head) × (log.note ≡ note)
one_head files db content head note log control reads is =
    let both : Some (is.head, log.note) ≡ Some (head, note) = sym is.reads ∙ ap (λ (o : Option (List ℕ)). o >>= read_control) control ∙ reads in
    let pair : (is.head, log.note) ≡ (head, note) = cc in
    (ap (λ (p : Head × List ℕ). p.0) pair, ap (λ (p : Head × List ℕ). p.1) pair)

-- the segments hold no run, or one of them no blob
pub foreign_run : (files : Files) (db : ℕ) (content : List ℕ) (head : Head) (note : List ℕ) → control_of (files (control_file db)) ≡ Some content → read_control content ≡ Some (head, note)
    → ((end : ℕ) → AreBegun (blobs_at files db) head → IsRun head.first (blobs_of files db head) end → head.kept ≤ end → end < 2 ^ 64 → ⊥) → IsForeign files db
foreign_run files db content head note control reads none log is =
    let same = (one_head files db content head note log control reads is).0 in
    let Run : Head → Type 0 = λ h. IsRun h.first (blobs_of files db h) is.end in
    let Inside : Head → Type 0 = λ h. h.kept ≤ is.end in
    let Begun : Head → Type 0 = AreBegun (blobs_at files db) in
    none is.end (subst Begun same is.begun) (subst Run same is.run) (subst Inside same is.inside) is.small

-- a run ends at one number
pub one_end : (from one two : ℕ) (blobs : List (List ℕ)) → IsRun from blobs one → IsRun from blobs two → one ≡ two
one_end from one two blobs first second = first.ends ∙ sym second.ends

-- what changes nothing shows the same
pub blobs_moved : {a b : Disk} (db n : ℕ) → ChangesNothing a b → blobs_at b.files db n ≡ blobs_at a.files db n
blobs_moved db n call = ap sealed (call.files (segment_file db n))

-- all of them, seen behind what changes nothing
pub all_moved : {a b : Disk} (db : ℕ) (head : Head) → head.front ≤ head.back → ChangesNothing a b → blobs_from (blobs_at b.files db) head.front (head.back - head.front + 1) ≡ blobs_of a.files db head
all_moved {a = a} {b = b} db head order call = all_blobs b.files db head order ∙ blobs_same a.files b.files db head order (λ n low high. blobs_moved db n call)

-- ---- what is durable

-- a log in whose files nothing is pending
pub durable_settles : (db : ℕ) (disk : Disk) → AreDurable db disk → AreSettled db disk
durable_settles db disk durable = record { control = durable (control_file db) (inl refl); counted = λ head holds n low high. durable (segment_file db n) (inr (n, refl)) }

-- a control file holds one head
pub one_held : (files : Files) (db : ℕ) (head other : Head) → Holds files db head → Holds files db other → head ≡ other
one_held files db head other here there =
    let both : ◌≡◌ {A = Option (Head × List ℕ)} (Some (head, here.0)) (Some (other, there.0)) = sym here.1 ∙ there.1 in
    let pair : ◌≡◌ {A = Head × List ℕ} (head, here.0) (other, there.0) = cc in
    ap (λ (p : Head × List ℕ). p.0) pair

-- what changes nothing leaves the head that a control file holds
pub held_before : {a b : Disk} (db : ℕ) (head : Head) → ChangesNothing a b → Holds b.files db head → Holds a.files db head
held_before db head call holds = (holds.0, ap (λ (file : Option (List ℕ)). control_of file >>= read_control) (sym (call.files (control_file db))) ∙ holds.1, holds.2)

-- what is durable of the segments that this head counts is so of those that count
pub settled_at : (db : ℕ) (disk : Disk) (head : Head) → Holds disk.files db head → IsDurable disk (control_file db) → ((n : ℕ) → head.front ≤ n → n < head.back + 1 → IsDurable disk (segment_file db n)) → AreSettled db disk
settled_at db disk head here control counted = record {
  control = control;
  counted = λ other there n low high.
      let same : head ≡ other = one_held disk.files db head other here there in
      let Low : Head → Type 0 = λ h. h.front ≤ n in
      let High : Head → Type 0 = λ h. n ≤ h.back in
      counted n (subst Low (sym same) low) (omega (arith, subst High (sym same) high));
}

-- and leaves the log
pub log_moved : {a b : Disk} (db : ℕ) (log : Logged) → ChangesNothing a b → LogIs a.files db log → LogIs b.files db log
log_moved db log call is = log_same db log (ap control_of (call.files (control_file db))) (λ n. blobs_moved db n call) is

-- files that read the same are the same log, and no less tidy
pub log_read : {f g : Files} (db : ℕ) (log : Logged) → ((name : List ℕ) → g name ≡ f name) → LogIs f db log → LogIs g db log
log_read db log same is = log_same db log (ap control_of (same (control_file db))) (λ n. ap sealed (same (segment_file db n))) is

pub tidy_read : {f g : Files} (db : ℕ) → ((name : List ℕ) → g name ≡ f name) → AreTidy f db → AreTidy g db
tidy_read db same is head holds =
    let none = is head (holds.0, ap (λ (file : Option (List ℕ)). control_of file >>= read_control) (sym (same (control_file db))) ∙ holds.1, holds.2) in
    record { below = λ n low high. same (segment_file db n) ∙ none.below n low high; behind = same (segment_file db (head.back + 1)) ∙ none.behind }

-- each crash leaves a log of which that is durable
pub log_stays : (db : ℕ) (disk : Disk) (image : Files) (log : Logged) → AreSettled db disk → MayLeaveOwn (IsOwn db) disk image → LogIs disk.files db log → LogIs image db log
log_stays db disk image log settled mine is =
    let holds : Holds disk.files db is.head = (log.note, is.reads, is.sound) in
    log_counted db log is (ap control_of (settled.control (image (control_file db)) (mine (control_file db) (inl refl))))
    (λ n low high. ap sealed (settled.counted is.head holds n low high (image (segment_file db n)) (mine (segment_file db n) (inr (n, refl)))))
