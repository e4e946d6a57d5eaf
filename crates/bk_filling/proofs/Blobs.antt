-- A log that comes to hold records.
use Rattle.std.proofs.Common.{◌≡◌, ◌≢◌, ◌≤◌, ◌<◌, ◌^◌, ℕ, suc, ◌+◌, ◌-◌, List, [], ◌∷◌, ◌++◌, drop, length, length-append, Option, Some, None, refl, inl, inr, sym, ap, subst, ◌∙◌, arith, append_assoc}
use Rattle.bk_control.specs.Control.{IsControl, control_durable, control_value, Kept as KeptControl}
use Rattle.bk_control.specs.Slots.{control_of}
use Rattle.bk_bytes.specs.Codec.{◌>>=◌}
use Rattle.bk_device.specs.Compose.{effect_widen}
use Rattle.bk_device.specs.Disk.{Files, Disk, IsDurable}
use Rattle.bk_device.specs.Effects.{Effect, IsName}
use Rattle.bk_device.specs.Names.{same_or_other}
use Rattle.bk_gate.specs.Blobs.{sealed}
use Rattle.bk_gate.specs.Gate.{IsGate, Kept as KeptGate}
use Rattle.bk_ids.specs.declared.record.Rec.{Rec}
use Rattle.bk_lemmas.specs.Tests.{equal_or_not}
use Rattle.bk_segments.specs.declared.head.Head.{Head}
use Rattle.bk_segments.specs.BatchLaws.{batch_of, whole_of}
use Rattle.bk_segments.specs.Control.{read_control, IsSound}
use Rattle.bk_segments.specs.FileLaws.{all_blobs, control_not_segment, from_same, one_segment, settled_at}
use Rattle.bk_segments.specs.Files.{control_file, segment_file, blobs_at, blobs_from, blobs_of, AreDurable, AreSettled, IsOwn, LogIs}
use Rattle.bk_segments.specs.Records.{records_in, records_of, IsPart, IsRun, Numbered}
use Rattle.bk_segments.specs.RunLaws.{one_blob, last_blob, records_append, records_begun, records_one, run_begun, run_more, run_none}
use Rattle.bk_filling.specs.Laws.{still}
use Rattle.bk_filling.specs.Records.{HasRecords, IsBegun, Kept, Spell}

-- ---- names

pub segment_effect : (db n : ℕ) (a b : Disk) → Effect (IsName (segment_file db n)) (λ _. Unit {0}) a b → Effect (IsOwn db) (λ _. Unit {0}) a b
segment_effect db n a b effect = effect_widen (λ name at. inr (n, at)) (λ image was left. tt) effect

pub any_effect : {P : Files → Type 0} (db n : ℕ) (a b : Disk) → Effect (IsName (segment_file db n)) P a b → Effect (IsOwn db) (λ _. Unit {0}) a b
any_effect db n a b effect = effect_widen (λ name at. inr (n, at)) (λ image was left. tt) effect

pub durable_more : {P : Files → Type 0} (db : ℕ) (here : List ℕ) (a b : Disk) → Effect (IsName here) P a b → IsDurable b here → AreDurable db a → AreDurable db b
durable_more db here a b effect durable are name own = elim (same_or_other here name) [
  | inl same ↦ subst (IsDurable b) (sym same) durable
  | inr other ↦ still here name a b effect other (are name own)
]

-- the same for the segments
segment_durable : {P : Files → Type 0} (db m n : ℕ) (a b : Disk) → Effect (IsName (segment_file db n)) P a b → IsDurable b (segment_file db n) → (m ≢ n → IsDurable a (segment_file db m)) → IsDurable b (segment_file db m)
segment_durable db m n a b effect durable before = elim (same_or_other (segment_file db n) (segment_file db m)) [
  | inl same ↦ subst (IsDurable b) (sym same) durable
  | inr other ↦ still (segment_file db n) (segment_file db m) a b effect other (before (λ is. other (ap (segment_file db) is)))
]

other_blobs : {P : Files → Type 0} (db m n : ℕ) (a b : Disk) → m < 2 ^ 64 → n < 2 ^ 64 → m ≢ n → Effect (IsName (segment_file db n)) P a b → blobs_at b.files db m ≡ blobs_at a.files db m
other_blobs db m n a b small less off effect = ap sealed (effect.others (segment_file db m) (λ same. off (one_segment db m n small less same)))

control_still : {P : Files → Type 0} (db n : ℕ) (a b : Disk) → Effect (IsName (segment_file db n)) P a b → a.files (control_file db) ≡ None → b.files (control_file db) ≡ None
control_still db n a b effect none = effect.others (control_file db) (control_not_segment db n) ∙ none

-- ---- the first segment, and the next one

blank_next : (f g : ℕ → List (List ℕ)) (front count : ℕ) → ((n : ℕ) → front ≤ n → n < front + count → g n ≡ f n) → g (front + count) ≡ [] ∷ [] → blobs_from g front (suc count) ≡ blobs_from f front count ++ [] ∷ []
blank_next f g front count same blank =
    let before : blobs_from g front count ≡ blobs_from f front count = from_same f g front count same in
    cc

blank_records : (f g : ℕ → List (List ℕ)) (kept back : ℕ) (records : List Rec) → ((n : ℕ) → 1 ≤ n → n < 1 + back → g n ≡ f n) → g (back + 1) ≡ [] ∷ [] → IsRun kept (blobs_from f 1 back) (kept + length records) → records_of (blobs_from f 1 back) ≡ records
    → IsRun kept (blobs_from g 1 (back + 1)) (kept + length records) × (records_of (blobs_from g 1 (back + 1)) ≡ records)
blank_records f g kept back records same blank run are =
    let next : suc back ≡ back + 1 = omega arith in
    let place : back + 1 ≡ 1 + back = omega arith in
    let all : blobs_from g 1 (back + 1) ≡ blobs_from f 1 back ++ [] ∷ [] = ap (blobs_from g 1) (sym next) ∙ blank_next f g 1 back same (ap g (sym place) ∙ blank) in
    (subst (λ (bs : List (List ℕ)). IsRun kept bs (kept + length records)) (sym all) (run_begun kept (kept + length records) (blobs_from f 1 back) run), ap records_of all ∙ records_begun (blobs_from f 1 back) ∙ are)

-- with no segment before it
pub first_begun : {P : Files → Type 0} (db kept : ℕ) (gate : KeptGate) (a b : Disk) → a.files (control_file db) ≡ None → gate.name ≡ segment_file db 1 → IsGate b gate → IsDurable b (segment_file db 1) → blobs_at b.files db 1 ≡ [] ∷ [] → Effect (IsName (segment_file db 1)) P a b
    → IsBegun b (record { db = db; kept = kept; back = 1; gate = gate })
first_begun db kept gate a b none name gates durable blank effect = record {
  name = name;
  gates = gates;
  none = control_still db 1 a b effect none;
  some = λ n low high. let is : 1 ≡ n = omega (arith, low, high) in subst (λ (k : ℕ). blobs_at b.files db k ≢ []) is (one_blob (blobs_at b.files db 1) [] blank);
  durable = λ n low high. let is : 1 ≡ n = omega (arith, low, high) in subst (λ (k : ℕ). IsDurable b (segment_file db k)) is durable;
}

pub first_records : (db kept : ℕ) (gate : KeptGate) (b : Disk) → blobs_at b.files db 1 ≡ [] ∷ [] → HasRecords b.files (record { db = db; kept = kept; back = 1; gate = gate }) []
first_records db kept gate b blank =
    let none : (n : ℕ) → List (List ℕ) = λ n. [] in
    let both = blank_records none (blobs_at b.files db) kept 0 [] (λ n low high. absurd (omega (arith, low, high))) blank (subst (λ (n : ℕ). IsRun kept [] n) (omega arith) (run_none kept)) refl in
    record { run = both.0; are = both.1 }

-- behind others
pub next_begun : {P : Files → Type 0} (log : Kept) (gate : KeptGate) (a b : Disk) → log.back + 1 ≤ 65536 → IsBegun a log → gate.name ≡ segment_file log.db (log.back + 1) → IsGate b gate → IsDurable b (segment_file log.db (log.back + 1)) → blobs_at b.files log.db (log.back + 1) ≡ [] ∷ []
    → Effect (IsName (segment_file log.db (log.back + 1))) P a b → IsBegun b (record { db = log.db; kept = log.kept; back = log.back + 1; gate = gate })
next_begun log gate a b few is name gates durable blank effect = record {
  name = name;
  gates = gates;
  none = control_still log.db (log.back + 1) a b effect is.none;
  some = λ n low high. elim (equal_or_not n (log.back + 1)) [
    | inl same ↦ subst (λ (k : ℕ). blobs_at b.files log.db k ≢ []) (sym same) (one_blob (blobs_at b.files log.db (log.back + 1)) [] blank)
    | inr other ↦ λ none. is.some n low (omega (arith, high, other)) (sym (other_blobs log.db n (log.back + 1) a b (omega (arith, high, few)) (omega (arith, few)) other effect) ∙ none)
  ];
  durable = λ n low high. segment_durable log.db n (log.back + 1) a b effect durable (λ other. is.durable n low (omega (arith, high, other)));
}

pub next_records : {P : Files → Type 0} (log : Kept) (gate : KeptGate) (records : List Rec) (a b : Disk) → log.back + 1 ≤ 65536 → blobs_at b.files log.db (log.back + 1) ≡ [] ∷ [] → Effect (IsName (segment_file log.db (log.back + 1))) P a b → HasRecords a.files log records
    → HasRecords b.files (record { db = log.db; kept = log.kept; back = log.back + 1; gate = gate }) records
next_records log gate records a b few blank effect has =
    let both = blank_records (blobs_at a.files log.db) (blobs_at b.files log.db) log.kept log.back records
    (λ n low high. other_blobs log.db n (log.back + 1) a b (omega (arith, high, few)) (omega (arith, few)) (λ is. absurd (omega (arith, high, is))) effect) blank has.run has.are in
    record { run = both.0; are = both.1 }

-- ---- one blob more in the last segment

more_blobs : (f g : ℕ → List (List ℕ)) (front count : ℕ) (blob : List ℕ) → ((n : ℕ) → front ≤ n → n < front + count → g n ≡ f n) → g (front + count) ≡ f (front + count) ++ blob ∷ [] → blobs_from g front (suc count) ≡ blobs_from f front (suc count) ++ blob ∷ []
more_blobs f g front count blob same last =
    let before : blobs_from g front count ≡ blobs_from f front count = from_same f g front count same in
    let both : blobs_from g front (suc count) ≡ blobs_from f front count ++ (f (front + count) ++ blob ∷ []) = cc in
    both ∙ sym (append_assoc (blobs_from f front count) (f (front + count)) (blob ∷ []))

last_blobs : (f g : ℕ → List (List ℕ)) (back : ℕ) (blob : List ℕ) → 1 ≤ back → ((n : ℕ) → 1 ≤ n → n < back → g n ≡ f n) → g back ≡ f back ++ blob ∷ [] → blobs_from g 1 back ≡ blobs_from f 1 back ++ blob ∷ []
last_blobs f g back blob some same last =
    let is : suc (back - 1) ≡ back = omega (arith, some) in
    let place : back ≡ 1 + (back - 1) = omega (arith, some) in
    subst (λ (k : ℕ). blobs_from g 1 k ≡ blobs_from f 1 k ++ blob ∷ []) is
    (more_blobs f g 1 (back - 1) blob (λ n low high. same n low (omega (arith, high, some))) (subst (λ (k : ℕ). g k ≡ f k ++ blob ∷ []) place last))

part_of : (from : ℕ) (bytes : List ℕ) (more : List Rec) → Spell bytes from more → IsPart from bytes (from + length more)
part_of from bytes more spell =
    let same : records_in bytes ≡ more = whole_of bytes more spell.spelled spell.are in
    record {
      batch = batch_of bytes more spell.spelled spell.are;
      numbered = subst (Numbered from) (sym same) spell.numbered;
      ends = ap (λ (rs : List Rec). from + length rs) (sym same);
    }

more_records : (f g : ℕ → List (List ℕ)) (kept back : ℕ) (bytes : List ℕ) (records more : List Rec) → blobs_from g 1 back ≡ blobs_from f 1 back ++ bytes ∷ [] → IsRun kept (blobs_from f 1 back) (kept + length records) → records_of (blobs_from f 1 back) ≡ records → Spell bytes (kept + length records) more
    → IsRun kept (blobs_from g 1 back) (kept + length (records ++ more)) × (records_of (blobs_from g 1 back) ≡ records ++ more)
more_records f g kept back bytes records more all run are spell =
    let ends : (kept + length records) + length more ≡ kept + length (records ++ more) = omega (arith, length-append records more) in
    let joined : IsRun kept (blobs_from f 1 back ++ bytes ∷ []) ((kept + length records) + length more) = run_more kept (kept + length records) ((kept + length records) + length more) (blobs_from f 1 back) bytes run (part_of (kept + length records) bytes more spell) in (
      subst (λ (n : ℕ). IsRun kept (blobs_from g 1 back) n) ends (subst (λ (bs : List (List ℕ)). IsRun kept bs ((kept + length records) + length more)) (sym all) joined),
      ap records_of all ∙ records_append (blobs_from f 1 back) (bytes ∷ []) ∙ ap (λ (rs : List Rec). rs ++ records_of (bytes ∷ [])) are ∙ ap (λ (rs : List Rec). records ++ rs) (records_one bytes ∙ whole_of bytes more spell.spelled spell.are),
    )

module _ (log : Kept) (gate : KeptGate) (bytes : List ℕ) (a b : Disk) (small : log.back ≤ 65536) (effect : Effect (IsName (segment_file log.db log.back)) (λ _. Unit {0}) a b)
    (last : blobs_at b.files log.db log.back ≡ blobs_at a.files log.db log.back ++ bytes ∷ []) where
  pub more_begun : IsBegun a log → gate.name ≡ segment_file log.db log.back → IsGate b gate → IsDurable b (segment_file log.db log.back) → IsBegun b (record { db = log.db; kept = log.kept; back = log.back; gate = gate })
  more_begun is name gates durable = record {
    name = name;
    gates = gates;
    none = control_still log.db log.back a b effect is.none;
    some = λ n low high. elim (equal_or_not n log.back) [
      | inl same ↦ subst (λ (k : ℕ). blobs_at b.files log.db k ≢ []) (sym same) (last_blob (blobs_at a.files log.db log.back) (blobs_at b.files log.db log.back) bytes last)
      | inr other ↦ λ none. is.some n low high (sym (other_blobs log.db n log.back a b (omega (arith, high, small)) (omega (arith, small)) other effect) ∙ none)
    ];
    durable = λ n low high. segment_durable log.db n log.back a b effect durable (λ other. is.durable n low high);
  }

  pub records_more : (records more : List Rec) → 1 ≤ log.back → HasRecords a.files log records → Spell bytes (log.kept + length records) more → HasRecords b.files (record { db = log.db; kept = log.kept; back = log.back; gate = gate }) (records ++ more)
  records_more records more some has spell =
      let all = last_blobs (blobs_at a.files log.db) (blobs_at b.files log.db) log.back bytes some
      (λ n low high. other_blobs log.db n log.back a b (omega (arith, high, small)) (omega (arith, small)) (λ is. absurd (omega (arith, high, is))) effect) last in
      let both = more_records (blobs_at a.files log.db) (blobs_at b.files log.db) log.kept log.back bytes records more all has.run has.are spell in
      record { run = both.0; are = both.1 }

-- ---- the control record

-- what counts then is durable
pub control_settled : (log : Kept) (control : KeptControl) (note : List ℕ) (a b : Disk) → 1 ≤ log.back → log.back ≤ 65536 → length note ≤ 32768 → IsBegun a log → Effect (IsName (control_file log.db)) (λ _. Unit {0}) a b → IsControl b control → control.name ≡ control_file log.db
    → read_control control.content ≡ Some (record { kept = log.kept; gone = 1; front = 1; back = log.back; first = log.kept }, note) → AreSettled log.db b
control_settled log control note a b some small short is effect controls name reads =
    let head : Head = record { kept = log.kept; gone = 1; front = 1; back = log.back; first = log.kept } in
    let of : control_of (b.files (control_file log.db)) ≡ Some control.content = ap (λ (n : List ℕ). control_of (b.files n)) (sym name) ∙ control_value controls in
    let sound : IsSound head note = record { gone = omega arith; front = some; back = omega (arith, small); few = omega (arith, small); kept = omega arith; short = short } in
    settled_at log.db b head (note, ap (λ (o : Option (List ℕ)). o >>= read_control) of ∙ reads, sound) (subst (IsDurable b) name (control_durable controls))
    (λ n low high. still (control_file log.db) (segment_file log.db n) a b effect (λ at. control_not_segment log.db n (sym at)) (is.durable n low (omega (arith, high))))

pub control_log : (log : Kept) (control : KeptControl) (note : List ℕ) (records : List Rec) (a b : Disk) → 1 ≤ log.back → log.back ≤ 65536 → length note ≤ 32768 → IsBegun a log → HasRecords a.files log records → log.kept + length records < 2 ^ 64
    → Effect (IsName (control_file log.db)) (λ _. Unit {0}) a b → IsControl b control → control.name ≡ control_file log.db
    → read_control control.content ≡ Some (record { kept = log.kept; gone = 1; front = 1; back = log.back; first = log.kept }, note) → LogIs b.files log.db (record { kept = log.kept; records = records; note = note })
control_log log control note records a b some small short is has room effect controls name reads =
    let head : Head = record { kept = log.kept; gone = 1; front = 1; back = log.back; first = log.kept } in
    let same : (n : ℕ) → blobs_at b.files log.db n ≡ blobs_at a.files log.db n = λ n. ap sealed (effect.others (segment_file log.db n) (λ at. control_not_segment log.db n (sym at))) in
    let count : log.back - 1 + 1 ≡ log.back = omega (arith, some) in
    let all : blobs_from (blobs_at a.files log.db) 1 log.back ≡ blobs_of b.files log.db head =
    sym (from_same (blobs_at a.files log.db) (blobs_at b.files log.db) 1 log.back (λ n low high. same n)) ∙ ap (blobs_from (blobs_at b.files log.db) 1) (sym count) ∙ all_blobs b.files log.db head some in
    let of : control_of (b.files (control_file log.db)) ≡ Some control.content = ap (λ (n : List ℕ). control_of (b.files n)) (sym name) ∙ control_value controls in
    let none : log.kept - log.kept ≡ 0 = omega arith in
    record {
      head = head;
      end = log.kept + length records;
      reads = ap (λ (o : Option (List ℕ)). o >>= read_control) of ∙ reads;
      sound = record { gone = omega arith; front = some; back = omega (arith, small); few = omega (arith, small); kept = omega arith; short = short };
      begun = λ n low high nothing. is.some n low high (sym (same n) ∙ nothing);
      run = subst (λ (bs : List (List ℕ)). IsRun log.kept bs (log.kept + length records)) all has.run;
      inside = omega arith;
      small = room;
      kept = refl;
      records = sym has.are ∙ ap records_of all ∙ ap (λ (n : ℕ). drop n (records_of (blobs_of b.files log.db head))) (sym none);
    }
