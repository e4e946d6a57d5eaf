-- What the front of a gate file says of its sealed blobs.
use Rattle.std.proofs.Common.{◌≡◌, ◌≢◌, ◌⊎◌, ◌<◌, ◌≤◌, ◌^◌, ℕ, zero, suc, ◌+◌, ◌-◌, max, Bool, true, false, ◌&&◌, List, [], ◌∷◌, ◌++◌, length, map, take, drop, get_or, Option, Some, None, refl, inl, inr, sym, ◌∙◌, ap, arith, lit<, length-append, length-take, add-zero, append_assoc}
use Rattle.std.specs.Prelude.{◌==◌, nat_le, slice_index, slice_get, set, if◌then◌else◌}
use Rattle.std.specs.Option.{option_map_or}
use Rattle.std.specs.Str.{bytes_eq}
use Rattle.std.proofs.lemmas.Bool.{eqb-true, leb-true, le-leb, and_parts, and_from}
use Rattle.std.proofs.lemmas.Slice.Eq.{bytes_eq-Decides}
use Rattle.std.proofs.lemmas.Grind.{common_steps, take-set_at}
use Rattle.std.proofs.lemmas.List.{get_or-take, get_or-drop, take-take, drop-take, drop-drop, map-append, take-append-drop, take_at, drop_at}
use Rattle.bk_device.specs.Calls.{read_at, written, IsTorn}
use Rattle.bk_device.specs.Names.{true_or_false}
use Rattle.bk_device.specs.Torn.{take-torn, length-torn, read_at-torn, torn-written, read_at-written, read_at-written_other, written-length, same_byte}
use Rattle.bk_lemmas.specs.Tests.{equal_or_not, test_false}
use Rattle.bk_lemmas.specs.Numbers.{number-reads_back, length-number_bytes, number, number_bytes}
use Rattle.bk_gate.specs.Blobs.{magic, blob_at, spans_from, spans_of, part_of, IsGateFile, is_gate_file, blobs_in}
use Rattle.bk_gate.specs.Gate.{Lies, Stands, IsPrepared, IsLaid, IfThere}

-- tests

some_is : {A : Type 0} (x y : A) → Some x ≡ Some y → x ≡ y
some_is x y is = cc

-- a blob

size_at : List ℕ → ℕ → ℕ
size_at file gate = number (read_at file (gate + 1) 8)

pub no_blob : (file : List ℕ) (gate : ℕ) → slice_index file gate ≢ 1 → blob_at file gate ≡ None
unfolding blob_at
no_blob file gate differ =
    let test : (get_or file gate 0 == 1) ≡ false = test_false _ 1 differ in
    rw test refl

pub short_blob : (file : List ℕ) (gate : ℕ) → length file < gate + 9 → blob_at file gate ≡ None
unfolding blob_at
short_blob file gate less =
    elim (true_or_false (get_or file gate 0 == 1)) [
      | inl is_open ↦
          let test : nat_le (gate + 9 + number (read_at file (gate + 1) 8)) (length file) ≡ false = beyond (gate + 9 + number (read_at file (gate + 1) 8)) (length file) (omega arith) in
          rw (is_open, test) refl
      | inr is_shut ↦ rw is_shut refl
    ]
  where
    beyond : (m n : ℕ) → n < m → nat_le m n ≡ false
    beyond m n more = grind (arith, common_steps)

pub is_blob : (file : List ℕ) (gate size : ℕ) → slice_index file gate ≡ 1 → number (read_at file (gate + 1) 8) ≡ size → gate + 9 + size ≤ length file → blob_at file gate ≡ Some size
unfolding blob_at
is_blob file gate size open_ is inside =
    let test : nat_le (gate + 9 + size) (length file) ≡ true = within (gate + 9 + size) (length file) inside in
    rw (open_, is, test) refl
  where
    within : (m n : ℕ) → m ≤ n → nat_le m n ≡ true
    within m n less = grind (arith, common_steps)

-- what a blob is, from the definition
pub of_blob : (file : List ℕ) (gate size : ℕ) → blob_at file gate ≡ Some size → (slice_index file gate ≡ 1) × (number (read_at file (gate + 1) 8) ≡ size) × (gate + 9 + size ≤ length file)
unfolding blob_at
of_blob file gate size is = go (get_or file gate 0 == 1) refl (nat_le (gate + 9 + number (read_at file (gate + 1) 8)) (length file)) refl is
  where
    go : (a : Bool) → (get_or file gate 0 == 1) ≡ a → (b : Bool) → nat_le (gate + 9 + number (read_at file (gate + 1) 8)) (length file) ≡ b → (if a && b then Some (number (read_at file (gate + 1) 8)) else None) ≡ Some size → (slice_index file gate ≡ 1) × (number (read_at file (gate + 1) 8) ≡ size) × (gate + 9 + size ≤ length file)
    go true one true fits is =
        let size_is : number (read_at file (gate + 1) 8) ≡ size = cc in
        let inside : gate + 9 + number (read_at file (gate + 1) 8) ≤ length file = leb-true _ _ fits in
        (eqb-true _ 1 one, size_is, omega (arith, inside, size_is))
    go true one false fits is = absurd (cc)
    go false one b fits is = absurd (cc)

-- where blobs lie

pub lies_within : (file : List ℕ) (gate : ℕ) (spans : List (ℕ × ℕ)) (end : ℕ) → gate ≤ length file → Lies file gate spans end → (gate ≤ end) × (end ≤ length file)
lies_within file gate [] end inside lies = (omega (arith, lies), omega (arith, lies))
lies_within file gate (span ∷ spans) end inside lies =
    let blob = of_blob file gate span.1 lies.1 in
    let rest = lies_within file (gate + 9 + span.1) spans end blob.2 lies.2 in
    (omega (arith, rest.0), rest.1)

-- the recursion finds them
pub lies_spans : (file : List ℕ) (most gate : ℕ) (spans : List (ℕ × ℕ)) (end : ℕ) → length file < most + gate → Lies file gate spans end → blob_at file end ≡ None → spans_from most gate file ≡ spans
lies_spans file zero gate [] end enough lies ends = refl
lies_spans file (suc most) gate [] end enough lies ends =
    let here : blob_at file gate ≡ None = ap (blob_at file) lies ∙ ends in
    rw here refl
lies_spans file zero gate (span ∷ spans) end enough lies ends =
    let blob = of_blob file gate span.1 lies.1 in
    absurd (omega (arith, blob.2, enough))
lies_spans file (suc most) gate (span ∷ spans) end enough lies ends =
    let blob = of_blob file gate span.1 lies.1 in
    let rest : spans_from most (gate + 9 + span.1) file ≡ spans = lies_spans file most (gate + 9 + span.1) spans end (omega (arith, enough)) lies.2 ends in
    let first : (gate + 9, span.1) ≡ span = ap (λ (p : ℕ). let s : ℕ × ℕ = (p, span.1) in s) (sym lies.0) in
    rw (lies.1, rest) (ap (λ (s : ℕ × ℕ). s ∷ spans) first)

-- and the one behind those next
pub lies_next : (file : List ℕ) (most gate : ℕ) (spans : List (ℕ × ℕ)) (end size : ℕ) → length file < most + gate → Lies file gate spans end → blob_at file end ≡ Some size → (rest : List (ℕ × ℕ)) × (spans_from most gate file ≡ spans ++ (end + 9, size) ∷ rest)
lies_next file zero gate [] end size enough lies blob = absurd (omega (arith, (of_blob file end size blob).2, lies, enough))
lies_next file (suc most) gate [] end size enough lies blob =
    let here : blob_at file gate ≡ Some size = ap (blob_at file) lies ∙ blob in
    let place : gate + 9 ≡ end + 9 = ap (λ (n : ℕ). n + 9) lies in
    (spans_from most (gate + 9 + size) file, rw here (ap (λ (n : ℕ). let s : ℕ × ℕ = (n, size) in s ∷ spans_from most (gate + 9 + size) file) place))
lies_next file zero gate (span ∷ spans) end size enough lies blob =
    let first = of_blob file gate span.1 lies.1 in
    absurd (omega (arith, first.2, enough))
lies_next file (suc most) gate (span ∷ spans) end size enough lies blob =
    let rest = lies_next file most (gate + 9 + span.1) spans end size (omega (arith, enough)) lies.2 blob in
    let first : (gate + 9, span.1) ≡ span = ap (λ (p : ℕ). let s : ℕ × ℕ = (p, span.1) in s) (sym lies.0) in
    (rest.0, rw (lies.1, rest.1) (ap (λ (s : ℕ × ℕ). s ∷ spans ++ (end + 9, size) ∷ rest.0) first))

pub stands_spans : (spans : List (ℕ × ℕ)) (end : ℕ) (file : List ℕ) → Stands spans end file → spans_of file ≡ spans
unfolding spans_of
stands_spans spans end file stands = lies_spans file (length file) 16 spans end (omega arith) stands.lies stands.ends

-- one more blob behind them
pub lies_more : (file : List ℕ) (gate : ℕ) (spans : List (ℕ × ℕ)) (end size : ℕ) → Lies file gate spans end → blob_at file end ≡ Some size → Lies file gate (spans ++ (end + 9, size) ∷ []) (end + 9 + size)
lies_more file gate [] end size lies blob =
    let same : gate ≡ end = lies in
    let here : blob_at file gate ≡ Some size = ap (blob_at file) same ∙ blob in
    let start : end + 9 ≡ gate + 9 = omega (arith, same) in
    let after : gate + 9 + size ≡ end + 9 + size = omega (arith, same) in
    (start, here, after)
lies_more file gate (span ∷ spans) end size lies blob = (lies.0, lies.1, lies_more file (gate + 9 + span.1) spans end size lies.2 blob)

-- files with the same front

front_byte : (end k : ℕ) (one two : List ℕ) → take end two ≡ take end one → k < end → get_or two k 0 ≡ get_or one k 0
front_byte end k one two same below =
    sym (get_or-take end two k 0 below) ∙ ap (λ (f : List ℕ). get_or f k 0) same ∙ get_or-take end one k 0 below

pub front_part : (end at n : ℕ) (one two : List ℕ) → take end two ≡ take end one → at + n ≤ end → read_at two at n ≡ read_at one at n
front_part end at n one two same inside =
    let split : end ≡ at + (end - at) = omega arith in
    sym (cut end at n two inside) ∙ ap (λ (f : List ℕ). take n (drop at f)) same ∙ cut end at n one inside
  where
    cut : (end at n : ℕ) (file : List ℕ) → at + n ≤ end → take n (drop at (take end file)) ≡ read_at file at n
    cut end at n file inside =
        let split : end ≡ at + (end - at) = omega arith in
        ap (λ (m : ℕ). take n (drop at (take m file))) split
        ∙ ap (take n) (drop-take at (end - at) file)
        ∙ take-take n (end - at) (drop at file) (omega arith)

-- a blob that ends within the front
front_blob : (end gate size : ℕ) (one two : List ℕ) → take end two ≡ take end one → end ≤ length two → gate + 9 + size ≤ end → blob_at one gate ≡ Some size → blob_at two gate ≡ Some size
front_blob end gate size one two same inside within blob =
    let is = of_blob one gate size blob in
    is_blob two gate size
    (front_byte end gate one two same (omega arith) ∙ is.0)
    (ap number (front_part end (gate + 1) 8 one two same (omega arith)) ∙ is.1)
    (omega arith)

pub front_lies : (one two : List ℕ) (gate : ℕ) (spans : List (ℕ × ℕ)) (end : ℕ) → gate ≤ length one → take end two ≡ take end one → end ≤ length two → Lies one gate spans end → Lies two gate spans end
front_lies one two gate [] end before same inside lies = lies
front_lies one two gate (span ∷ spans) end before same inside lies =
    let blob = of_blob one gate span.1 lies.1 in
    let rest = lies_within one (gate + 9 + span.1) spans end blob.2 lies.2 in
    (lies.0, front_blob end gate span.1 one two same inside rest.0 lies.1, front_lies one two (gate + 9 + span.1) spans end blob.2 same inside lies.2)

-- the same blobs
pub front_blobs : (one two : List ℕ) (gate : ℕ) (spans : List (ℕ × ℕ)) (end : ℕ) → gate ≤ length one → take end two ≡ take end one → Lies one gate spans end → map (part_of two) spans ≡ map (part_of one) spans
front_blobs one two gate [] end before same lies = refl
front_blobs one two gate (span ∷ spans) end before same lies =
    let blob = of_blob one gate span.1 lies.1 in
    let rest = lies_within one (gate + 9 + span.1) spans end blob.2 lies.2 in
    let here : span.0 + span.1 ≤ end = omega (arith, lies.0, rest.0) in
    let first : part_of two span ≡ part_of one span = front_part end span.0 span.1 one two same here in
    let others : map (part_of two) spans ≡ map (part_of one) spans = front_blobs one two (gate + 9 + span.1) spans end blob.2 same lies.2 in
    cc

front_length : (n : ℕ) (one two : List ℕ) → take n two ≡ take n one → n ≤ length one → n ≤ length two
front_length n one two same inside =
    let lengths : length (take n two) ≡ length (take n one) = ap length same in
    omega (arith, lengths, length-take n one, length-take n two)

-- the blobs of a gate file
pub gate_blobs : (file : List ℕ) → IsGateFile file → blobs_in file ≡ map (part_of file) (spans_of file)
unfolding blobs_in
gate_blobs file is =
    let test : is_gate_file file ≡ true = and_from _ _ ((bytes_eq-Decides (take 16 file) magic).1 is.0) (le-leb _ _ is.1) in
    rw test refl

-- a file that is no gate file has none
pub foreign_blobs : (file : List ℕ) → (IsGateFile file → ⊥) → blobs_in file ≡ []
unfolding blobs_in
foreign_blobs file foreign =
    elim (true_or_false (is_gate_file file)) [
      | inl is ↦ let p = and_parts (bytes_eq (take 16 file) magic) (nat_le 17 (length file)) is in absurd (foreign ((bytes_eq-Decides (take 16 file) magic).0 p.0, leb-true _ _ p.1))
      | inr other ↦ rw other refl
    ]

pub no_blobs : (file : List ℕ) → spans_of file ≡ [] → blobs_in file ≡ []
unfolding blobs_in
no_blobs file none =
    elim (true_or_false (is_gate_file file)) [
      | inl is ↦ rw (is, none) refl
      | inr other ↦ rw other refl
    ]

inside_from : (gate : ℕ) (file : List ℕ) (span : ℕ × ℕ) (rest : ℕ → List (ℕ × ℕ)) → ((size i : ℕ) → slice_get (rest size) i ≡ Some span → span.0 + span.1 ≤ length file)
    → (r : Option ℕ) → blob_at file gate ≡ r → (i : ℕ) → slice_get (option_map_or (λ size. (gate + 9, size) ∷ rest size) r []) i ≡ Some span → span.0 + span.1 ≤ length file
inside_from gate file span rest others None at i is = absurd (cc)
inside_from gate file span rest others (Some size) at zero is = omega (arith, (of_blob file gate size at).2, ap (λ (s : ℕ × ℕ). s.0 + s.1) (some_is (gate + 9, size) span is))
inside_from gate file span rest others (Some size) at (suc i) is = others size i is

-- each blob lies whole in the file
pub spans_inside : (most gate : ℕ) (file : List ℕ) (i : ℕ) (span : ℕ × ℕ) → slice_get (spans_from most gate file) i ≡ Some span → span.0 + span.1 ≤ length file
spans_inside zero gate file i span is = absurd (cc)
spans_inside (suc most) gate file i span is =
    inside_from gate file span (λ size. spans_from most (gate + 9 + size) file) (λ size j at. spans_inside most (gate + 9 + size) file j span at) (blob_at file gate) refl i is

shorter_front : (m n : ℕ) (one two : List ℕ) → m ≤ n → take n two ≡ take n one → take m two ≡ take m one
shorter_front m n one two less same = sym (take-take m n two less) ∙ ap (take m) same ∙ take-take m n one less

-- The sealed blobs are known from what stands up to a closed gate byte.
pub front_stands : (spans : List (ℕ × ℕ)) (end : ℕ) (one two : List ℕ) → Stands spans end one → end < length one → slice_index one end ≢ 1 → take (end + 1) two ≡ take (end + 1) one → Stands spans end two
front_stands spans end one two stands inside closed same =
    let from : 16 ≤ length one = omega (arith, stands.is_gate.1) in
    let reach = lies_within one 16 spans end from stands.lies in
    let whole : end + 1 ≤ length two = front_length (end + 1) one two same (omega arith) in
    let front : take end two ≡ take end one = shorter_front end (end + 1) one two (omega arith) same in
    let byte : get_or two end 0 ≡ get_or one end 0 = front_byte (end + 1) end one two same (omega arith) in
    record {
      lies = front_lies one two 16 spans end from front (omega arith) stands.lies;
      ends = no_blob two end (λ open_. closed (sym byte ∙ open_));
      is_gate = (shorter_front 16 (end + 1) one two (omega (arith, reach.0)) same ∙ stands.is_gate.0, omega (arith, reach.0));
      within = omega arith;
    }

pub front_sealed : (spans : List (ℕ × ℕ)) (end : ℕ) (one two : List ℕ) → Stands spans end one → Stands spans end two → take end two ≡ take end one → blobs_in two ≡ blobs_in one
front_sealed spans end one two stands stands2 same =
    let from : 16 ≤ length one = omega (arith, stands.is_gate.1) in
    gate_blobs two stands2.is_gate
    ∙ ap (map (part_of two)) (stands_spans spans end two stands2)
    ∙ front_blobs one two 16 spans end from same stands.lies
    ∙ ap (map (part_of one)) (sym (stands_spans spans end one stands))
    ∙ sym (gate_blobs one stands.is_gate)

-- a write behind the closed gate byte
pub behind : (end at n : ℕ) (before after : List ℕ) → end < length before → end + 1 ≤ at → IsTorn at n before after → take (end + 1) after ≡ take (end + 1) before
behind end at n before after inside past torn = take-torn (end + 1) at n before after past (omega arith) torn

-- the byte at the end

byte_front : (end : ℕ) (before after : List ℕ) → end ≤ length before → IsTorn end 1 before after → take end after ≡ take end before
byte_front end before after inside torn = take-torn end end 1 before after (omega arith) inside torn

-- Opening: the blob behind the gate byte is sealed, or nothing changed.
pub opened_stands : (spans : List (ℕ × ℕ)) (end size : ℕ) (before after : List ℕ) → Stands spans end before → IsPrepared end size before → IsTorn end 1 before after → slice_index after end ≡ 1 → Stands (spans ++ (end + 9, size) ∷ []) (end + 9 + size) after
opened_stands spans end size before after stands prepared torn one =
    let from : 16 ≤ length before = omega (arith, stands.is_gate.1) in
    let room : end + 9 + size < length before = prepared.inside in
    let reach = lies_within before 16 spans end from stands.lies in
    let lengths : length after ≡ length before = length-torn end 1 before after (omega arith) torn in
    let front : take end after ≡ take end before = byte_front end before after stands.within torn in
    let size_is : number (read_at after (end + 1) 8) ≡ size = ap number (read_at-torn (end + 1) 8 end 1 before after (omega arith) (inr (omega arith)) torn) ∙ prepared.size_is in
    let next : slice_index after (end + 9 + size) ≡ slice_index before (end + 9 + size) = torn.outside (end + 9 + size) (omega arith) (inr (omega arith)) in
    let blob : blob_at after end ≡ Some size = is_blob after end size one size_is (omega (arith, lengths)) in
    record {
      lies = lies_more after 16 spans end size (front_lies before after 16 spans end from front (omega (arith, lengths)) stands.lies) blob;
      ends = no_blob after (end + 9 + size) (λ open_. prepared.closed (sym next ∙ open_));
      is_gate = (shorter_front 16 end before after reach.0 front ∙ stands.is_gate.0, omega (arith, lengths, reach.0));
      within = omega (arith, lengths);
    }

pub opened_sealed : (spans : List (ℕ × ℕ)) (end size : ℕ) (before after : List ℕ) → Stands spans end before → IsPrepared end size before → IsTorn end 1 before after → slice_index after end ≡ 1 → blobs_in after ≡ blobs_in before ++ read_at before (end + 9) size ∷ []
opened_sealed spans end size before after stands prepared torn one =
    let from : 16 ≤ length before = omega (arith, stands.is_gate.1) in
    let room : end + 9 + size < length before = prepared.inside in
    let last : read_at after (end + 9) size ≡ read_at before (end + 9) size = read_at-torn (end + 9) size end 1 before after (omega arith) (inr (omega arith)) torn in
    let stands2 = opened_stands spans end size before after stands prepared torn one in
    let here : spans_of after ≡ spans ++ (end + 9, size) ∷ [] = stands_spans (spans ++ (end + 9, size) ∷ []) (end + 9 + size) after stands2 in
    let old : map (part_of after) spans ≡ blobs_in before =
    front_blobs before after 16 spans end from (byte_front end before after stands.within torn) stands.lies
    ∙ ap (map (part_of before)) (sym (stands_spans spans end before stands)) ∙ sym (gate_blobs before stands.is_gate) in
    gate_blobs after stands2.is_gate ∙ ap (map (part_of after)) here ∙ map-append (part_of after) spans ((end + 9, size) ∷ [])
    ∙ ap (λ (b : List (List ℕ)). b ++ read_at after (end + 9) size ∷ []) old
    ∙ ap (λ (x : List ℕ). blobs_in before ++ x ∷ []) last

-- Closing a gate byte that is missing, or 1 with no whole blob behind it, changes nothing.
pub mending : (spans : List (ℕ × ℕ)) (end : ℕ) (before after : List ℕ) → Stands spans end before → (end ≡ length before) ⊎ (end < length before) × (slice_index before end ≡ 1) → IsTorn end 1 before after → Stands spans end after
mending spans end before after stands why torn =
    let from : 16 ≤ length before = omega (arith, stands.is_gate.1) in
    let reach = lies_within before 16 spans end from stands.lies in
    let front : take end after ≡ take end before = byte_front end before after stands.within torn in
    let no_shorter : length before ≤ length after = torn.no_shorter in
    let no_longer : length after ≤ max (length before) (end + 1) = torn.no_longer in
    record {
      lies = front_lies before after 16 spans end from front (omega (arith, reach.1)) stands.lies;
      ends = elim why [
        | inl missing ↦ short_blob after end (omega (arith, missing))
        | inr open_ ↦ elim (equal_or_not (slice_index after end) 1) [
          | inl one ↦ ap (λ (f : List ℕ). blob_at f end) (same_byte end before after open_.0 torn (one ∙ sym open_.1)) ∙ stands.ends
          | inr differ ↦ no_blob after end differ
        ]
      ];
      is_gate = (shorter_front 16 end before after reach.0 front ∙ stands.is_gate.0, omega (arith, stands.is_gate.1));
      within = omega (arith, reach.1);
    }

pub mended_sealed : (spans : List (ℕ × ℕ)) (end : ℕ) (before after : List ℕ) → Stands spans end before → (end ≡ length before) ⊎ (end < length before) × (slice_index before end ≡ 1) → IsTorn end 1 before after → blobs_in after ≡ blobs_in before
mended_sealed spans end before after stands why torn =
    front_sealed spans end before after stands (mending spans end before after stands why torn) (byte_front end before after stands.within torn)

-- small steps

pub shorter : (end : ℕ) (one two : List ℕ) → take (end + 1) two ≡ take (end + 1) one → take end two ≡ take end one
shorter end one two same = shorter_front end (end + 1) one two (omega arith) same

pub longer : (end : ℕ) (one two : List ℕ) → end < length one → take (end + 1) two ≡ take (end + 1) one → end < length two
longer end one two inside same = let whole : end + 1 ≤ length two = front_length (end + 1) one two same (omega arith) in omega (arith, whole)

pub same_front_byte : (end : ℕ) (one two : List ℕ) → take (end + 1) two ≡ take (end + 1) one → get_or two end 0 ≡ get_or one end 0
same_front_byte end one two same = front_byte (end + 1) end one two same (omega arith)

-- one byte that is read
byte_read : (at byte : ℕ) (file : List ℕ) → read_at file at 1 ≡ byte ∷ [] → get_or file at 0 ≡ byte
byte_read at byte file read =
    ap (λ (p : ℕ). get_or file p 0) (sym (add-zero at))
    ∙ sym (get_or-drop at file 0 0)
    ∙ sym (get_or-take 1 (drop at file) 0 0 (lit< tt))
    ∙ ap (λ (xs : List ℕ). get_or xs 0 0) read

pub byte_written : (at byte : ℕ) (file : List ℕ) → at ≤ length file → get_or (written file at (byte ∷ [])) at 0 ≡ byte
byte_written at byte file inside = byte_read at byte (written file at (byte ∷ [])) (read_at-written at file (byte ∷ []) inside)

-- a gate byte that stays closed
pub shut_sealed : (spans : List (ℕ × ℕ)) (end : ℕ) (before after : List ℕ) → Stands spans end before → IsTorn end 1 before after → slice_index after end ≢ 1 → blobs_in after ≡ blobs_in before
shut_sealed spans end before after stands torn differ =
    let from : 16 ≤ length before = omega (arith, stands.is_gate.1) in
    let reach = lies_within before 16 spans end from stands.lies in
    let front : take end after ≡ take end before = byte_front end before after stands.within torn in
    let no_shorter : length before ≤ length after = torn.no_shorter in
    front_sealed spans end before after stands
    (record {
      lies = front_lies before after 16 spans end from front (omega (arith, reach.1)) stands.lies;
      ends = no_blob after end differ;
      is_gate = (shorter_front 16 end before after reach.0 front ∙ stands.is_gate.0, omega (arith, stands.is_gate.1));
      within = omega (arith, reach.1);
    }) front

-- what makes a blob ready to be sealed
pub prepares : (end size : ℕ) (f : List ℕ) → end + 9 + size ≤ length f → size < 2 ^ 64 → read_at f (end + 1) 8 ≡ number_bytes size → IsPrepared end size (written f (end + 9 + size) (0 ∷ []))
prepares end size f inside small is =
    let length_one : length (written f (end + 9 + size) (0 ∷ [])) ≡ max (length f) (end + 9 + size + 1) = written-length (end + 9 + size) f (0 ∷ []) inside in
    let read : read_at (written f (end + 9 + size) (0 ∷ [])) (end + 1) 8 ≡ read_at f (end + 1) 8 = read_at-written_other (end + 1) 8 (end + 9 + size) f (0 ∷ []) (omega (arith, inside)) (inl (omega arith)) in
    let next : slice_index (written f (end + 9 + size) (0 ∷ [])) (end + 9 + size) ≡ 0 = byte_written (end + 9 + size) 0 f inside in
    record {
      size_is = ap number (read ∙ is) ∙ number-reads_back size small;
      inside = omega (arith, length_one);
      closed = λ open_. absurd (omega (arith, next, open_));
    }

-- and leaves its content
pub prepares_blob : (end size : ℕ) (f : List ℕ) → end + 9 + size ≤ length f → read_at (written f (end + 9 + size) (0 ∷ [])) (end + 9) size ≡ read_at f (end + 9) size
prepares_blob end size f inside = read_at-written_other (end + 9) size (end + 9 + size) f (0 ∷ []) inside (inl (omega arith))

-- a length that is written behind the gate byte

pub sizes : (end size : ℕ) (f : List ℕ) → end < length f → read_at (written f (end + 1) (number_bytes size)) (end + 1) 8 ≡ number_bytes size
sizes end size f inside =
    ap (read_at (written f (end + 1) (number_bytes size)) (end + 1)) (sym (length-number_bytes size)) ∙ read_at-written (end + 1) f (number_bytes size) (omega (arith, inside))

pub sizes_length : (end size : ℕ) (f : List ℕ) → end < length f → length (written f (end + 1) (number_bytes size)) ≡ max (length f) (end + 9)
sizes_length end size f inside = let eight = length-number_bytes size in omega (arith, eight, inside, written-length (end + 1) f (number_bytes size) (omega (arith, inside)))

pub sizes_blob : (end size : ℕ) (f : List ℕ) → IfThere end f (written f (end + 1) (number_bytes size))
sizes_blob end size f n inside = let eight = length-number_bytes size in read_at-written_other (end + 9) n (end + 1) f (number_bytes size) inside (inr (omega (arith, eight)))

-- bytes that are added behind others

read_two : (file : List ℕ) (at m n : ℕ) → read_at file at (m + n) ≡ read_at file at m ++ read_at file (at + m) n
read_two file at m n =
    sym (take-append-drop m (take (m + n) (drop at file)))
    ∙ ap (λ (r : List ℕ). r ++ drop m (take (m + n) (drop at file))) (take-take m (m + n) (drop at file) (omega arith))
    ∙ ap (λ (r : List ℕ). take m (drop at file) ++ r) (drop-take m n (drop at file) ∙ ap (take n) (drop-drop m at file))

pub adds : (file bytes : List ℕ) (at len : ℕ) → at + len ≤ length file → read_at (written file (at + len) bytes) at (len + length bytes) ≡ read_at file at len ++ bytes
adds file bytes at len inside =
    read_two (written file (at + len) bytes) at len (length bytes)
    ∙ ap (λ (r : List ℕ). r ++ read_at (written file (at + len) bytes) (at + len) (length bytes)) (read_at-written_other at len (at + len) file bytes inside (inl (omega arith)))
    ∙ ap (λ (r : List ℕ). read_at file at len ++ r) (read_at-written (at + len) file bytes inside)

pub adds_length : (file bytes : List ℕ) (at : ℕ) → at ≤ length file → at + length bytes ≤ length (written file at bytes)
adds_length file bytes at inside = omega (arith, written-length at file bytes inside)

-- a whole blob

-- its length, its bytes and a closed gate byte, each written behind the one before
pub laid : (end : ℕ) (bytes f : List ℕ) → end + 9 ≤ length f → length bytes < 2 ^ 64 → read_at f (end + 1) 8 ≡ number_bytes (length bytes) → IsLaid end bytes (written (written f (end + 9) bytes) (end + 9 + length bytes) (0 ∷ []))
laid end bytes f inside small is =
    let w : List ℕ = written f (end + 9) bytes in
    let long : end + 9 + length bytes ≤ length w = adds_length f bytes (end + 9) inside in
    let size : read_at w (end + 1) 8 ≡ number_bytes (length bytes) = read_at-written_other (end + 1) 8 (end + 9) f bytes (omega (arith, inside)) (inl (omega arith)) ∙ is in
    record {
      prepared = prepares end (length bytes) w long small size;
      blob = prepares_blob end (length bytes) w long ∙ read_at-written (end + 9) f bytes inside;
    }

-- a part of what was written reads as it is
written_part : (at k n : ℕ) (f x : List ℕ) → at ≤ length f → k + n ≤ length x → read_at (written f at x) (at + k) n ≡ take n (drop k x)
written_part at k n f x inside within =
    let w : List ℕ = written f at x in
    let whole : k + (length x - k) ≡ length x = omega (arith, within) in
    ap (take n) (sym (drop-drop k at w))
    ∙ sym (take-take n (length x - k) (drop k (drop at w)) (omega (arith, within)))
    ∙ ap (take n) (sym (drop-take k (length x - k) (drop at w)))
    ∙ ap (λ (m : ℕ). take n (drop k (take m (drop at w)))) whole
    ∙ ap (λ (r : List ℕ). take n (drop k r)) (read_at-written at f x inside)

-- all of it and more behind it, written at once
pub laid_at_once : (end : ℕ) (bytes more f : List ℕ) → end < length f → length bytes < 2 ^ 64 → IsLaid end bytes (written f (end + 1) (number_bytes (length bytes) ++ (bytes ++ 0 ∷ more)))
laid_at_once end bytes more f inside small =
    let x : List ℕ = number_bytes (length bytes) ++ (bytes ++ 0 ∷ more) in
    let w : List ℕ = written f (end + 1) x in
    let eight : length (number_bytes (length bytes)) ≡ 8 = length-number_bytes (length bytes) in
    let total : length x ≡ 9 + length bytes + length more = simp (length-append, length-append) (omega (arith, eight)) in
    let from : end + 1 ≤ length f = omega (arith, inside) in
    let long : length w ≡ max (length f) (end + 1 + length x) = written-length (end + 1) f x from in
    let blob_at_nine : end + 1 + 8 ≡ end + 9 = omega arith in
    let gate_behind : end + 1 + (8 + length bytes) ≡ end + 9 + length bytes = omega arith in
    let behind : drop 8 x ≡ bytes ++ 0 ∷ more = drop_at (number_bytes (length bytes)) (bytes ++ 0 ∷ more) 8 eight in
    let last : drop (8 + length bytes) x ≡ 0 ∷ more = sym (drop-drop (length bytes) 8 x) ∙ ap (drop (length bytes)) behind ∙ drop_at bytes (0 ∷ more) (length bytes) refl in
    let size : read_at w (end + 1) 8 ≡ number_bytes (length bytes) =
    sym (take-take 8 (length x) (drop (end + 1) w) (omega (arith, total))) ∙ ap (take 8) (read_at-written (end + 1) f x from) ∙ take_at (number_bytes (length bytes)) (bytes ++ 0 ∷ more) 8 eight in
    let closed : slice_index w (end + 9 + length bytes) ≡ 0 =
    byte_read (end + 9 + length bytes) 0 w (ap (λ (p : ℕ). read_at w p 1) (sym gate_behind) ∙ written_part (end + 1) (8 + length bytes) 1 f x from (omega (arith, total)) ∙ ap (take 1) last) in
    record {
      prepared = record {
        size_is = ap number size ∙ number-reads_back (length bytes) small;
        inside = omega (arith, long, total);
        closed = λ open_. absurd (omega (arith, closed, open_));
      };
      blob = ap (λ (p : ℕ). read_at w p (length bytes)) (sym blob_at_nine) ∙ written_part (end + 1) 8 (length bytes) f x from (omega (arith, total)) ∙ ap (take (length bytes)) behind ∙ take_at bytes (0 ∷ more) (length bytes) refl;
    }

-- it lies so once each of the three was put where it belongs
pub put_all : (bytes before sized whole : List ℕ) → 9 + length bytes ≤ length whole → sized ≡ number_bytes (length bytes) ++ drop 8 before → whole ≡ take 8 sized ++ bytes ++ drop (8 + length bytes) sized
    → take (9 + length bytes) (set whole (8 + length bytes) 0) ≡ number_bytes (length bytes) ++ (bytes ++ 0 ∷ [])
put_all bytes before sized whole room sized_is whole_is =
    let eight : length (number_bytes (length bytes)) ≡ 8 = length-number_bytes (length bytes) in
    let first : take 8 sized ≡ number_bytes (length bytes) = ap (take 8) sized_is ∙ take_at (number_bytes (length bytes)) (drop 8 before) 8 eight in
    let total : length (number_bytes (length bytes) ++ bytes) ≡ 8 + length bytes = simp length-append (omega (arith, eight)) in
    let front : take (8 + length bytes) whole ≡ number_bytes (length bytes) ++ bytes =
    ap (take (8 + length bytes)) (whole_is ∙ ap (λ (xs : List ℕ). xs ++ bytes ++ drop (8 + length bytes) sized) first) ∙ take_at (number_bytes (length bytes) ++ bytes) (drop (8 + length bytes) sized) (8 + length bytes) total in
    take-set_at whole (8 + length bytes) (9 + length bytes) 0 (omega arith) (omega (arith, room))
    ∙ ap (λ (xs : List ℕ). xs ++ 0 ∷ []) front
    ∙ append_assoc (number_bytes (length bytes)) bytes (0 ∷ [])

-- a file with no blob
ends_at_once : (most gate : ℕ) (file : List ℕ) → blob_at file gate ≡ None → spans_from most gate file ≡ []
ends_at_once zero gate file none = refl
ends_at_once (suc most) gate file none = rw none refl

pub ended_spans : (file : List ℕ) → blob_at file 16 ≡ None → spans_of file ≡ []
unfolding spans_of
ended_spans file none = ends_at_once (length file) 16 file none

pub long_blob : (file : List ℕ) (gate size : ℕ) → number (read_at file (gate + 1) 8) ≡ size → length file < gate + 9 + size → blob_at file gate ≡ None
unfolding blob_at
long_blob file gate size is more =
    elim (true_or_false (get_or file gate 0 == 1)) [
      | inl is_open ↦
          let test : nat_le (gate + 9 + size) (length file) ≡ false = beyond (gate + 9 + size) (length file) more in
          rw (is_open, is, test) refl
      | inr is_shut ↦ rw is_shut refl
    ]
  where
    beyond : (m n : ℕ) → n < m → nat_le m n ≡ false
    beyond m n less = grind (arith, common_steps)

-- closing the first gate byte

first_gate : (spans : List (ℕ × ℕ)) (end : ℕ) (file : List ℕ) → 0 < length spans → Stands spans end file → slice_index file 16 ≡ 1
first_gate [] end file some stands = absurd (omega arith)
first_gate (span ∷ spans) end file some stands = (of_blob file 16 span.1 stands.lies.1).0

pub erasing : (spans : List (ℕ × ℕ)) (end : ℕ) (before after : List ℕ) → 0 < length spans → Stands spans end before → IsTorn 16 1 before after → (blobs_in after ≡ blobs_in before) ⊎ (blobs_in after ≡ [])
erasing spans end before after some stands torn =
    elim (equal_or_not (slice_index after 16) 1) [
      | inl one ↦
          let same : after ≡ before = same_byte 16 before after (omega (arith, stands.is_gate.1)) torn (one ∙ sym (first_gate spans end before some stands)) in
          inl (ap blobs_in same)
      | inr differ ↦ inr (no_blobs after (ended_spans after (no_blob after 16 differ)))
    ]

pub erased : (spans : List (ℕ × ℕ)) (end : ℕ) (before : List ℕ) → Stands spans end before → Stands [] 16 (written before 16 (0 ∷ []))
erased spans end before stands =
    let torn = torn-written 16 before (0 ∷ []) in
    let byte : get_or (written before 16 (0 ∷ [])) 16 0 ≡ 0 = byte_written 16 0 before (omega (arith, stands.is_gate.1)) in
    let no_shorter : length before ≤ length (written before 16 (0 ∷ [])) = torn.no_shorter in
    record {
      lies = refl;
      ends = no_blob (written before 16 (0 ∷ [])) 16 (λ one. absurd (omega (arith, byte, one)));
      is_gate = (take-torn 16 16 1 before (written before 16 (0 ∷ [])) (omega arith) (omega (arith, stands.is_gate.1)) torn ∙ stands.is_gate.0, omega (arith, no_shorter, stands.is_gate.1));
      within = omega (arith, no_shorter, stands.is_gate.1);
    }
