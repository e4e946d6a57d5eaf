-- What the layers above may take of a gate file.
use Rattle.std.proofs.Common.{◌≡◌, ◌≤◌, ◌<◌, ◌⊎◌, ◌+◌, ℕ, Bool, true, false, List, [], ◌∷◌, ◌++◌, Option, Some, None, length, map, take, refl, ap, sym, subst, ◌∙◌, arith}
use Rattle.std.specs.Prelude.{slice_index, slice_get, option_map}
use Rattle.std.proofs.lemmas.List.{map-append}
use Rattle.std.proofs.lemmas.Option.{slice_get-map}
use Rattle.bk_device.specs.Calls.{contents, read_at}
use Rattle.bk_device.specs.Compose.{durable_kept}
use Rattle.bk_device.specs.Disk.{Disk}
use Rattle.bk_device.specs.Effects.{IsName, KeepsFiles}
use Rattle.bk_gate.specs.Blobs.{sealed, spans_of, blob_at, part_of, blobs_in, IsGateFile}
use Rattle.bk_gate.specs.Gate.{Kept, Lies, Stands, Quiet, IsAt, IsGate, AreUpTo}
use Rattle.bk_gate.specs.BlobLaws.{stands_spans, lies_more, lies_next, front_stands, front_sealed, shorter, gate_blobs, spans_inside}

-- files that agree up to the closed gate byte have the same blobs
pub quiet_front : (spans : List (ℕ × ℕ)) (end : ℕ) (name : List ℕ) (a : Disk) (file : Option (List ℕ)) → Quiet spans end name a → take (end + 1) (contents file) ≡ take (end + 1) (contents (a.files name)) → sealed file ≡ sealed (a.files name)
quiet_front spans end name a file quiet same =
    front_sealed spans end (contents (a.files name)) (contents file) quiet.stands
    (front_stands spans end (contents (a.files name)) (contents file) quiet.stands quiet.inside quiet.closed same)
    (shorter end (contents (a.files name)) (contents file) same)

at_kept : (spans : List (ℕ × ℕ)) (end : ℕ) (is_closed : Bool) (name : List ℕ) (a b : Disk) → KeepsFiles (IsName name) a b → IsAt spans end is_closed name a → IsAt spans end is_closed name b
at_kept spans end true name a b keeps quiet =
    let same : contents (b.files name) ≡ contents (a.files name) = ap contents (keeps.same name refl) in
    let OfStands : List ℕ → Type 0 = Stands spans end in
    let OfInside : List ℕ → Type 0 = λ f. end < length f in
    record {
      stands = subst OfStands (sym same) quiet.stands;
      inside = subst OfInside (sym same) quiet.inside;
      closed = λ one. quiet.closed (ap (λ (f : List ℕ). slice_index f end) (sym same) ∙ one);
      left = λ content may. quiet.left content (keeps.nothing_more name refl content may) ∙ ap (take (end + 1)) (sym same);
    }
at_kept spans end false name a b keeps loose =
    let same : contents (b.files name) ≡ contents (a.files name) = ap contents (keeps.same name refl) in
    let Of : List ℕ → Type 0 = λ f. (end ≡ length f) ⊎ (end < length f) × (slice_index f end ≡ 1) in
    let OfStands : List ℕ → Type 0 = Stands spans end in
    record {
      stands = subst OfStands (sym same) loose.stands;
      why = subst Of (sym same) loose.why;
      durable = durable_kept name refl keeps loose.durable;
    }

-- what is done under other names leaves the gate
pub gate_kept : {a b : Disk} {gate : Kept} → KeepsFiles (IsName gate.name) a b → IsGate a gate → IsGate b gate
gate_kept {a = a} {b = b} {gate = gate} keeps is = record {
  at = at_kept gate.spans gate.end gate.is_closed gate.name a b keeps is.at;
  room = λ n begun more.
      let OfRoom : List ℕ → Type 0 = λ f. gate.end + 9 + n ≤ length f in
      ((is.room n begun more).0, subst OfRoom (sym (ap contents (keeps.same gate.name refl))) (is.room n begun more).1);
}

-- and its sealed blobs
pub sealed_kept : {a b : Disk} (name : List ℕ) → KeepsFiles (IsName name) a b → sealed (b.files name) ≡ sealed (a.files name)
sealed_kept name keeps = ap sealed (keeps.same name refl)

-- each crash leaves the sealed blobs, also while a blob is begun
pub gate_left : {a : Disk} {gate : Kept} (content : Option (List ℕ)) → IsGate a gate → a.may gate.name content → sealed content ≡ sealed (a.files gate.name)
gate_left {a = a} {gate = gate} content is may = go gate.is_closed is.at
  where
    go : (is_closed : Bool) → IsAt gate.spans gate.end is_closed gate.name a → sealed content ≡ sealed (a.files gate.name)
    go true quiet = quiet_front gate.spans gate.end gate.name a content quiet (quiet.left content may)
    go false loose = ap sealed (loose.durable content may)

-- the spans are those of the sealed blobs
pub gate_spans : {a : Disk} {gate : Kept} → IsGate a gate → spans_of (contents (a.files gate.name)) ≡ gate.spans
gate_spans {a = a} {gate = gate} is = go gate.is_closed is.at
  where
    go : (is_closed : Bool) → IsAt gate.spans gate.end is_closed gate.name a → spans_of (contents (a.files gate.name)) ≡ gate.spans
    go true quiet = stands_spans gate.spans gate.end (contents (a.files gate.name)) quiet.stands
    go false loose = stands_spans gate.spans gate.end (contents (a.files gate.name)) loose.stands

-- the file is a gate file
pub gate_file : {a : Disk} {gate : Kept} → IsGate a gate → IsGateFile (contents (a.files gate.name))
gate_file {a = a} {gate = gate} is = go gate.is_closed is.at
  where
    go : (is_closed : Bool) → IsAt gate.spans gate.end is_closed gate.name a → IsGateFile (contents (a.files gate.name))
    go true quiet = quiet.stands.is_gate
    go false loose = loose.stands.is_gate

-- the sealed blobs lie in the spans
pub gate_sealed : {a : Disk} {gate : Kept} → IsGate a gate → sealed (a.files gate.name) ≡ map (part_of (contents (a.files gate.name))) gate.spans
gate_sealed {a = a} {gate = gate} is =
    gate_blobs (contents (a.files gate.name)) (gate_file is) ∙ ap (map (part_of (contents (a.files gate.name)))) (gate_spans is)

-- and whole in the file
pub gate_inside : {a : Disk} {gate : Kept} (i : ℕ) (span : ℕ × ℕ) → IsGate a gate → slice_get gate.spans i ≡ Some span → span.0 + span.1 ≤ length (contents (a.files gate.name))
unfolding spans_of
gate_inside {a = a} {gate = gate} i span is there =
    spans_inside (length (contents (a.files gate.name))) 16 (contents (a.files gate.name)) i span (ap (λ (spans : List (ℕ × ℕ)). slice_get spans i) (gate_spans is) ∙ there)

-- a blob may be begun
pub gate_begun : {a : Disk} {gate : Kept} → IsGate a gate → IsGate a (record gate { begun = Some 0 })
gate_begun {a = a} {gate = gate} is = record {
  at = is.at;
  room = λ n begun more. let none : 0 ≡ n = cc in absurd (omega (arith, none));
}

-- and room be made for spans
pub gate_reserved : {a : Disk} {gate : Kept} (spare : ℕ) → IsGate a gate → IsGate a (record gate { spare = spare })
gate_reserved spare is = record { at = is.at; room = is.room }

-- a file whose blobs lie in spans that were read

-- each lies whole in the file
pub span_inside : (file : List ℕ) (spans : List (ℕ × ℕ)) (i : ℕ) (span : ℕ × ℕ) → spans ≡ spans_of file → slice_get spans i ≡ Some span → span.0 + span.1 ≤ length file
unfolding spans_of
span_inside file spans i span are there = spans_inside (length file) 16 file i span (ap (λ (s : List (ℕ × ℕ)). slice_get s i) (sym are) ∙ there)

-- they are the parts in the spans
pub blobs_are : (file : List ℕ) (spans : List (ℕ × ℕ)) → IsGateFile file → spans ≡ spans_of file → blobs_in file ≡ map (part_of file) spans
blobs_are file spans gate are = gate_blobs file gate ∙ ap (map (part_of file)) (sym are)

-- what lies in a span is a sealed blob
pub blob_there : (file : List ℕ) (spans : List (ℕ × ℕ)) (i : ℕ) (span : ℕ × ℕ) → IsGateFile file → spans ≡ spans_of file → slice_get spans i ≡ Some span → slice_get (blobs_in file) i ≡ Some (read_at file span.0 span.1)
blob_there file spans i span gate are there =
    ap (λ (blobs : List (List ℕ)). slice_get blobs i) (blobs_are file spans gate are) ∙ slice_get-map (part_of file) spans i
    ∙ ap (λ (o : Option (ℕ × ℕ)). option_map (part_of file) o) there

-- a file whose blobs are read one behind the other

-- before the first one there is none
pub up_to_none : (file : List ℕ) → AreUpTo file 16 []
up_to_none file = ([], refl, refl)

-- one more
pub up_to_more : (file : List ℕ) (gate : ℕ) (blobs : List (List ℕ)) (blob : List ℕ) → AreUpTo file gate blobs → blob_at file gate ≡ Some (length blob) → blob ≡ read_at file (gate + 9) (length blob) → AreUpTo file (gate + (9 + length blob)) (blobs ++ blob ∷ [])
up_to_more file gate blobs blob are at is =
    let span : ℕ × ℕ = (gate + 9, length blob) in
    let end : gate + 9 + length blob ≡ gate + (9 + length blob) = omega arith in (
      are.0 ++ span ∷ [],
      ap (λ (bs : List (List ℕ)). bs ++ blob ∷ []) are.1 ∙ ap (λ (b : List ℕ). map (part_of file) are.0 ++ b ∷ []) is ∙ sym (map-append (part_of file) are.0 (span ∷ [])),
      subst (λ (e : ℕ). Lies file 16 (are.0 ++ span ∷ []) e) end (lies_more file 16 are.0 gate (length blob) are.2 at),
    )

-- one behind those is the next
pub up_to_next : (file : List ℕ) (gate : ℕ) (blobs : List (List ℕ)) (blob : List ℕ) → IsGateFile file → AreUpTo file gate blobs → blob_at file gate ≡ Some (length blob) → blob ≡ read_at file (gate + 9) (length blob) → (rest : List (List ℕ)) × (blobs_in file ≡ blobs ++ blob ∷ rest)
unfolding spans_of
up_to_next file gate blobs blob is_gate are at is =
    let span : ℕ × ℕ = (gate + 9, length blob) in
    let next = lies_next file (length file) 16 are.0 gate (length blob) (omega arith) are.2 at in (
      map (part_of file) next.0,
      gate_blobs file is_gate ∙ ap (map (part_of file)) next.1 ∙ map-append (part_of file) are.0 (span ∷ next.0) ∙ ap (λ (b : List ℕ). map (part_of file) are.0 ++ b ∷ map (part_of file) next.0) (sym is)
          ∙ ap (λ (bs : List (List ℕ)). bs ++ blob ∷ map (part_of file) next.0) (sym are.1),
    )

-- and where there is none, those are all
pub up_to_end : (file : List ℕ) (gate : ℕ) (blobs : List (List ℕ)) → IsGateFile file → gate ≤ length file → AreUpTo file gate blobs → blob_at file gate ≡ None → blobs_in file ≡ blobs
up_to_end file gate blobs is_gate inside are none =
    gate_blobs file is_gate ∙ ap (map (part_of file)) (stands_spans are.0 gate file (record { lies = are.2; ends = none; is_gate = is_gate; within = inside })) ∙ sym are.1
