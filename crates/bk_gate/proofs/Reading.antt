-- Reading a gate file.
use Rattle.std.proofs.Common.{◌≡◌, ◌≢◌, ◌≤◌, ◌<◌, ℕ, ◌+◌, List, [], ◌∷◌, ◌++◌, length, take, drop, get_or, Option, Some, None, sym, ◌∙◌, ap, subst, arith, lit≤, lit<, add-zero}
use Rattle.std.specs.Prelude.{Bool, true, false, option_map, unwrap_or}
use Rattle.std.specs.Bool.{MatchBool}
use Rattle.std.specs.Str.{bytes_eq}
use Rattle.std.proofs.lemmas.Slice.Eq.{bytes_eq-Decides}
use Rattle.std.proofs.lemmas.List.{get_or-take, get_or-drop, take-take, drop-take, drop-drop}
use Rattle.bk_device.specs.Calls.{contents, read_at, filled, ChangesNothing}
use Rattle.bk_device.specs.Disk.{Disk, IsDurable, IsLawful}
use Rattle.bk_device.specs.Laws.{filled_whole, nothing_then, durable_by_nothing}
use Rattle.bk_lemmas.specs.Numbers.{number}
use Rattle.bk_gate.specs.Blobs.{blob_at, magic, IsGateFile}
use Rattle.bk_gate.specs.Gate.{Lies, Stands, IsAt, IsShut}
use Rattle.bk_gate.specs.BlobLaws.{no_blob, is_blob, long_blob, lies_more}

first_byte : (file : List ℕ) (at room : ℕ) → 0 < room → get_or (read_at file at room) 0 0 ≡ get_or file at 0
first_byte file at room some = get_or-take room (drop at file) 0 0 some ∙ get_or-drop at file 0 0 ∙ ap (λ (p : ℕ). get_or file p 0) (add-zero at)

size_bytes : (file : List ℕ) (gate : ℕ) → read_at (read_at file gate 9) 1 8 ≡ read_at file (gate + 1) 8
size_bytes file gate =
    ap (take 8) (drop-take 1 8 (drop gate file)) ∙ take-take 8 8 (drop 1 (drop gate file)) (lit≤ tt) ∙ ap (take 8) (drop-drop 1 gate file)

-- a blob's head that was read

pub read_open : (file buffer head : List ℕ) (gate size : ℕ) → length buffer ≡ 9 → gate + 9 ≤ length file → head ≡ filled buffer (read_at file gate 9) → get_or head 0 0 ≡ 1 → size ≡ number (read_at head 1 8) → gate + 9 + size ≤ length file → blob_at file gate ≡ Some size
read_open file buffer head gate size room inside is one size_is fits =
    let read : head ≡ read_at file gate 9 = is ∙ filled_whole buffer file gate 9 (sym room) inside in
    is_blob file gate size
    (sym (first_byte file gate 9 (lit< tt)) ∙ ap (λ (h : List ℕ). get_or h 0 0) (sym read) ∙ one)
    (ap number (sym (size_bytes file gate) ∙ ap (λ (h : List ℕ). read_at h 1 8) (sym read)) ∙ sym size_is)
    fits

pub read_shut : (file buffer head : List ℕ) (gate : ℕ) → length buffer ≡ 9 → gate + 9 ≤ length file → head ≡ filled buffer (read_at file gate 9) → get_or head 0 0 ≢ 1 → blob_at file gate ≡ None
read_shut file buffer head gate room inside is differ =
    let read : head ≡ read_at file gate 9 = is ∙ filled_whole buffer file gate 9 (sym room) inside in
    no_blob file gate (λ one. differ (ap (λ (h : List ℕ). get_or h 0 0) read ∙ first_byte file gate 9 (lit< tt) ∙ one))

pub read_long : (file buffer head : List ℕ) (gate size : ℕ) → length buffer ≡ 9 → gate + 9 ≤ length file → head ≡ filled buffer (read_at file gate 9) → size ≡ number (read_at head 1 8) → length file < gate + 9 + size → blob_at file gate ≡ None
read_long file buffer head gate size room inside is size_is more =
    let read : head ≡ read_at file gate 9 = is ∙ filled_whole buffer file gate 9 (sym room) inside in
    long_blob file gate size (ap number (sym (size_bytes file gate) ∙ ap (λ (h : List ℕ). read_at h 1 8) (sym read)) ∙ sym size_is) more

-- a length that was asked for
pub counted : (file : Option (List ℕ)) (answer : Option ℕ) (len : ℕ) → answer ≡ option_map length file → len ≡ unwrap_or answer 0 → len ≡ length (contents file)
counted None answer len asked is = is ∙ ap (λ (o : Option ℕ). unwrap_or o 0) asked
counted (Some content) answer len asked is = is ∙ ap (λ (o : Option ℕ). unwrap_or o 0) asked

-- a test of the letters
pub tested : (is : Bool) (read front : List ℕ) → read ≡ front → is ≡ bytes_eq read magic → MatchBool is (front ≡ magic) (front ≢ magic)
tested true read front same test = sym same ∙ (bytes_eq-Decides read magic).0 (sym test)
tested false read front same test = λ yes_it_is. let both : true ≡ false = sym ((bytes_eq-Decides read magic).1 (same ∙ yes_it_is)) ∙ sym test in cc

-- one more blob that was read
pub read_more : (one two : List ℕ) (gate size : ℕ) (spans spans2 : List (ℕ × ℕ)) → two ≡ one → Lies one 16 spans gate → blob_at two gate ≡ Some size → spans2 ≡ spans ++ (gate + 9, size) ∷ [] → Lies one 16 spans2 (gate + (9 + size))
read_more one two gate size spans spans2 same lies blob is =
    let here : blob_at one gate ≡ Some size = ap (λ (f : List ℕ). blob_at f gate) (sym same) ∙ blob in
    let end : gate + 9 + size ≡ gate + (9 + size) = omega arith in
    let ByEnd : ℕ → Type 0 = λ e. Lies one 16 (spans ++ (gate + 9, size) ∷ []) e in
    let BySpans : List (ℕ × ℕ) → Type 0 = λ s. Lies one 16 s (gate + (9 + size)) in
    subst BySpans (sym is) (subst ByEnd end (lies_more one 16 spans gate size lies here))

-- the blobs that were read stand in the file
pub read_stands : (one two : List ℕ) (len : ℕ) (spans : List (ℕ × ℕ)) (end : ℕ) → two ≡ one → len ≡ length one → Lies two 16 spans end → blob_at two end ≡ None → end ≤ len → IsGateFile one → Stands spans end one
read_stands one two len spans end same size lies ends inside is_gate =
    let OfLies : List ℕ → Type 0 = λ f. Lies f 16 spans end in
    record { lies = subst OfLies same lies; ends = ap (λ (f : List ℕ). blob_at f end) (sym same) ∙ ends; is_gate = is_gate; within = omega (arith, size) }

-- a durable file in which the blobs stand
quiet_or_loose : (spans : List (ℕ × ℕ)) (end : ℕ) (is_closed : Bool) (name : List ℕ) (a : Disk) → IsDurable a name → Stands spans end (contents (a.files name)) → IsShut (contents (a.files name)) end is_closed → IsAt spans end is_closed name a
quiet_or_loose spans end true name a durable stands shut = record { stands = stands; inside = shut.0; closed = shut.1; left = λ content may. ap (λ (f : Option (List ℕ)). take (end + 1) (contents f)) (durable content may) }
quiet_or_loose spans end false name a durable stands loose = record { stands = stands; why = loose; durable = durable }

-- a gate file that was read: its length, then its blobs, then the gate byte at the end
pub read_gate : (len : ℕ) (spans : List (ℕ × ℕ)) (end : ℕ) (is_closed : Bool) (name kept : List ℕ) (a b c d : Disk) → IsLawful a → ChangesNothing a b → ChangesNothing b c → ChangesNothing c d → kept ≡ name → IsDurable a name
    → len ≡ length (contents (a.files name)) → IsGateFile (contents (a.files name))
    → (len ≡ length (contents (b.files name)) → Lies (contents (b.files name)) 16 spans end) → (len ≡ length (contents (b.files name)) → blob_at (contents (b.files name)) end ≡ None) → end ≤ len
    → (len ≡ length (contents (c.files name)) → IsShut (contents (c.files name)) end is_closed)
    → IsAt spans end is_closed kept d
read_gate len spans end is_closed name kept a b c d lawful first second third named durable size is_gate lies ends inside shut =
    let two = nothing_then lawful first second in
    let all = nothing_then lawful two third in
    let size_b : len ≡ length (contents (b.files name)) = size ∙ sym (ap length (ap contents (first.files name))) in
    let size_c : len ≡ length (contents (c.files name)) = size ∙ sym (ap length (ap contents (two.files name))) in
    let stands = read_stands (contents (a.files name)) (contents (b.files name)) len spans end (ap contents (first.files name)) size (lies size_b) (ends size_b) inside is_gate in
    let OfStands : List ℕ → Type 0 = Stands spans end in
    let OfShut : List ℕ → Type 0 = λ f. IsShut f end is_closed in
    let OfName : List ℕ → Type 0 = λ n. IsAt spans end is_closed n d in
    subst OfName (sym named) (quiet_or_loose spans end is_closed name d (durable_by_nothing name all durable) (subst OfStands (sym (ap contents (all.files name))) stands) (subst OfShut (sym (ap contents (third.files name))) (shut size_c)))

-- a test of the letters in front of bytes
pub begins : (is : Bool) (file : List ℕ) → 17 ≤ length file → is ≡ bytes_eq magic (take 16 file) → MatchBool is (IsGateFile file) (IsGateFile file → ⊥)
begins true file room test = (sym ((bytes_eq-Decides magic (take 16 file)).0 (sym test)), room)
begins false file room test = λ gate. let both : true ≡ false = sym ((bytes_eq-Decides magic (take 16 file)).1 (sym gate.0)) ∙ sym test in cc
