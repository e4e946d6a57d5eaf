-- The first blob of a file, and its sets.
use Rattle.std.proofs.Common.{◌≡◌, ◌≤◌, ◌+◌, ℕ, zero, suc, Bool, true, false, List, [], ◌∷◌, length, map, Option, Some, None, refl, inl, inr, sym, ap, ◌∙◌, arith}
use Rattle.std.specs.Prelude.{if◌then◌else◌, slice_get, unwrap_or, is_some}
use Rattle.std.specs.Str.{bytes_eq}
use Rattle.std.proofs.lemmas.List.{length-map}
use Rattle.std.proofs.lemmas.Slice.Eq.{bytes_eq-Decides}
use Rattle.bk_world.specs.Medium.{not_media}
use Rattle.bk_device.specs.Calls.{contents, read_at, filled}
use Rattle.bk_device.specs.Names.{true_or_false}
use Rattle.bk_gate.specs.Blobs.{sealed, spans_of, part_of, blobs_in, IsGateFile}
use Rattle.bk_gate.specs.BlobLaws.{foreign_blobs}
use Rattle.bk_gate.specs.Laws.{span_inside, blobs_are}
use Rattle.bk_device.specs.Laws.{length-read_at, filled_whole}
use Rattle.bk_gate.specs.Gate.{Kept}
use Rattle.bk_volume.specs.Media.{medium_letters, sets_in, HasSets, sets_of, reading_of, read_medium, count_of}

is_some_if : {A : Type 0} (b : Bool) (x : A) → is_some (if b then Some x else None) ≡ b
is_some_if true x = refl
is_some_if false x = refl

pub first_none : (file : List ℕ) (spans : List (ℕ × ℕ)) → IsGateFile file → spans ≡ spans_of file → length spans ≡ 0 → is_some (sets_in (blobs_in file)) ≡ false
first_none file [] gate are none = ap (λ (blobs : List (List ℕ)). is_some (sets_in blobs)) (blobs_are file [] gate are)
first_none file (span ∷ spans) gate are none = absurd (omega arith)

-- the first blob says whether the file is a medium
pub first_is : (file : List ℕ) (spans : List (ℕ × ℕ)) (span : ℕ × ℕ) → IsGateFile file → spans ≡ spans_of file → slice_get spans 0 ≡ Some span → is_some (sets_in (blobs_in file)) ≡ bytes_eq (part_of file span) medium_letters
first_is file [] span gate are there = absurd (cc)
first_is file (first ∷ spans) span gate are there =
    let same : first ≡ span = cc in
    ap (λ (blobs : List (List ℕ)). is_some (sets_in blobs)) (blobs_are file (first ∷ spans) gate are)
    ∙ is_some_if (bytes_eq (part_of file first) medium_letters) (map (part_of file) spans)
    ∙ ap (λ (s : ℕ × ℕ). bytes_eq (part_of file s) medium_letters) same

pub first_other : (file : List ℕ) (spans : List (ℕ × ℕ)) (span : ℕ × ℕ) → IsGateFile file → spans ≡ spans_of file → slice_get spans 0 ≡ Some span → (span.1 ≡ 8 → ⊥) → is_some (sets_in (blobs_in file)) ≡ false
first_other file spans span gate are there other =
    first_is file spans span gate are there ∙ elim (true_or_false (bytes_eq (part_of file span) medium_letters)) [
      | inl is ↦
          let letters : part_of file span ≡ medium_letters = (bytes_eq-Decides (part_of file span) medium_letters).0 is in
          absurd (other (sym (length-read_at file span.0 span.1 (span_inside file spans 0 span are there)) ∙ ap (λ (b : List ℕ). length b) letters))
      | inr isnt ↦ isnt
    ]

-- the letters that were read
pub letters_read : (buffer new other file : List ℕ) (room : ℕ) (spans : List (ℕ × ℕ)) (span : ℕ × ℕ) → IsGateFile file → spans ≡ spans_of file → slice_get spans 0 ≡ Some span → span.1 ≡ 8
    → new ≡ filled buffer (read_at other span.0 room) → room ≡ 8 → length buffer ≡ 8 → other ≡ file → bytes_eq new medium_letters ≡ is_some (sets_in (blobs_in file))
letters_read buffer new other file room spans span gate are there eight was is_room size_is same =
    let inside : span.0 + 8 ≤ length file = omega (arith, span_inside file spans 0 span are there, eight) in
    let whole : filled buffer (read_at file span.0 8) ≡ read_at file span.0 8 = filled_whole buffer file span.0 8 (sym size_is) inside in
    let read : new ≡ read_at file span.0 span.1 =
    was ∙ ap (λ (n : ℕ). filled buffer (read_at other span.0 n)) is_room ∙ ap (λ (f : List ℕ). filled buffer (read_at f span.0 8)) same ∙ whole ∙ ap (λ (n : ℕ). read_at file span.0 n) (sym eight) in
    ap (λ (b : List ℕ). bytes_eq b medium_letters) read ∙ sym (first_is file spans span gate are there)

-- a file that begins well has its sets
some_has : (blobs : List (List ℕ)) → is_some (sets_in blobs) ≡ true → blobs ≡ medium_letters ∷ unwrap_or (sets_in blobs) []
some_has [] is = absurd (cc)
some_has (first ∷ sets) is =
    let test : bytes_eq first medium_letters ≡ true = sym (is_some_if (bytes_eq first medium_letters) sets) ∙ is in
    let letters : first ≡ medium_letters = (bytes_eq-Decides first medium_letters).0 test in
    let sets_are : unwrap_or (if bytes_eq first medium_letters then Some sets else None) [] ≡ sets = ap (λ (b : Bool). unwrap_or (if b then Some sets else None) []) test in
    ap (λ (f : List ℕ). f ∷ sets) letters ∙ ap (λ (s : List (List ℕ)). medium_letters ∷ s) (sym sets_are)

pub well_has : (file : Option (List ℕ)) → is_some (sets_in (sealed file)) ≡ true → HasSets (sets_of file) file
unfolding sets_of
well_has file is = some_has (sealed file) is

-- one that doesn't is no medium
pub ill_read : (file : Option (List ℕ)) → (file ≡ None → ⊥) → is_some (sets_in (sealed file)) ≡ false → read_medium file ≡ Some not_media
unfolding read_medium
ill_read None there ill = absurd (there refl)
ill_read (Some file) there ill = none (sets_in (sealed (Some file))) ill
  where
    none : (sets : Option (List (List ℕ))) → is_some sets ≡ false → Some (reading_of sets) ≡ Some not_media
    none None is = refl
    none (Some sets) is = absurd (cc)

pub foreign_ill : (file : List ℕ) → (IsGateFile file → ⊥) → is_some (sets_in (blobs_in file)) ≡ false
foreign_ill file foreign = ap (λ (blobs : List (List ℕ)). is_some (sets_in blobs)) (foreign_blobs file foreign)

-- the count of a file's sets
pub count_is : (kept : Kept) (file : Option (List ℕ)) → kept.spans ≡ spans_of (contents file) → IsGateFile (contents file) → HasSets (sets_of file) file → count_of kept ≡ length (sets_of file)
count_is kept file are gate has =
    let same : map (part_of (contents file)) kept.spans ≡ medium_letters ∷ sets_of file = sym (blobs_are (contents file) kept.spans gate are) ∙ has in
    omega (arith, ap (λ (blobs : List (List ℕ)). length blobs) same, length-map kept.spans (part_of (contents file)))

-- no set is found at a position that isn't there
past : (sets : List (List ℕ)) (i : ℕ) → length sets ≤ i → slice_get sets i ≡ None
past [] i beyond = refl
past (set ∷ sets) zero beyond = absurd (omega arith)
past (set ∷ sets) (suc i) beyond = past sets i (omega arith)
