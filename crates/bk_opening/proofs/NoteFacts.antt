-- The facts in a note, and the room that it takes.
use Rattle.std.proofs.Common.{◌≡◌, ◌≤◌, ℕ, ◌+◌, ◌-◌, List, ◌++◌, length, Option, Some, refl, sym, ap, subst, ◌∙◌, arith}
use Rattle.std.specs.List.{AllByRecursion, flat_map}
use Rattle.std.proofs.lemmas.List.{length-append}
use Rattle.bk_bytes.specs.Field.{AreBytes, bytes_of}
use Rattle.bk_bytes.specs.FieldLaws.{length-bytes_of}
use Rattle.bk_facts.specs.declared.facts.Facts.{Facts}
use Rattle.bk_facts.specs.FactLaws.{facts_spelled, have_paths}
use Rattle.bk_facts.specs.Facts.{HasPath, Notes, facts_bytes, facts_form, file_bytes}
use Rattle.bk_paged.specs.Holds.{HaveRoom}

-- a note has one list of facts, and one note of the layer above
pub one_note : (bytes other : List ℕ) (facts given : Facts) (note also : List ℕ) → bytes ≡ other → Notes bytes facts note → Notes other given also → (facts ≡ given) × (note ≡ also)
one_note bytes other facts given note also same first second =
    let both : ◌≡◌ {A = Option (Facts × List ℕ)} (Some (facts, note)) (Some (given, also)) = sym first ∙ ap facts_form.reading same ∙ second in
    let pair : ◌≡◌ {A = Facts × List ℕ} (facts, note) (given, also) = cc in
    (ap (λ (x : Facts × List ℕ). x.0) pair, ap (λ (x : Facts × List ℕ). x.1) pair)

-- how long facts are
facts_length : (facts : Facts) → length (facts_bytes (record { checkpoint = 0; files = facts.files })) ≡ length (facts_bytes facts)
facts_length facts =
    let behind : List ℕ = bytes_of 2 (length facts.files) ++ flat_map file_bytes facts.files in
    omega (arith, length-append (bytes_of 8 0) behind, length-append (bytes_of 8 facts.checkpoint) behind, length-bytes_of 8 0, length-bytes_of 8 facts.checkpoint)

pub note_length : (bytes : List ℕ) (facts : Facts) (note : List ℕ) → AreBytes bytes → Notes bytes facts note → length bytes ≡ length (facts_bytes facts) + length note
note_length bytes facts note fits noted = ap (λ (b : List ℕ). length b) (facts_spelled bytes facts note fits noted).0 ∙ length-append (facts_bytes facts) note

pub note_room : (bytes : List ℕ) (facts : Facts) (note : List ℕ) → AreBytes bytes → Notes bytes facts note → length note ≤ 30720 → length bytes - length note ≤ 2048 → HaveRoom facts.files note
note_room bytes facts note fits noted short few = record {
  few = (facts_spelled bytes facts note fits noted).1.few;
  first = omega (arith, note_length bytes facts note fits noted, facts_length facts, few);
  rest = short;
}

-- facts that have room are refused for neither cause
pub note_fits : (bytes : List ℕ) (facts given : Facts) (note also : List ℕ) → AreBytes bytes → Notes bytes facts note → Notes bytes given also → HaveRoom given.files also → (length note ≤ 30720) × (length bytes - length note ≤ 2048)
note_fits bytes facts given note also fits noted other room =
    let same = one_note bytes bytes given facts also note refl other noted in
    let here : HaveRoom facts.files note = subst (λ (n : List ℕ). HaveRoom facts.files n) same.1 (subst (λ (f : Facts). HaveRoom f.files also) same.0 room) in
    (here.rest, omega (arith, note_length bytes facts note fits noted, facts_length facts, here.first))

pub note_paths : (bytes : List ℕ) (facts : Facts) (note : List ℕ) → AreBytes bytes → Notes bytes facts note → AllByRecursion HasPath facts.files
note_paths bytes facts note fits noted = have_paths facts.files (facts_spelled bytes facts note fits noted).1.files
