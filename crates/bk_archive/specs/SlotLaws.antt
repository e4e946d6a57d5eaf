-- What stands at a position of a medium's file.
use Rattle.std.proofs.Common.{◌≡◌, ◌<◌, ◌≤◌, ℕ, zero, suc, Bool, true, false, ltb, List, [], ◌∷◌, length, map, Option, None, Some, refl, inl, inr, sym, ◌∙◌, ap, subst, arith}
use Rattle.std.specs.Prelude.{if◌then◌else◌, option_map, slice_get, unwrap_or}
use Rattle.std.specs.List.{Contains}
use Rattle.std.specs.Str.{bytes_eq}
use Rattle.std.proofs.lemmas.Bool.{cases_lt, lt-ltb}
use Rattle.std.proofs.lemmas.Bool.Decides.{nat_tests}
use Rattle.std.proofs.lemmas.List.Elements.{Contains-append_left, Contains-append_right, Contains-push}
use Rattle.std.proofs.lemmas.Option.{same_Some}
use Rattle.std.proofs.lemmas.Slice.Eq.{bytes_eq-Decides}
use Rattle.sha2.specs.Sha256.{sha256}
use Rattle.bk_body.specs.Body.{Body}
use Rattle.bk_body.specs.Reading.{body_of}
use Rattle.bk_body.specs.SlotLaws.{digest_differs, set_front, slot_spelled}
use Rattle.bk_body.specs.Slots.{Slot, ReadsAs, damaged, digest_in, front_of, holds, holds_or_none, no_set, slot_of}
use Rattle.bk_gate.specs.Blobs.{sealed}
use Rattle.bk_volume.specs.Laws.{nothing_sealed}
use Rattle.bk_volume.specs.Media.{medium_letters, read_medium, reading_of, sets_in, sets_of, slot_at, slot_in}
use Rattle.bk_volume.specs.Stored.{IsSetAt, IsWhole}
use Rattle.bk_world.specs.Medium.{Slot as Shown, Reading, medium}
use Rattle.bk_archive.specs.Media.{IsSpelled, is_begun}

-- ---- slots

nothing-there : {A : Type 0} (i : ℕ) (a : A) → slice_get [] i ≡ Some a → ⊥
nothing-there i a is = cc

-- the bytes at a position are read as what is found there
pub slot-blob : (file : Option (List ℕ)) (p : ℕ) (slot : Slot) → slot_at file p ≡ Some slot → (blob : List ℕ) × IsSetAt file p blob × (slot_of blob ≡ slot)
unfolding slot_at
slot-blob file zero slot is = absurd (none is)
  where
    none : None ≡ Some slot → ⊥
    none e = cc
slot-blob file (suc i) slot is = by (slice_get (sets_of file) i) refl is
  where
    by : (o : Option (List ℕ)) → slice_get (sets_of file) i ≡ o → option_map slot_of o ≡ Some slot → (blob : List ℕ) × IsSetAt file (suc i) blob × (slot_of blob ≡ slot)
    by None there is = absurd (cc)
    by (Some blob) there is = (blob, there, same_Some (slot_of blob) slot is)

pub blob-slot : (file : Option (List ℕ)) (p : ℕ) (blob : List ℕ) → IsSetAt file p blob → slot_at file p ≡ Some (slot_of blob)
unfolding slot_at
blob-slot file zero blob there = absurd there
blob-slot file (suc i) blob there = ap (λ (o : Option (List ℕ)). option_map slot_of o) there

contains-first : (slot : Shown) (slots : List Shown) → Contains (slot ∷ slots) slot
contains-first slot slots = Contains-append_left (slot ∷ []) slots slot (Contains-push [] slot)

contains-at : (sets : List (List ℕ)) (i : ℕ) (blob : List ℕ) → slice_get sets i ≡ Some blob → Contains (map slot_in sets) (slot_in blob)
contains-at [] i blob is = absurd (nothing-there i blob is)
contains-at (set ∷ sets) zero blob is = subst (λ b. Contains (slot_in set ∷ map slot_in sets) (slot_in b)) (same_Some set blob is) (contains-first (slot_in set) (map slot_in sets))
contains-at (set ∷ sets) (suc i) blob is = Contains-append_right (slot_in set ∷ []) (map slot_in sets) (slot_in blob) (contains-at sets i blob is)

-- a file with a set at a position is a medium, whose slots are those of its sets
pub record IsMediumWith (file : Option (List ℕ)) (blob : List ℕ) : Type 0 where
  pub reads : read_medium file ≡ Some (medium (map slot_in (sets_of file)))
  pub some : is_begun (sealed file) ≡ false
  pub there : Contains (map slot_in (sets_of file)) (slot_in blob)

-- the same of its blobs
record HasSome (blobs : List (List ℕ)) : Type 0 where
  reads : reading_of (sets_in blobs) ≡ medium (map slot_in (unwrap_or (sets_in blobs) []))
  some : is_begun blobs ≡ false

has-some : (blobs : List (List ℕ)) (i : ℕ) (blob : List ℕ) → slice_get (unwrap_or (sets_in blobs) []) i ≡ Some blob → HasSome blobs
has-some [] i blob is = absurd (nothing-there i blob is)
has-some (first ∷ rest) i blob is = by (bytes_eq first medium_letters) refl is
  where
    by : (t : Bool) → bytes_eq first medium_letters ≡ t → slice_get (unwrap_or (if t then Some rest else None) []) i ≡ Some blob → HasSome (first ∷ rest)
    by true letters is = record {
      reads = ap (λ (t : Bool). reading_of (if t then Some rest else None)) letters ∙ sym (ap (λ (t : Bool). medium (map slot_in (unwrap_or (if t then Some rest else None) []))) letters);
      some = refl;
    }
    by false letters is = absurd (nothing-there i blob is)

pub set-medium : (file : Option (List ℕ)) (p : ℕ) (blob : List ℕ) → IsSetAt file p blob → IsMediumWith file blob
unfolding sets_of read_medium
set-medium file zero blob there = absurd there
set-medium None (suc i) blob there = absurd (nothing-there i blob (sym (ap (λ (blobs : List (List ℕ)). slice_get (unwrap_or (sets_in blobs) []) i) nothing_sealed) ∙ there))
set-medium (Some file) (suc i) blob there =
    let has = has-some (sealed (Some file)) i blob there in
    record { reads = ap (λ (r : Reading). Some r) has.reads; some = has.some; there = contains-at (unwrap_or (sets_in (sealed (Some file))) []) i blob there }

-- ---- how bytes are read

-- bytes that are read as a set have their own digest
pub held-whole : (blob : List ℕ) (body : Body) → slot_of blob ≡ holds body → IsWhole blob
unfolding slot_of
held-whole blob body is = by (ltb (length blob) 32) (bytes_eq (digest_in blob) (sha256 (front_of blob))) refl refl is
  where
    by : (short same : Bool) → ltb (length blob) 32 ≡ short → bytes_eq (digest_in blob) (sha256 (front_of blob)) ≡ same
        → (if short then no_set else if same then holds_or_none (body_of (front_of blob)) else damaged (digest_in blob) (sha256 (front_of blob))) ≡ holds body → IsWhole blob
    by true same less test is = absurd (cc)
    by false true less test is =
        let long : 32 ≤ length blob = grind (arith, nat_tests, less) in
        record { long = long; same = (bytes_eq-Decides (digest_in blob) (sha256 (front_of blob))).0 test }
    by false false less test is = absurd (cc)

-- the spelling of a set is read as that
pub spelled-slot : (blob : List ℕ) (body : Body) → ReadsAs blob (holds body) → slot_of blob ≡ holds body
spelled-slot blob body reads = ap slot_of reads.1 ∙ slot_spelled body reads.0

-- bytes whose digest is another are damaged
pub damaged-slot : (blob stored found : List ℕ) → ReadsAs blob (damaged stored found) → slot_of blob ≡ damaged stored found
damaged-slot blob stored found reads = differs ∙ ap (λ (d : List ℕ). damaged d (sha256 (front_of blob))) (sym reads.1) ∙ ap (λ (d : List ℕ). damaged stored d) (sym reads.2)
  where
    by : (t : Bool) → bytes_eq (digest_in blob) (sha256 (front_of blob)) ≡ t → t ≡ false
    by true is = absurd (reads.3 (reads.1 ∙ (bytes_eq-Decides (digest_in blob) (sha256 (front_of blob))).0 is ∙ sym reads.2))
    by false is = refl

    other : bytes_eq (digest_in blob) (sha256 (front_of blob)) ≡ false
    other = by (bytes_eq (digest_in blob) (sha256 (front_of blob))) refl

    differs : slot_of blob ≡ damaged (digest_in blob) (sha256 (front_of blob))
    differs = digest_differs blob reads.0 other

short-slot : (blob : List ℕ) → length blob < 32 → slot_of blob ≡ no_set
unfolding slot_of
short-slot blob less = let short : ltb (length blob) 32 ≡ true = lt-ltb (length blob) 32 less in rw short refl

-- where bytes with their own digest are a set, bytes that are none are read as none
pub none-slot : (blob : List ℕ) → (IsWhole blob → IsSpelled blob) → ReadsAs blob no_set → slot_of blob ≡ no_set
none-slot blob whole (inl less) = short-slot blob less
none-slot blob whole (inr none) = elim (cases_lt (length blob) 32) [
  | inl less ↦ short-slot blob less
  | inr long ↦
      let spelled : IsSpelled blob = whole (record { long = long; same = none.0 }) in
      absurd (none.1 spelled.0 spelled.1.0 (ap front_of spelled.1.1 ∙ set_front spelled.0))
]
