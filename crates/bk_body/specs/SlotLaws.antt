-- A slot is read in one way, and a set that is spelled is read as its body.
use Rattle.std.proofs.Common.{◌≡◌, ℕ, ◌+◌, ◌-◌, ◌<◌, ◌≤◌, Bool, true, false, ltb, List, [], ◌++◌, length, take, drop, Option, Some, None, refl, inl, inr, sym, ap, subst, ◌∙◌, arith, length-append}
use Rattle.std.proofs.lemmas.Bool.{le-ltb, lt-ltb, cases_lt}
use Rattle.std.proofs.lemmas.Slice.Eq.{bytes_eq-Decides}
use Rattle.std.proofs.lemmas.List.{take-append-drop}
use Rattle.std.proofs.Math.Seq.{take-append_seam, drop-append_seam}
use Rattle.std.specs.Str.{bytes_eq}
use Rattle.sha2.proofs.Facts256.{length-sha256}
use Rattle.sha2.specs.Sha256.{sha256}
use Rattle.bk_bytes.specs.CodecLaws.{AreBytes-take}
use Rattle.bk_bytes.specs.Field.{AreBytes}
use Rattle.bk_body.specs.Body.{Body}
use Rattle.bk_body.specs.Conditions.{IsBody}
use Rattle.bk_body.specs.Laws.{body_alone, body_whole, body_none, one_body}
use Rattle.bk_body.specs.Reading.{body_of}
use Rattle.bk_body.specs.Slots.{Slot, holds, damaged, no_set, front_of, digest_in, ReadsAs, holds_or_none, slot_of}
use Rattle.bk_body.specs.Spelling.{body_bytes, set_bytes}

-- ---- the parts of a spelled set

length-set : (body : Body) → length (set_bytes body) ≡ length (body_bytes body) + 32
length-set body = length-append (body_bytes body) (sha256 (body_bytes body)) ∙ ap (λ (n : ℕ). length (body_bytes body) + n) (length-sha256 (body_bytes body))

pub set_long : (body : Body) → 32 ≤ length (set_bytes body)
set_long body = omega (arith, length-set body)

set_place : (body : Body) → length (set_bytes body) - 32 ≡ length (body_bytes body)
set_place body = omega (arith, length-set body)

pub set_front : (body : Body) → front_of (set_bytes body) ≡ body_bytes body
set_front body = ap (λ (n : ℕ). take n (set_bytes body)) (set_place body) ∙ take-append_seam (body_bytes body) (sha256 (body_bytes body))

pub set_digest : (body : Body) → digest_in (set_bytes body) ≡ sha256 (body_bytes body)
set_digest body = ap (λ (n : ℕ). drop n (set_bytes body)) (set_place body) ∙ drop-append_seam (body_bytes body) (sha256 (body_bytes body))

-- ---- the function

short_none : (blob : List ℕ) → length blob < 32 → slot_of blob ≡ no_set
unfolding slot_of
short_none blob less = let short : ltb (length blob) 32 ≡ true = lt-ltb _ _ less in rw short refl

pub digest_differs : (blob : List ℕ) → 32 ≤ length blob → bytes_eq (digest_in blob) (sha256 (front_of blob)) ≡ false → slot_of blob ≡ damaged (digest_in blob) (sha256 (front_of blob))
unfolding slot_of
digest_differs blob long differ = let short : ltb (length blob) 32 ≡ false = le-ltb _ _ long in rw (short, differ) refl

pub digest_same : (blob : List ℕ) → 32 ≤ length blob → bytes_eq (digest_in blob) (sha256 (front_of blob)) ≡ true → slot_of blob ≡ holds_or_none (body_of (front_of blob))
unfolding slot_of
digest_same blob long same = let short : ltb (length blob) 32 ≡ false = le-ltb _ _ long in rw (short, same) refl

whole : (blob : List ℕ) → blob ≡ front_of blob ++ digest_in blob
whole blob = sym (take-append-drop (length blob - 32) blob)

-- the function gives what a blob is read as
pub slot_reads : (blob : List ℕ) → AreBytes blob → ReadsAs blob (slot_of blob)
slot_reads blob fits =
    elim (cases_lt (length blob) 32) [
      | inl less ↦ subst As (sym (short_none blob less)) (inl less)
      | inr long ↦ by_digest long (bytes_eq (digest_in blob) (sha256 (front_of blob))) refl
    ]
  where
    As : Slot → Type 0
    As slot = ReadsAs blob slot

    by_body : digest_in blob ≡ sha256 (front_of blob) → (read : Option Body) → body_of (front_of blob) ≡ read → ReadsAs blob (holds_or_none read)
    by_body same None is = inr (same, λ body is_body spelled. body_none (front_of blob) body is is_body spelled)
    by_body same (Some body) is =
        let read = body_whole (front_of blob) body (AreBytes-take (length blob - 32) blob fits) is in
        (read.1, whole blob ∙ ap (λ (d : List ℕ). front_of blob ++ d) same ∙ ap (λ (f : List ℕ). f ++ sha256 f) read.0)

    by_digest : 32 ≤ length blob → (test : Bool) → bytes_eq (digest_in blob) (sha256 (front_of blob)) ≡ test → ReadsAs blob (slot_of blob)
    by_digest long true is =
        subst As (sym (digest_same blob long is)) (by_body ((bytes_eq-Decides (digest_in blob) (sha256 (front_of blob))).0 is) (body_of (front_of blob)) refl)
    by_digest long false is =
        subst As (sym (digest_differs blob long is)) (long, refl, refl, λ same. let equal : bytes_eq (digest_in blob) (sha256 (front_of blob)) ≡ true = (bytes_eq-Decides (digest_in blob) (sha256 (front_of blob))).1 same in cc)

-- a set that is spelled is read as its body
pub slot_spelled : (body : Body) → IsBody body → slot_of (set_bytes body) ≡ holds body
slot_spelled body is =
    let same : digest_in (set_bytes body) ≡ sha256 (front_of (set_bytes body)) = set_digest body ∙ ap sha256 (sym (set_front body)) in
    digest_same (set_bytes body) (set_long body) ((bytes_eq-Decides (digest_in (set_bytes body)) (sha256 (front_of (set_bytes body)))).1 same)
    ∙ ap (λ (f : List ℕ). holds_or_none (body_of f)) (set_front body) ∙ ap holds_or_none (body_alone body is)

-- ---- one reading

-- what is known of a blob that is read as a body
record Held (blob : List ℕ) (body : Body) : Type 0 where
  is_body : IsBody body
  long : 32 ≤ length blob
  same : digest_in blob ≡ sha256 (front_of blob)
  front : front_of blob ≡ body_bytes body

held : (blob : List ℕ) (body : Body) → IsBody body → blob ≡ set_bytes body → Held blob body
held blob body is e =
    let front : front_of blob ≡ body_bytes body = ap front_of e ∙ set_front body in
    record {
      is_body = is;
      long = omega (arith, ap length e, set_long body);
      same = ap digest_in e ∙ set_digest body ∙ ap sha256 (sym front);
      front = front;
    }

not_damaged : (blob : List ℕ) (body : Body) (stored found : List ℕ) → Held blob body → ReadsAs blob (damaged stored found) → ⊥
not_damaged blob body stored found held is = is.3 (is.1 ∙ held.same ∙ sym is.2)

not_none : (blob : List ℕ) (body : Body) → Held blob body → ReadsAs blob no_set → ⊥
not_none blob body held (inl less) = omega (arith, less, held.long)
not_none blob body held (inr none) = none.1 body held.is_body held.front

damaged_not_none : (blob stored found : List ℕ) → ReadsAs blob (damaged stored found) → ReadsAs blob no_set → ⊥
damaged_not_none blob stored found is (inl less) = omega (arith, less, is.0)
damaged_not_none blob stored found is (inr none) = is.3 (is.1 ∙ none.0 ∙ sym is.2)

same_body : (blob : List ℕ) (body other : Body) → Held blob body → Held blob other → body ≡ other
same_body blob body other one two = (one_body body other [] [] one.is_body two.is_body (ap (λ (f : List ℕ). f ++ []) (sym one.front ∙ two.front))).0

pub one_reading : (blob : List ℕ) (slot other : Slot) → ReadsAs blob slot → ReadsAs blob other → slot ≡ other
one_reading blob (holds body) (holds other) one two = ap holds (same_body blob body other (held blob body one.0 one.1) (held blob other two.0 two.1))
one_reading blob (holds body) (damaged stored found) one two = absurd (not_damaged blob body stored found (held blob body one.0 one.1) two)
one_reading blob (holds body) no_set one two = absurd (not_none blob body (held blob body one.0 one.1) two)
one_reading blob (damaged stored found) (holds body) one two = absurd (not_damaged blob body stored found (held blob body two.0 two.1) one)
one_reading blob (damaged stored found) (damaged other more) one two =
    let same : stored ≡ other = one.1 ∙ sym two.1 in
    let also : found ≡ more = one.2 ∙ sym two.2 in
    cc
one_reading blob (damaged stored found) no_set one two = absurd (damaged_not_none blob stored found one two)
one_reading blob no_set (holds body) one two = absurd (not_none blob body (held blob body two.0 two.1) one)
one_reading blob no_set (damaged stored found) one two = absurd (damaged_not_none blob stored found two one)
one_reading blob no_set no_set one two = refl
