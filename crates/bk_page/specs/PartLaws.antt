-- A part of bytes in which a field was written.
use Rattle.std.proofs.Common.{◌≡◌, ℕ, ◌+◌, ◌-◌, ◌≤◌, List, ◌++◌, length, take, drop, refl, sym, ap, ◌∙◌, arith, append_assoc, length-append, length-drop}
use Rattle.std.proofs.lemmas.List.{length-take-le, drop_at, take_at, drop-take, take-append-le, take-take, drop-drop}
use Rattle.bk_bytes.specs.Field.{number_of, with_field}
use Rattle.bk_bytes.specs.FieldLaws.{number_of-take}
use Rattle.bk_page.specs.Page.{part}

-- the part as the end of a front
part-front : (bytes : List ℕ) (at n : ℕ) → part bytes at n ≡ drop at (take (at + n) bytes)
part-front bytes at n = sym (drop-take at n bytes)

-- a written field is read
pub part-with_field : (bytes : List ℕ) (at : ℕ) (field : List ℕ) → at ≤ length bytes → part (with_field bytes at field) at (length field) ≡ field
part-with_field bytes at field within =
    let front = take at bytes in
    let rest = drop (at + length field) bytes in
    let whole : (front ++ field) ++ rest ≡ front ++ (field ++ rest) = append_assoc front field rest in
    let behind : drop at ((front ++ field) ++ rest) ≡ field ++ rest =
    ap (drop at) whole ∙ drop_at front (field ++ rest) at (length-take-le at bytes within) in
    ap (take (length field)) behind ∙ take_at field rest (length field) refl

-- what stands before it stays
pub part-with_field_before : (bytes : List ℕ) (at : ℕ) (field : List ℕ) (a n : ℕ) → a + n ≤ at → at ≤ length bytes
    → part (with_field bytes at field) a n ≡ part bytes a n
part-with_field_before bytes at field a n before within =
    let front = take at bytes in
    let rest = drop (at + length field) bytes in
    let len : length front ≡ at = length-take-le at bytes within in
    let short : a + n ≤ length front = omega arith in
    let shorter : a + n ≤ length (front ++ field) = omega (arith, length-append front field) in
    let cut : take (a + n) ((front ++ field) ++ rest) ≡ take (a + n) bytes =
    take-append-le (a + n) (front ++ field) rest shorter ∙ take-append-le (a + n) front field short ∙ take-take (a + n) at bytes before in
    part-front (with_field bytes at field) a n ∙ ap (drop a) cut ∙ sym (part-front bytes a n)

-- what stands behind it stays
pub part-with_field_after : (bytes : List ℕ) (at : ℕ) (field : List ℕ) (a n : ℕ) → at + length field ≤ a → at + length field ≤ length bytes
    → part (with_field bytes at field) a n ≡ part bytes a n
part-with_field_after bytes at field a n behind within =
    let front = take at bytes in
    let end = at + length field in
    let k = a - end in
    let place : end + k ≡ a = omega arith in
    let len : length (front ++ field) ≡ end = length-append front field ∙ ap (λ m. m + length field) (length-take-le at bytes (omega arith)) in
    let rest : drop end (with_field bytes at field) ≡ drop end bytes = drop_at (front ++ field) (drop end bytes) end len in
    let moved : (l : List ℕ) → drop a l ≡ drop k (drop end l) = λ l. ap (λ m. drop m l) (sym place) ∙ sym (drop-drop k end l) in
    ap (take n) (moved (with_field bytes at field) ∙ ap (drop k) rest ∙ sym (moved bytes))

-- the length stays
pub length-with_field : (bytes : List ℕ) (at : ℕ) (field : List ℕ) → at + length field ≤ length bytes → length (with_field bytes at field) ≡ length bytes
length-with_field bytes at field within =
    let front : length (take at bytes) ≡ at = length-take-le at bytes (omega arith) in
    omega (arith, front, length-append (take at bytes ++ field) (drop (at + length field) bytes), length-append (take at bytes) field, length-drop (at + length field) bytes)

-- the number in a part
pub number_of-part : (n at : ℕ) (bytes : List ℕ) → number_of n (part bytes at n) ≡ number_of n (drop at bytes)
number_of-part n at bytes = number_of-take n n (drop at bytes) (omega arith)

-- a field that replaces as many bytes
pub put-with_field : (bytes : List ℕ) (at n : ℕ) (field : List ℕ) → length field ≡ n
    → take at bytes ++ (field ++ drop n (drop at bytes)) ≡ with_field bytes at field
put-with_field bytes at n field len =
    let rest : drop n (drop at bytes) ≡ drop (at + length field) bytes = drop-drop n at bytes ∙ ap (λ m. drop (at + m) bytes) (sym len) in
    ap (λ l. take at bytes ++ (field ++ l)) rest ∙ sym (append_assoc (take at bytes) field (drop (at + length field) bytes))
