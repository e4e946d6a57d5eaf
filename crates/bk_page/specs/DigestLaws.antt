-- The length of a digest, and the digest of a page that stores one.
use Rattle.std.proofs.Common.{◌≡◌, ℕ, ◌+◌, ◌≤◌, List, ◌++◌, length, take, drop, ap, ◌∙◌, arith, length-append}
use Rattle.std.specs.Prelude.{replicate}
use Rattle.std.proofs.lemmas.List.{length-replicate, drop_at, take_at, length-take-le, append_assoc}
use Rattle.sha2.proofs.Facts256.{length-sha256}
use Rattle.sha2.specs.Sha256.{sha256}
use Rattle.bk_bytes.specs.Field.{with_field}
use Rattle.bk_page.specs.Page.{page_digest, sealed}

pub length-page_digest : (page : List ℕ) → length (page_digest page) ≡ 32
unfolding page_digest
length-page_digest page = length-sha256 (with_field page 32 (replicate 32 0))

-- the last of two fields in one place counts
pub with_field-twice : (bytes : List ℕ) (at n : ℕ) (first second : List ℕ) → length first ≡ n → length second ≡ n → at + n ≤ length bytes
    → with_field (with_field bytes at first) at second ≡ with_field bytes at second
with_field-twice bytes at n first second len len' within =
    let front = take at bytes in
    let front_len : length front ≡ at = length-take-le at bytes (omega arith) in
    let rest : List ℕ = drop (at + length first) bytes in
    let whole : (front ++ first) ++ rest ≡ front ++ (first ++ rest) = append_assoc front first rest in
    let fore : take at ((front ++ first) ++ rest) ≡ front = ap (take at) whole ∙ take_at front (first ++ rest) at front_len in
    let long : length (front ++ first) ≡ at + length second = omega (arith, length-append front first) in
    let same : at + length first ≡ at + length second = omega arith in
    let back : drop (at + length second) ((front ++ first) ++ rest) ≡ drop (at + length second) bytes =
    drop_at (front ++ first) rest (at + length second) long ∙ ap (λ m. drop m bytes) same in
    ap (λ l. (l ++ second) ++ drop (at + length second) ((front ++ first) ++ rest)) fore ∙ ap (λ l. (front ++ second) ++ l) back

-- a page that stores its digest has that digest
pub page_digest-sealed : (page : List ℕ) → length page ≡ 8192 → page_digest (sealed page) ≡ page_digest page
unfolding page_digest
page_digest-sealed page size =
    ap sha256 (with_field-twice page 32 32 (sha256 (with_field page 32 (replicate 32 0))) (replicate 32 0) (length-sha256 _) (length-replicate {A = ℕ} 32 0) (omega arith))
