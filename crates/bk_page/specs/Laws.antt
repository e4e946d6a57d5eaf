-- What a change of a page leaves as it was.
use Rattle.std.proofs.Common.{◌≡◌, ℕ, ◌+◌, ◌*◌, ◌^◌, ◌<◌, ◌≤◌, List, [], length, take, refl, sym, ap, ◌∙◌, arith, ⊎_elim, lit≤}
use Rattle.std.specs.Prelude.{replicate}
use Rattle.std.proofs.lemmas.Bool.{cases_lt}
use Rattle.std.proofs.lemmas.List.{length-replicate, append-nil, take-replicate, drop-replicate}
use Rattle.bk_bytes.specs.Field.{number_of, bytes_of, with_field}
use Rattle.bk_bytes.specs.FieldLaws.{length-bytes_of, number_of-bytes_of}
use Rattle.bk_page.specs.Page.{part, digest_field, page_digest, with_lsn, with_cell, sealed, fresh_page}
use Rattle.bk_page.specs.Changes.{WritesCell, WritesLsn, Seals, IsFresh}
use Rattle.bk_page.specs.PartLaws.{part-with_field, part-with_field_before, part-with_field_after, length-with_field}
use Rattle.bk_page.specs.DigestLaws.{length-page_digest, page_digest-sealed}

-- a written field of n bytes is read
part-written : (page : List ℕ) (at n : ℕ) (field : List ℕ) → length field ≡ n → at ≤ length page → part (with_field page at field) at n ≡ field
part-written page at n field len within = ap (λ m. part (with_field page at field) at m) (sym len) ∙ part-with_field page at field within

-- the number in a field that was written
number-written : (page : List ℕ) (at n x : ℕ) → x < 256 ^ n → at ≤ length page → number_of n (part (with_field page at (bytes_of n x)) at n) ≡ x
number-written page at n x fits within =
    ap (number_of n) (part-written page at n (bytes_of n x) (length-bytes_of n x) within ∙ sym (append-nil (bytes_of n x)))
    ∙ number_of-bytes_of n x [] fits

pub with_cell-writes : (page image : List ℕ) (slot : ℕ) → length page ≡ 8192 → length image ≡ 128 → slot < 63
    → WritesCell page (with_cell page slot image) slot image
with_cell-writes page image slot size len low =
    let at = 96 + 128 * slot in
    let below : at + 128 ≤ 8192 = omega arith in
    let before : (a n : ℕ) → a + n ≤ 96 → part (with_field page at image) a n ≡ part page a n =
    λ a n h. part-with_field_before page at image a n (omega arith) (omega arith) in
    record {
      size = length-with_field page at image (omega arith) ∙ size;
      cell = part-written page at 128 image len (omega arith);
      others = λ other small apart. ⊎_elim
          (λ lt. part-with_field_before page at image (96 + 128 * other) 128 (omega arith) (omega arith))
          (λ ge. part-with_field_after page at image (96 + 128 * other) 128 (omega arith) (omega arith))
          (cases_lt other slot);
      place = record {
        number = ap (number_of 4) (before 8 4 (lit≤ tt));
        file = ap (number_of 2) (before 12 2 (lit≤ tt));
      };
      lsn = ap (number_of 8) (before 0 8 (lit≤ tt));
      digest = before 32 32 (lit≤ tt);
    }

pub with_lsn-writes : (page : List ℕ) (lsn : ℕ) → length page ≡ 8192 → lsn < 2 ^ 64 → WritesLsn page (with_lsn page lsn) lsn
with_lsn-writes page lsn size fits =
    let field = bytes_of 8 lsn in
    let len : length field ≡ 8 = length-bytes_of 8 lsn in
    let behind : (a n : ℕ) → 8 ≤ a → part (with_field page 0 field) a n ≡ part page a n =
    λ a n h. part-with_field_after page 0 field a n (omega arith) (omega arith) in
    record {
      size = length-with_field page 0 field (omega arith) ∙ size;
      lsn = number-written page 0 8 lsn fits (omega arith);
      place = record {
        number = ap (number_of 4) (behind 8 4 (lit≤ tt));
        file = ap (number_of 2) (behind 12 2 (lit≤ tt));
      };
      cells = λ slot low. behind (96 + 128 * slot) 128 (omega arith);
      digest = behind 32 32 (lit≤ tt);
    }

pub sealed-seals : (page : List ℕ) → length page ≡ 8192 → Seals page (sealed page)
sealed-seals page size =
    let field = page_digest page in
    let len : length field ≡ 32 = length-page_digest page in
    let before : (a n : ℕ) → a + n ≤ 32 → part (with_field page 32 field) a n ≡ part page a n =
    λ a n h. part-with_field_before page 32 field a n h (omega arith) in
    let stored : digest_field (sealed page) ≡ page_digest page = part-written page 32 32 field len (omega arith) in
    record {
      size = length-with_field page 32 field (omega arith) ∙ size;
      stored = stored;
      own = stored ∙ sym (page_digest-sealed page size);
      place = record {
        number = ap (number_of 4) (before 8 4 (lit≤ tt));
        file = ap (number_of 2) (before 12 2 (lit≤ tt));
      };
      cells = λ slot low. part-with_field_after page 32 field (96 + 128 * slot) 128 (omega arith) (omega arith);
      lsn = ap (number_of 8) (before 0 8 (lit≤ tt));
    }

zero_number : number_of 8 (replicate 8 0) ≡ 0
unfolding number_of
zero_number = refl

-- a page of which each part was zeros
fresh-from_zeros : (zeros : List ℕ) (file number : ℕ) → length zeros ≡ 8192 → ((a n : ℕ) → a + n ≤ 8192 → part zeros a n ≡ replicate n 0)
    → file < 2 ^ 16 → number < 2 ^ 32
    → IsFresh (sealed (with_field (with_field zeros 8 (bytes_of 4 number)) 12 (bytes_of 2 file))) file number
fresh-from_zeros zeros file number size blank file_fits number_fits =
    let four = bytes_of 4 number in
    let two = bytes_of 2 file in
    let four_len : length four ≡ 4 = length-bytes_of 4 number in
    let two_len : length two ≡ 2 = length-bytes_of 2 file in
    let first = with_field zeros 8 four in
    let first_size : length first ≡ 8192 = length-with_field zeros 8 four (omega arith) ∙ size in
    let second = with_field first 12 two in
    let second_size : length second ≡ 8192 = length-with_field first 12 two (omega arith) ∙ first_size in
    let seals = sealed-seals second second_size in
    record {
      size = seals.size;
      lsn = seals.lsn ∙ ap (number_of 8) (part-with_field_before first 12 two 0 8 (lit≤ tt) (omega arith)
          ∙ part-with_field_before zeros 8 four 0 8 (lit≤ tt) (omega arith) ∙ blank 0 8 (lit≤ tt)) ∙ zero_number;
      number = seals.place.number ∙ ap (number_of 4) (part-with_field_before first 12 two 8 4 (lit≤ tt) (omega arith))
          ∙ number-written zeros 8 4 number number_fits (omega arith);
      file = seals.place.file ∙ number-written first 12 2 file file_fits (omega arith);
      cells = λ slot low. seals.cells slot low ∙ part-with_field_after first 12 two (96 + 128 * slot) 128 (omega arith) (omega arith)
          ∙ part-with_field_after zeros 8 four (96 + 128 * slot) 128 (omega arith) (omega arith) ∙ blank (96 + 128 * slot) 128 (omega arith);
      digest = seals.own;
    }

part-replicate : (size a n : ℕ) → a + n ≤ size → part (replicate size 0) a n ≡ replicate n 0
part-replicate size a n within = ap (take n) (drop-replicate a size 0) ∙ take-replicate n _ 0 (omega arith)

pub fresh_page-fresh : (file number : ℕ) → file < 2 ^ 16 → number < 2 ^ 32 → IsFresh (fresh_page file number) file number
unfolding fresh_page
fresh_page-fresh file number file_fits number_fits =
    fresh-from_zeros (replicate 8192 0) file number (length-replicate {A = ℕ} 8192 0) (part-replicate 8192) file_fits number_fits
