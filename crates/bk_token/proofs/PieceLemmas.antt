-- What the code reads at the front of the bytes is a piece.
use Rattle.std.proofs.Common.{◌≡◌, ℕ, ◌+◌, ◌≤◌, Bool, true, cond, List, [], ◌∷◌, ◌++◌, length, take, drop, ap, sym, ◌∙◌, inr, Option, Some, None, arith}
use Rattle.std.specs.Char.{is_ascii_digit}
use Rattle.std.specs.List.{prefix_len}
use Rattle.std.proofs.lemmas.List.{take-append-drop, length-take-le}
use Rattle.std.proofs.lemmas.List.Sums.{prefix_len-le-length}
use Rattle.std.proofs.Math.Seq.{take-append-add, drop-append-add}
use Rattle.bk_token.specs.Bytes.{begins, is_within_line, is_word_byte, IsRun}
use Rattle.bk_token.specs.Pieces.{is_go, number_kind, IsUnclosed, opening, open_comment_len}
use Rattle.bk_token.specs.Reading.{Cuts, CutsBy, CutsQuotation, comment_from}
use Rattle.bk_token.specs.declared.opening.Opening.{Opening}
use Rattle.bk_token.specs.declared.opening.Opening.TheVariants.{DashComment, SlashComment, Letter, Digit}
use Rattle.bk_token.specs.declared.token.Kind.{Kind}
use Rattle.bk_token.specs.declared.token.Kind.TheVariants.{Word, Go, Bad}
use Rattle.bk_token.specs.RunLaws.{prefix_run, prefix_len-some}
use Rattle.bk_token.proofs.CommentLemmas.{comment_from-open, comment_from-le}

-- the longest run at the front, by its length
run_of : (p : ℕ → Bool) (bytes : List ℕ) (n : ℕ) → n ≡ prefix_len p bytes → IsRun p (take n bytes) (drop n bytes)
run_of p bytes n e = rw e (prefix_run p bytes)

pub cuts_line_comment : (before bytes : List ℕ) (n : ℕ) (found : Option Kind) → begins is_within_line bytes ≡ true → n ≡ prefix_len is_within_line bytes → found ≡ None → CutsBy DashComment before bytes n found
cuts_line_comment before bytes n found some e is = record {
  nonempty = omega (arith, e, prefix_len-some is_within_line bytes some);
  within = omega (arith, e, prefix_len-le-length is_within_line bytes);
  piece = (is, run_of is_within_line bytes n e);
}

pub cuts_word : (before bytes : List ℕ) (n : ℕ) (found : Option Kind) → begins is_word_byte bytes ≡ true → n ≡ prefix_len is_word_byte bytes → found ≡ Some (cond (is_go before (take n bytes) (drop n bytes)) Go Word) → CutsBy Letter before bytes n found
cuts_word before bytes n found some e is = record {
  nonempty = omega (arith, e, prefix_len-some is_word_byte bytes some);
  within = omega (arith, e, prefix_len-le-length is_word_byte bytes);
  piece = (is, run_of is_word_byte bytes n e);
}

pub cuts_number : (before bytes : List ℕ) (n : ℕ) (found : Option Kind) → begins is_ascii_digit bytes ≡ true → n ≡ prefix_len is_ascii_digit bytes → found ≡ Some (number_kind (take n bytes)) → CutsBy Digit before bytes n found
cuts_number before bytes n found some e is = record {
  nonempty = omega (arith, e, prefix_len-some is_ascii_digit bytes some);
  within = omega (arith, e, prefix_len-le-length is_ascii_digit bytes);
  piece = (is, run_of is_ascii_digit bytes n e);
}

-- two bytes at the front
split_two : (x y : ℕ) (bytes : List ℕ) → take 2 bytes ≡ x ∷ y ∷ [] → bytes ≡ x ∷ y ∷ drop 2 bytes
split_two x y bytes e = sym (take-append-drop 2 bytes) ∙ ap (λ l. l ++ drop 2 bytes) e

pub two_within : (x y : ℕ) (bytes : List ℕ) → take 2 bytes ≡ x ∷ y ∷ [] → 2 ≤ length bytes
two_within x y bytes e = omega (arith, ap length (split_two x y bytes e))

pub cuts_block_comment : (before bytes : List ℕ) (n : ℕ) (found : Option Kind) → take 2 bytes ≡ 47 ∷ 42 ∷ [] → n ≡ 2 + comment_from 0 0 (drop 2 bytes) → found ≡ None → CutsBy SlashComment before bytes n found
cuts_block_comment before bytes n found two e is =
    let more : List ℕ = drop 2 bytes in
    let k : ℕ = comment_from 0 0 more in
    let fits : k ≤ length more = comment_from-le 0 0 more in
    let whole : bytes ≡ 47 ∷ 42 ∷ more = split_two 47 42 bytes two in
    let text : take n bytes ≡ 47 ∷ 42 ∷ take k more = ap (λ m. take m bytes) e ∙ ap (take (2 + k)) whole ∙ take-append-add (47 ∷ 42 ∷ []) more k in
    let rest : drop n bytes ≡ drop k more = ap (λ m. drop m bytes) e ∙ ap (drop (2 + k)) whole ∙ drop-append-add (47 ∷ 42 ∷ []) more k in
    record {
      nonempty = omega arith;
      within = omega (arith, ap length whole);
      piece = (is, (take k more, text, ap (λ l. open_comment_len 0 (take k more ++ l)) rest ∙ ap (open_comment_len 0) (take-append-drop k more) ∙ sym (comment_from-open 0 more) ∙ sym (length-take-le k more fits)));
    }

pub cuts_bad_quotation : (kind : Kind) (front : List ℕ) (close : ℕ) (bytes : List ℕ) (n : ℕ) (found : Option Kind) → IsUnclosed front close bytes → begins is_within_line bytes ≡ true → n ≡ prefix_len is_within_line bytes → found ≡ Some Bad → CutsQuotation kind front close bytes n found
cuts_bad_quotation kind front close bytes n found unclosed some e is = record {
  nonempty = omega (arith, e, prefix_len-some is_within_line bytes some);
  within = omega (arith, e, prefix_len-le-length is_within_line bytes);
  piece = inr (is, run_of is_within_line bytes n e, rw (take-append-drop n bytes) unclosed);
}

-- a piece by its opening is a piece
pub cuts : (before bytes : List ℕ) (n : ℕ) (found : Option Kind) (o : Opening) → o ≡ opening bytes → CutsBy o before bytes n found → Cuts before bytes n found
cuts before bytes n found o e by = record {
  nonempty = by.nonempty;
  within = by.within;
  piece = rw (take-append-drop n bytes) (rw (sym e) by.piece);
}
