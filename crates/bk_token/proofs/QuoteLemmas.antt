-- What closes a quote: the content that is spelled before it, and none other.
use Rattle.std.proofs.Common.{◌≡◌, ℕ, ◌+◌, ◌<◌, ◌≤◌, Bool, true, false, cond, eqb, List, [], ◌∷◌, ◌++◌, length, take, drop, refl, ap, sym, ◌∙◌, ◌⊎◌, inl, inr, ⊎_elim, subst, IsUtf8, append_assoc, length-append, Some, None, arith}
use Rattle.std.specs.List.{list_all}
use Rattle.std.proofs.lemmas.Bool.{eqb-true}
use Rattle.std.proofs.lemmas.List.{length-take-le, take-append-drop}
use Rattle.std.proofs.Math.Seq.{take-append_seam, drop-append_seam}
use Rattle.bk_token.specs.Bytes.{begins, is_within_line}
use Rattle.bk_token.specs.Pieces.{doubled, IsUnclosed}
use Rattle.bk_token.specs.Reading.{closing, CutsClosed}
use Rattle.bk_token.specs.Laws.{closed_closing}

-- what was read up to the quote that closes
pub record Found (close at : ℕ) (bs : List ℕ) (n : ℕ) : Type 0 where
  pub content : List ℕ
  pub rest : List ℕ
  pub spelled : bs ≡ doubled close content ++ close ∷ rest
  pub one_line : list_all is_within_line content ≡ true
  pub ends : begins (λ b. eqb b close) rest ≡ false
  pub len : n ≡ at + length (doubled close content) + 1

-- the same behind a quote that may be the first of two
FoundBy : Bool → ℕ → ℕ → List ℕ → ℕ → Type 0
FoundBy false close at bs n = Found close at bs n
FoundBy true close at bs n = ((begins (λ b. eqb b close) bs ≡ false) × (n ≡ at)) ⊎ ((more : List ℕ) × (bs ≡ close ∷ more) × Found close (at + 1) more n)

-- one more byte of the content
found_byte : (close at b : ℕ) (bs more : List ℕ) (n : ℕ) (t : Bool) → eqb b close ≡ t → eqb b 10 ≡ false → bs ≡ cond t (close ∷ close ∷ []) (b ∷ []) ++ more →
    Found close (at + length (cond t (close ∷ close ∷ []) (b ∷ []))) more n → Found close at bs n
found_byte close at b bs more n true e e10 is f = record {
  content = b ∷ f.content;
  rest = f.rest;
  spelled = rw e (is ∙ ap (λ l. close ∷ close ∷ l) f.spelled);
  one_line = rw e10 f.one_line;
  ends = f.ends;
  len = rw e (omega (arith, f.len));
}
found_byte close at b bs more n false e e10 is f = record {
  content = b ∷ f.content;
  rest = f.rest;
  spelled = rw e (is ∙ ap (λ l. b ∷ l) f.spelled);
  one_line = rw e10 f.one_line;
  ends = f.ends;
  len = rw e (omega (arith, f.len));
}

found_second : (close at b n : ℕ) (bs : List ℕ) (t : Bool) → eqb b close ≡ t → (closing close false (at + 1) bs ≡ Some n → Found close (at + 1) bs n) →
    cond t (closing close false (at + 1) bs) (Some at) ≡ Some n → FoundBy true close at (b ∷ bs) n
unfolding FoundBy
found_second close at b n bs true e more read = inr (bs, ap (λ c. c ∷ bs) (eqb-true b close e), more read)
found_second close at b n bs false e more read = inl (e, (cc))

found_first : (close at b n : ℕ) (bs : List ℕ) (t10 t : Bool) → eqb b 10 ≡ t10 → eqb b close ≡ t → (closing close t (at + 1) bs ≡ Some n → FoundBy t close (at + 1) bs n) →
    cond t10 None (closing close t (at + 1) bs) ≡ Some n → Found close at (b ∷ bs) n
unfolding FoundBy
found_first close at b n bs true t e10 e more read = (cc)
found_first close at b n bs false false e10 e more read = found_byte close at b (b ∷ bs) bs n false e e10 refl (more read)
found_first close at b n bs false true e10 e more read =
    ⊎_elim
    (λ closed. record {
      content = [];
      rest = bs;
      spelled = ap (λ c. c ∷ bs) (eqb-true b close e);
      one_line = refl;
      ends = closed.0;
      len = omega (arith, closed.1);
    })
    (λ second.
    let again : at + 1 + 1 ≡ at + 2 = omega arith in
    found_byte close at b (b ∷ bs) second.0 n true e e10 (ap (λ c. c ∷ bs) (eqb-true b close e) ∙ ap (λ l. close ∷ l) second.1) (subst (λ k. Found close k second.0 n) again second.2))
    (more read)

found : (close : ℕ) (state : Bool) (at n : ℕ) (bs : List ℕ) → closing close state at bs ≡ Some n → FoundBy state close at bs n
unfolding FoundBy
found close false at n [] read = (cc)
found close true at n [] read = inl (refl, (cc))
found close true at n (b ∷ bs) read = found_second close at b n bs (eqb b close) refl (found close false (at + 1) n bs) read
found close false at n (b ∷ bs) read = found_first close at b n bs (eqb b 10) (eqb b close) refl refl (found close (eqb b close) (at + 1) n bs) read

pub found_closing : (close n : ℕ) (bs : List ℕ) → closing close false 0 bs ≡ Some n → Found close 0 bs n
unfolding FoundBy
found_closing close n bs read = found close false 0 n bs read

-- what reading finds is closed
cut_front : (front content_end rest : List ℕ) (n : ℕ) → n ≡ length front + length content_end → (take n (front ++ (content_end ++ rest)) ≡ front ++ content_end) × (drop n (front ++ (content_end ++ rest)) ≡ rest)
cut_front front content_end rest n e =
    let joined : front ++ (content_end ++ rest) ≡ (front ++ content_end) ++ rest = sym (append_assoc front content_end rest) in
    let len : n ≡ length (front ++ content_end) = e ∙ sym (length-append front content_end) in
    (rw (joined, len) (take-append_seam (front ++ content_end) rest), rw (joined, len) (drop-append_seam (front ++ content_end) rest))

pub cuts_closed : (size close n : ℕ) (bytes : List ℕ) → 0 < size → size ≤ length bytes → closing close false 0 (drop size bytes) ≡ Some n → IsUtf8 (take (size + n) bytes) → CutsClosed (take size bytes) close bytes (size + n)
cuts_closed size close n bytes some fits read utf8 =
    let f = found_closing close n (drop size bytes) read in
    let D : List ℕ = doubled close f.content in
    let front : List ℕ = take size bytes in
    let len : size + n ≡ length front + length (D ++ close ∷ []) = rw length-append (omega (arith, f.len, length-take-le size bytes fits)) in
    let whole : bytes ≡ front ++ ((D ++ close ∷ []) ++ f.rest) = sym (take-append-drop size bytes) ∙ ap (λ l. front ++ l) (f.spelled ∙ sym (append_assoc D (close ∷ []) f.rest)) in
    let cut = cut_front front (D ++ close ∷ []) f.rest (size + n) len in
    let text : take (size + n) bytes ≡ front ++ (D ++ close ∷ []) = ap (take (size + n)) whole ∙ cut.0 in
    let rest : drop (size + n) bytes ≡ f.rest = ap (drop (size + n)) whole ∙ cut.1 in
    record {
      nonempty = omega arith;
      within = omega (arith, ap length whole, length-append front ((D ++ close ∷ []) ++ f.rest), length-append (D ++ close ∷ []) f.rest, len);
      closed = record {
        content = f.content;
        spelled = text;
        one_line = f.one_line;
        utf8 = utf8;
        ends = rw rest f.ends;
      };
    }

-- where reading finds no quote, none closes
pub unclosed_none : (size close : ℕ) (bytes : List ℕ) → size ≤ length bytes → eqb close 10 ≡ false → closing close false 0 (drop size bytes) ≡ None → IsUnclosed (take size bytes) close bytes
unclosed_none size close bytes fits c10 read text rest is closed =
    let found_it = closed_closing (take size bytes) close text rest c10 closed in
    let front : length (take size bytes) ≡ size = length-take-le size bytes fits in
    let same : closing close false 0 (drop (length (take size bytes)) (text ++ rest)) ≡ closing close false 0 (drop size bytes) = ap (closing close false 0) (ap (λ n. drop n (text ++ rest)) front ∙ ap (drop size) (sym is)) in
    cc (found_it.1, same, read)

-- where what is closed isn't UTF-8, nothing is
pub unclosed_utf8 : (size close n : ℕ) (bytes : List ℕ) → size ≤ length bytes → eqb close 10 ≡ false → closing close false 0 (drop size bytes) ≡ Some n → (IsUtf8 (take (size + n) bytes) → ⊥) → IsUnclosed (take size bytes) close bytes
unclosed_utf8 size close n bytes fits c10 read broken text rest is closed =
    let found_it = closed_closing (take size bytes) close text rest c10 closed in
    let front : length (take size bytes) ≡ size = length-take-le size bytes fits in
    let same : closing close false 0 (drop (length (take size bytes)) (text ++ rest)) ≡ closing close false 0 (drop size bytes) = ap (closing close false 0) (ap (λ n. drop n (text ++ rest)) front ∙ ap (drop size) (sym is)) in
    let n_is : found_it.0 ≡ n = cc (found_it.1, same, read) in
    let len : size + n ≡ length text = omega (arith, n_is, found_it.2, front) in
    let cut : take (size + n) bytes ≡ text = ap (take (size + n)) is ∙ ap (λ k. take k (text ++ rest)) len ∙ take-append_seam text rest in
    broken (rw cut closed.utf8)
