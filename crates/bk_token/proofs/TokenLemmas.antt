-- The spans of a token list rise, and each token is its slice.
use Rattle.std.proofs.Common.{◌≡◌, ℕ, ◌+◌, ◌-◌, ◌≤◌, cond, List, [], ◌∷◌, ◌++◌, length, take, drop, ap, sym, ◌∙◌, subst, append_assoc, append-nil, length-append, min, Option, Some, None, arith}
use Rattle.std.specs.Prelude.{All, count_by}
use Rattle.std.proofs.Math.Seq.{take-append_seam, drop-append_seam, drop-append-add}
use Rattle.std.proofs.lemmas.List.{take-append-drop, length-take-le, length-drop, drop-drop}
use Rattle.std.proofs.Math.Seq.{take-add}
use Rattle.std.proofs.lemmas.List.Sums.{sum_by-append}
use Rattle.std.proofs.Math.ListN.{drop_of_length-le}
use Rattle.std.proofs.lemmas.List.Elements.{All-nil, All-cons}
use Rattle.bk_token.specs.Bytes.{is_line_feed}
use Rattle.bk_token.specs.Pieces.{IsPiece}
use Rattle.bk_token.specs.Reading.{Cuts, as_token}
use Rattle.bk_token.specs.Tokens.{AreTokensFrom, ended, passed, token, AreTokens, SpansRise, IsItsSlice, token_of, line_behind}
use Rattle.bk_token.specs.declared.token.Kind.{Kind}
use Rattle.bk_token.specs.declared.token.Token.{Token}
use Rattle.bk_token.specs.Laws.{piece_some}

-- spans that rise from a place rise from one before it
rise_sooner : (from sooner : ℕ) (src : List ℕ) (ts : List Token) → sooner ≤ from → SpansRise from src ts → SpansRise sooner src ts
rise_sooner from sooner src [] le rise = omega arith
rise_sooner from sooner src (t ∷ ts) le rise = (omega (arith, rise.0), rise.1, rise.2)

rise_from : {before bytes : List ℕ} {ts : List Token} → AreTokensFrom before bytes ts → SpansRise (length before) (before ++ bytes) ts
rise_from {before} ended = omega (arith, length-append before [])
rise_from {before} {bytes} {ts} (passed text rest e p more) =
    let whole : (before ++ text) ++ rest ≡ before ++ bytes = append_assoc before text rest ∙ ap (λ l. before ++ l) (sym e) in
    let le : length before ≤ length (before ++ text) = omega (arith, length-append before text) in
    rise_sooner (length (before ++ text)) (length before) (before ++ bytes) ts le (subst (λ l. SpansRise (length (before ++ text)) l ts) whole (rise_from more))
rise_from {before} {bytes} (token {ts = ts} text rest kind e p more) =
    let whole : (before ++ text) ++ rest ≡ before ++ bytes = append_assoc before text rest ∙ ap (λ l. before ++ l) (sym e) in
    let len : length (before ++ text) ≡ length before + length text = length-append before text in
    (omega arith, omega (arith, piece_some before text rest (Some kind) p), subst (λ l. SpansRise (length before + length text) l ts) whole (subst (λ n. SpansRise n ((before ++ text) ++ rest) ts) len (rise_from more)))

pub spans_rise : (src : List ℕ) (ts : List Token) → AreTokens src ts → SpansRise 0 src ts
spans_rise src ts a = rise_from a

-- a token's place in the bytes
slice_of : (before text rest : List ℕ) (kind : Kind) → IsPiece before text rest (Some kind) → IsItsSlice (before ++ (text ++ rest)) (token_of before text kind)
slice_of before text rest kind p =
    let b : take (length before) (before ++ (text ++ rest)) ≡ before = take-append_seam before (text ++ rest) in
    let behind : drop (length before) (before ++ (text ++ rest)) ≡ text ++ rest = drop-append_seam before (text ++ rest) in
    let size : length before + length text - length before ≡ length text = omega arith in
    let t : take (length before + length text - length before) (drop (length before) (before ++ (text ++ rest))) ≡ text = ap (λ n. take n (drop (length before) (before ++ (text ++ rest)))) size ∙ ap (take (length text)) behind ∙ take-append_seam text rest in
    let r : drop (length before + length text) (before ++ (text ++ rest)) ≡ rest = drop-append-add before (text ++ rest) (length text) ∙ drop-append_seam text rest in
    rw (b, t, r) p

slices_from : {before bytes : List ℕ} {ts : List Token} → AreTokensFrom before bytes ts → All (IsItsSlice (before ++ bytes)) ts
slices_from {before} ended = All-nil (IsItsSlice (before ++ []))
slices_from {before} {bytes} {ts} (passed text rest e p more) =
    let whole : (before ++ text) ++ rest ≡ before ++ bytes = append_assoc before text rest ∙ ap (λ l. before ++ l) (sym e) in
    subst (λ l. All (IsItsSlice l) ts) whole (slices_from more)
slices_from {before} {bytes} (token {ts = ts} text rest kind e p more) =
    let whole : (before ++ text) ++ rest ≡ before ++ bytes = append_assoc before text rest ∙ ap (λ l. before ++ l) (sym e) in
    All-cons (IsItsSlice (before ++ bytes)) _ ts
    (subst (λ l. IsItsSlice (before ++ l) (token_of before text kind)) (sym e) (slice_of before text rest kind p))
    (subst (λ l. All (IsItsSlice l) ts) whole (slices_from more))

pub slices : (src : List ℕ) (ts : List Token) → AreTokens src ts → All (IsItsSlice src) ts
slices src ts a = slices_from a

-- the loop: the tokens so far are those of the front, whatever those of the rest are
pub record TokensSoFar (src : List ℕ) (found : List Token) (at feeds : ℕ) : Type 0 where
  pub within : at ≤ length src
  pub counted : feeds ≡ count_by is_line_feed (take at src)
  pub goes_on : (ts : List Token) → AreTokensFrom (take at src) (drop at src) ts → AreTokensFrom [] src (found ++ ts)

-- the loop has read all
pub all_read : (src : List ℕ) (found : List Token) (at feeds : ℕ) → length src ≤ at → TokensSoFar src found at feeds → AreTokens src found
all_read src found at feeds past so_far =
    let none : drop at src ≡ [] = drop_of_length-le src past in
    let last : AreTokensFrom (take at src) (drop at src) [] = rw none ended in
    rw (← append-nil found) (so_far.goes_on [] last)

-- a token by its fields
pub token_is : (before text : List ℕ) (kind : Kind) (start last line : ℕ) → start ≡ length before → last ≡ length before + length text → line ≡ line_behind before →
    (let t : Token = record { kind = kind; start = start; «end» = last; line = line } in t ≡ token_of before text kind)
token_is before text kind start last line s e l = λ i. record { kind = kind; start = s i; «end» = e i; line = l i }

-- one piece more, and the tokens of the rest
one_more : (before bytes text rest : List ℕ) (k : Option Kind) (ts : List Token) (start last line : ℕ) → bytes ≡ text ++ rest → IsPiece before text rest k →
    start ≡ length before → last ≡ length before + length text → line ≡ line_behind before →
    AreTokensFrom (before ++ text) rest ts → AreTokensFrom before bytes (as_token k start last line ++ ts)
one_more before bytes text rest None ts start last line e p s l n more = passed text rest e p more
one_more before bytes text rest (Some kind) ts start last line e p s l n more =
    subst (λ t. AreTokensFrom before bytes (t ∷ ts)) (sym (token_is before text kind start last line s l n)) (token text rest kind e p more)

-- one turn of the loop
pub turn : (src : List ℕ) (found : List Token) (at feeds len more line : ℕ) (k : Option Kind) → TokensSoFar src found at feeds → Cuts (take at src) (drop at src) len k →
    more ≡ count_by is_line_feed (take len (drop at src)) → line ≡ min (feeds + 1) 4294967295 →
    TokensSoFar src (found ++ as_token k at (at + len) line) (at + len) (feeds + more)
turn src found at feeds len more line k so_far cut counted line_is =
    let before : List ℕ = take at src in
    let text : List ℕ = take len (drop at src) in
    let before_next : take (at + len) src ≡ before ++ text = take-add at len src in
    let rest_next : drop (at + len) src ≡ drop len (drop at src) = sym (drop-drop len at src) in
    let size : length before ≡ at = length-take-le at src so_far.within in
    let text_size : length text ≡ len = length-take-le len (drop at src) cut.within in
    record {
      within = omega (arith, so_far.within, cut.within, length-drop at src);
      counted = rw before_next (omega (arith, so_far.counted, counted, sum_by-append (λ b. cond (is_line_feed b) 1 0) before text));
      goes_on = λ ts tokens.
          let moved : AreTokensFrom (before ++ text) (drop len (drop at src)) ts = rw (← before_next, ← rest_next) tokens in
          let whole = one_more before (drop at src) text (drop len (drop at src)) k ts at (at + len) line (sym (take-append-drop len (drop at src))) cut.piece (sym size) (omega (arith, size, text_size)) (line_is ∙ ap (λ n. min (n + 1) 4294967295) so_far.counted) moved in
          rw append_assoc (so_far.goes_on (as_token k at (at + len) line ++ ts) whole);
    }
