-- Reading on from a place, piece by piece.
use Rattle.std.proofs.Common.{◌≡◌, ℕ, ◌+◌, cond, List, ◌∷◌, ◌++◌, length, take, drop, ap, sym, ◌∙◌, min, Option, Some, None, arith}
use Rattle.std.specs.Prelude.{count_by}
use Rattle.std.proofs.Math.Seq.{take-add}
use Rattle.std.proofs.lemmas.List.{take-append-drop, length-take-le, length-drop, drop-drop}
use Rattle.std.proofs.lemmas.List.Sums.{sum_by-append}
use Rattle.bk_token.specs.Bytes.{is_line_feed}
use Rattle.bk_token.specs.Pieces.{IsPiece}
use Rattle.bk_token.specs.Places.{IsPlace, AreTokensAt, IsNextPiece}
use Rattle.bk_token.specs.Reading.{Cuts}
use Rattle.bk_token.specs.Tokens.{AreTokensFrom, ended, passed, token, token_of}
use Rattle.bk_token.specs.declared.place.Place.{Place}
use Rattle.bk_token.specs.declared.token.Kind.{Kind}
use Rattle.bk_token.specs.declared.token.Token.{Token}
use Rattle.bk_token.specs.Laws.{piece_one, no_piece}
use Rattle.bk_token.proofs.TokenLemmas.{token_is}

-- of these tokens the piece is the first, if it is one, and the others are those behind it
NextBy : Option Kind → List ℕ → List ℕ → List ℕ → List Token → Type 0
NextBy None before text rest ts = AreTokensFrom (before ++ text) rest ts
NextBy (Some kind) before text rest ts = (others : List Token) × (ts ≡ token_of before text kind ∷ others) × AreTokensFrom (before ++ text) rest others

next_by : {before bytes : List ℕ} {ts : List Token} → AreTokensFrom before bytes ts → (text rest : List ℕ) (k : Option Kind) → bytes ≡ text ++ rest → IsPiece before text rest k → NextBy k before text rest ts
unfolding NextBy
next_by {before} ended text rest k e p = absurd (no_piece before text rest k e p)
next_by {before} (passed text rest e p more) text' rest' None e' p' =
    let one = piece_one before text' rest' text rest None None (sym e' ∙ e) p' p in
    rw (one.0, one.1) more
next_by {before} (passed text rest e p more) text' rest' (Some kind') e' p' =
    let one = piece_one before text' rest' text rest (Some kind') None (sym e' ∙ e) p' p in
    cc one.2
next_by {before} (token text rest kind e p more) text' rest' None e' p' =
    let one = piece_one before text' rest' text rest None (Some kind) (sym e' ∙ e) p' p in
    cc one.2
next_by {before} (token {ts = ts} text rest kind e p more) text' rest' (Some kind') e' p' =
    let one = piece_one before text rest text' rest' (Some kind) (Some kind') (sym e ∙ e') p p' in
    let same : kind ≡ kind' = cc one.2 in (
      ts,
      ap (λ t. token_of before t kind ∷ ts) one.0 ∙ ap (λ k. token_of before text' k ∷ ts) same,
      rw (sym one.0, sym one.1) more,
    )

-- the place behind a piece
pub place_behind : (src : List ℕ) (p q : Place) (len more : ℕ) (k : Option Kind) → IsPlace src p → Cuts (take p.at src) (drop p.at src) len k → q.at ≡ p.at + len → q.feeds ≡ p.feeds + more →
    more ≡ count_by is_line_feed (take len (drop p.at src)) → IsPlace src q
place_behind src p q len more k place cut at feeds counted =
    let before : List ℕ = take p.at src in
    let text : List ℕ = take len (drop p.at src) in
    let before_next : take q.at src ≡ before ++ text = ap (λ n. take n src) at ∙ take-add p.at len src in
    record {
      within = omega (arith, at, place.within, cut.within, length-drop p.at src);
      counted = rw before_next (omega (arith, feeds, place.counted, counted, sum_by-append (λ b. cond (is_line_feed b) 1 0) before text));
    }

-- behind a piece stand the other tokens
next_cut : (src : List ℕ) (p q : Place) (len : ℕ) (k : Option Kind) (ts : List Token) → IsPlace src p → Cuts (take p.at src) (drop p.at src) len k → q.at ≡ p.at + len → AreTokensAt src p ts →
    NextBy k (take p.at src) (take len (drop p.at src)) (drop q.at src) ts
next_cut src p q len k ts place cut at tokens =
    let rest_next : drop q.at src ≡ drop len (drop p.at src) = ap (λ n. drop n src) at ∙ sym (drop-drop len p.at src) in
    rw rest_next (next_by tokens (take len (drop p.at src)) (drop len (drop p.at src)) k (sym (take-append-drop len (drop p.at src))) cut.piece)

before_next : (src : List ℕ) (p q : Place) (len : ℕ) → q.at ≡ p.at + len → take p.at src ++ take len (drop p.at src) ≡ take q.at src
before_next src p q len at = sym (ap (λ n. take n src) at ∙ take-add p.at len src)

-- a piece that is passed over
pub passed_next : (src : List ℕ) (p q : Place) (len : ℕ) (ts : List Token) → IsPlace src p → Cuts (take p.at src) (drop p.at src) len None → q.at ≡ p.at + len → AreTokensAt src p ts → AreTokensAt src q ts
unfolding NextBy
passed_next src p q len ts place cut at tokens = rw (sym (before_next src p q len at)) (next_cut src p q len None ts place cut at tokens)

-- a piece that is a token
pub token_next : (src : List ℕ) (p q : Place) (len start last line : ℕ) (kind : Kind) (ts : List Token) → IsPlace src p → Cuts (take p.at src) (drop p.at src) len (Some kind) → q.at ≡ p.at + len →
    start ≡ p.at → last ≡ p.at + len → line ≡ min (p.feeds + 1) 4294967295 → AreTokensAt src p ts →
    IsNextPiece src (Some (record { kind = kind; start = start; «end» = last; line = line })) ts q
unfolding NextBy
token_next src p q len start last line kind ts place cut at s e l tokens =
    let found = next_cut src p q len (Some kind) ts place cut at tokens in
    let size : length (take p.at src) ≡ p.at = length-take-le p.at src place.within in
    let text_size : length (take len (drop p.at src)) ≡ len = length-take-le len (drop p.at src) cut.within in
    let same = token_is (take p.at src) (take len (drop p.at src)) kind start last line (omega (arith, s, size)) (omega (arith, e, size, text_size)) (l ∙ ap (λ n. min (n + 1) 4294967295) place.counted) in
    (found.0, found.1 ∙ ap (λ t. t ∷ found.0) (sym same), rw (sym (before_next src p q len at)) found.2)
