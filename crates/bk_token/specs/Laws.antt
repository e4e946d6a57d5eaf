-- Bytes have one token list.
use Rattle.std.proofs.Common.{◌≡◌, ℕ, ◌+◌, ◌<◌, ◌≤◌, Bool, true, false, cond, eqb, List, [], ◌∷◌, ◌++◌, length, take, drop, refl, ap, sym, ◌∙◌, ⊎_elim, append_assoc, length-append, Some, None, arith, ◌&&◌, Option}
use Rattle.std.specs.List.{list_all, prefix_len}
use Rattle.std.proofs.lemmas.Bool.{and_parts, not-true, eq-eqb, both_ways}
use Rattle.std.proofs.Math.Seq.{take-append_seam, drop-append_seam}
use Rattle.std.proofs.Math.ListN.{drop_of_length-le}
use Rattle.bk_token.specs.Bytes.{begins, is_within_line, is_blank, begins_word, is_sign, IsRun}
use Rattle.bk_token.specs.Pieces.{doubled, IsClosed, opening, opening_mark, is_go, number_kind, open_comment_len, first_of_bytes, IsBlockComment, IsQuotation, IsPieceBy, IsPiece}
use Rattle.bk_token.specs.Reading.{closing, Opens}
use Rattle.std.specs.Char.{is_ascii_digit}
use Rattle.std.proofs.lemmas.Grind.{common_steps}
use Rattle.bk_token.specs.declared.opening.Opening.{Opening}
use Rattle.bk_token.specs.declared.opening.Opening.TheVariants.{Blank, DashComment, SlashComment, Letter, Digit, Quote, NationalQuote, Bracket, DoubleQuote, ColonByte, SignByte, Other}
use Rattle.bk_token.specs.declared.token.Kind.{Kind}
use Rattle.bk_token.specs.declared.token.Kind.TheVariants.{Word, Go, Sign}
use Rattle.bk_token.specs.RunLaws.{prefix_len-run}
use Rattle.bk_token.specs.Tokens.{AreTokensFrom, ended, passed, token, AreTokens, token_of}
use Rattle.bk_token.specs.declared.place.Place.{Place}
use Rattle.bk_token.specs.declared.token.Token.{Token}
use Rattle.bk_token.specs.Places.{AreTokensAt}

-- ---- quotes

-- behind the closing quote another byte, or none, follows
closing-second : (close at : ℕ) (rest : List ℕ) → begins (λ b. eqb b close) rest ≡ false → closing close true at rest ≡ Some at
closing-second close at [] e = refl
closing-second close at (b ∷ bs) e = rw e refl

-- a quote that closes is read as closing
closing-quote : (close at : ℕ) (rest : List ℕ) → eqb close 10 ≡ false → begins (λ b. eqb b close) rest ≡ false → closing close false at (close ∷ rest) ≡ Some (at + 1)
closing-quote close at rest c10 e = let same : eqb close close ≡ true = eq-eqb close close refl in rw (c10, same) (closing-second close (at + 1) rest e)

-- one byte of the content is read
closing-byte : (close at b : ℕ) (rest : List ℕ) (t : Bool) → eqb close 10 ≡ false → eqb b 10 ≡ false → eqb b close ≡ t →
    closing close false at (cond t (close ∷ close ∷ []) (b ∷ []) ++ rest) ≡ closing close false (at + length (cond t (close ∷ close ∷ []) (b ∷ []))) rest
closing-byte close at b rest true c10 b10 e = let same : eqb close close ≡ true = eq-eqb close close refl in rw (c10, same) (rw same (ap (λ n. closing close false n rest) (omega arith)))
closing-byte close at b rest false c10 b10 e = rw (b10, e) refl

-- a byte within the line is no line feed
within_line : (b : ℕ) → is_within_line b ≡ true → eqb b 10 ≡ false
within_line b e = not-true _ e

pub closing-doubled : (close at : ℕ) (content rest : List ℕ) → eqb close 10 ≡ false → list_all is_within_line content ≡ true → begins (λ b. eqb b close) rest ≡ false →
    closing close false at (doubled close content ++ close ∷ rest) ≡ Some (at + length (doubled close content) + 1)
closing-doubled close at [] rest c10 line ends = closing-quote close at rest c10 ends ∙ ap Some (omega arith)
closing-doubled close at (b ∷ bs) rest c10 line ends =
    let byte : List ℕ = cond (eqb b close) (close ∷ close ∷ []) (b ∷ []) in
    let parts = and_parts (is_within_line b) (list_all is_within_line bs) line in
    rw append_assoc (
    closing-byte close at b (doubled close bs ++ close ∷ rest) (eqb b close) c10 (within_line b parts.0) refl
    ∙ closing-doubled close (at + length byte) bs rest c10 parts.1 ends
    ∙ ap Some (omega (arith, length-append byte (doubled close bs))))

-- the quote that closes a text is the one that reading finds
pub closed_closing : (front : List ℕ) (close : ℕ) (text rest : List ℕ) → eqb close 10 ≡ false → IsClosed front close text rest →
    (n : ℕ) × (closing close false 0 (drop (length front) (text ++ rest)) ≡ Some n) × (length text ≡ length front + n)
closed_closing front close text rest c10 closed =
    let D : List ℕ = doubled close closed.content in
    let whole : text ++ rest ≡ front ++ (D ++ close ∷ rest) = ap (λ l. l ++ rest) closed.spelled ∙ append_assoc front (D ++ close ∷ []) rest ∙ ap (λ l. front ++ l) (append_assoc D (close ∷ []) rest) in
    let behind : drop (length front) (text ++ rest) ≡ D ++ close ∷ rest = ap (drop (length front)) whole ∙ drop-append_seam front (D ++ close ∷ rest) in (
      0 + length D + 1,
      ap (closing close false 0) behind ∙ closing-doubled close 0 closed.content rest c10 closed.one_line closed.ends,
      ap length closed.spelled ∙ simp length-append (omega arith),
    )

-- ---- openings

-- of two openings, the one that a test picks
pick : (P : Opening → Type 0) (t : Bool) (x y : Opening) → (t ≡ true → P x) → P y → P (cond t x y)
pick P true x y first second = first refl
pick P false x y first second = second

opens_dash : (b : ℕ) (bs : List ℕ) → (eqb b 45 && begins (λ c. eqb c 45) bs) ≡ true → Opens DashComment (b ∷ bs)
opens_dash b bs e = grind (arith, common_steps)

opens_slash : (b : ℕ) (bs : List ℕ) → (eqb b 47 && begins (λ c. eqb c 42) bs) ≡ true → Opens SlashComment (b ∷ bs)
opens_slash b [] e = grind (arith, common_steps)
opens_slash b (c ∷ bs) e = grind (arith, common_steps)

opens_national : (b : ℕ) (bs : List ℕ) → (eqb b 78 && begins (λ c. eqb c 39) bs) ≡ true → Opens NationalQuote (b ∷ bs)
opens_national b [] e = grind (arith, common_steps)
opens_national b (c ∷ bs) e = grind (arith, common_steps)

opens_letter : (b : ℕ) (bs : List ℕ) → begins_word b ≡ true → Opens Letter (b ∷ bs)
opens_letter b bs e = grind (arith, common_steps)

pub opens_mark : (b : ℕ) (bs : List ℕ) → Opens (opening_mark b) (b ∷ bs)
unfolding opening_mark
opens_mark b bs =
    let P : Opening → Type 0 = λ o. Opens o (b ∷ bs) in
    pick P (eqb b 39) Quote _ (λ e. grind (arith, common_steps))
    (pick P (eqb b 91) Bracket _ (λ e. grind (arith, common_steps))
    (pick P (eqb b 34) DoubleQuote _ (λ e. grind (arith, common_steps))
    (pick P (eqb b 58) ColonByte _ (λ e. tt)
    (pick P (is_sign b) SignByte Other (λ e. tt) tt))))

pub opens : (bytes : List ℕ) → Opens (opening bytes) bytes
unfolding opening
opens [] = tt
opens (b ∷ bs) =
    let P : Opening → Type 0 = λ o. Opens o (b ∷ bs) in
    pick P (is_blank b) Blank _ (λ e. tt)
    (pick P (eqb b 45 && begins (λ c. eqb c 45) bs) DashComment _ (opens_dash b bs)
    (pick P (eqb b 47 && begins (λ c. eqb c 42) bs) SlashComment _ (opens_slash b bs)
    (pick P (eqb b 78 && begins (λ c. eqb c 39) bs) NationalQuote _ (opens_national b bs)
    (pick P (begins_word b) Letter _ (opens_letter b bs)
    (pick P (is_ascii_digit b) Digit _ (λ e. e)
    (opens_mark b bs))))))

-- a first byte that is no line feed
pub one_begins : (x : ℕ) (bytes : List ℕ) → is_within_line x ≡ true → take 1 bytes ≡ x ∷ [] → begins is_within_line bytes ≡ true
one_begins x [] line e = (cc)
one_begins x (b ∷ bs) line e = let same : b ≡ x = (cc) in rw same line

pub two_begins : (x y : ℕ) (bytes : List ℕ) → is_within_line x ≡ true → take 2 bytes ≡ x ∷ y ∷ [] → begins is_within_line bytes ≡ true
two_begins x y [] line e = (cc)
two_begins x y (b ∷ bs) line e = let same : b ≡ x = (cc) in rw same line

-- ---- pieces

-- two longest runs at the front have one length
run_one : (p : ℕ → Bool) (text rest text' rest' : List ℕ) → text ++ rest ≡ text' ++ rest' → IsRun p text rest → IsRun p text' rest' → length text ≡ length text'
run_one p text rest text' rest' e run run' = sym (prefix_len-run p text rest run) ∙ ap (prefix_len p) e ∙ prefix_len-run p text' rest' run'

comment_one : (text rest text' rest' : List ℕ) → text ++ rest ≡ text' ++ rest' → IsBlockComment text rest → IsBlockComment text' rest' → length text ≡ length text'
comment_one text rest text' rest' e (more, is, len) (more', is', len') =
    let whole : 47 ∷ 42 ∷ (more ++ rest) ≡ 47 ∷ 42 ∷ (more' ++ rest') = sym (ap (λ l. l ++ rest) is) ∙ e ∙ ap (λ l. l ++ rest') is' in
    let behind : more ++ rest ≡ more' ++ rest' = ap (drop 2) whole in
    omega (arith, len, len', ap (open_comment_len 0) behind, ap length is, ap length is')

-- a quotation is one piece of one kind
quotation_one : (kind : Kind) (front : List ℕ) (close : ℕ) (text rest text' rest' : List ℕ) (k k' : Option Kind) → eqb close 10 ≡ false → text ++ rest ≡ text' ++ rest' →
    IsQuotation kind front close text rest k → IsQuotation kind front close text' rest' k' → (length text ≡ length text') × (k ≡ k')
quotation_one kind front close text rest text' rest' k k' c10 e q q' =
    ⊎_elim
    (λ closed.
    ⊎_elim
    (λ closed'.
    let one = closed_closing front close text rest c10 closed.1 in
    let other = closed_closing front close text' rest' c10 closed'.1 in
    let same : closing close false 0 (drop (length front) (text ++ rest)) ≡ closing close false 0 (drop (length front) (text' ++ rest')) = ap (λ l. closing close false 0 (drop (length front) l)) e in
    let n_is : one.0 ≡ other.0 = cc (one.1, other.1, same) in
    (omega (arith, one.2, other.2, n_is), closed.0 ∙ sym closed'.0))
    (λ bad'. absurd (bad'.2 text rest (sym e) closed.1))
    q')
    (λ bad.
    ⊎_elim
    (λ closed'. absurd (bad.2 text' rest' e closed'.1))
    (λ bad'. (run_one is_within_line text rest text' rest' e bad.1 bad'.1, bad.0 ∙ sym bad'.0))
    q')
    q

-- a kind that the text and its neighbours decide
decided : (F : List ℕ → List ℕ → Option Kind) (text rest text' rest' : List ℕ) (k k' : Option Kind) → k ≡ F text rest → k' ≡ F text' rest' → text ≡ text' → rest ≡ rest' → k ≡ k'
decided F text rest text' rest' k k' e e' t r = e ∙ ap (λ l. F l rest) t ∙ ap (F text') r ∙ sym e'

by_one : (o : Opening) (before text rest text' rest' : List ℕ) (k k' : Option Kind) → text ++ rest ≡ text' ++ rest' → IsPieceBy o before text rest k → IsPieceBy o before text' rest' k' →
    (length text ≡ length text') × (text ≡ text' → rest ≡ rest' → k ≡ k')
by_one Blank before text rest text' rest' k k' e p p' = (p.1 ∙ sym p'.1, λ t r. p.0 ∙ sym p'.0)
by_one DashComment before text rest text' rest' k k' e p p' = (run_one _ text rest text' rest' e p.1 p'.1, λ t r. p.0 ∙ sym p'.0)
by_one SlashComment before text rest text' rest' k k' e p p' = (comment_one text rest text' rest' e p.1 p'.1, λ t r. p.0 ∙ sym p'.0)
by_one Letter before text rest text' rest' k k' e p p' = (run_one _ text rest text' rest' e p.1 p'.1, λ t r. decided (λ t r. Some (cond (is_go before t r) Go Word)) text rest text' rest' k k' p.0 p'.0 t r)
by_one Digit before text rest text' rest' k k' e p p' = (run_one _ text rest text' rest' e p.1 p'.1, λ t r. decided (λ t r. Some (number_kind t)) text rest text' rest' k k' p.0 p'.0 t r)
by_one Quote before text rest text' rest' k k' e p p' = let q = quotation_one _ _ _ text rest text' rest' k k' refl e p p' in (q.0, λ t r. q.1)
by_one NationalQuote before text rest text' rest' k k' e p p' = let q = quotation_one _ _ _ text rest text' rest' k k' refl e p p' in (q.0, λ t r. q.1)
by_one Bracket before text rest text' rest' k k' e p p' = let q = quotation_one _ _ _ text rest text' rest' k k' refl e p p' in (q.0, λ t r. q.1)
by_one DoubleQuote before text rest text' rest' k k' e p p' = let q = quotation_one _ _ _ text rest text' rest' k k' refl e p p' in (q.0, λ t r. q.1)
by_one ColonByte before text rest text' rest' k k' e p p' = (p.1 ∙ sym p'.1, λ t r. p.0 ∙ sym p'.0)
by_one SignByte before text rest text' rest' k k' e p p' = (p.1 ∙ sym p'.1, λ t r. decided (λ t r. Some (Sign (first_of_bytes t))) text rest text' rest' k k' p.0 p'.0 t r)
by_one Other before text rest text' rest' k k' e p p' = (p.1 ∙ sym p'.1, λ t r. p.0 ∙ sym p'.0)

-- at one place there is one piece
pub piece_one : (before text rest text' rest' : List ℕ) (k k' : Option Kind) → text ++ rest ≡ text' ++ rest' → IsPiece before text rest k → IsPiece before text' rest' k' →
    (text ≡ text') × (rest ≡ rest') × (k ≡ k')
piece_one before text rest text' rest' k k' e p p' =
    let moved : IsPieceBy (opening (text ++ rest)) before text' rest' k' = rw e p' in
    let one = by_one (opening (text ++ rest)) before text rest text' rest' k k' e p moved in
    let t : text ≡ text' = sym (take-append_seam text rest) ∙ ap (take (length text)) e ∙ ap (λ n. take n (text' ++ rest')) one.0 ∙ take-append_seam text' rest' in
    let r : rest ≡ rest' = sym (drop-append_seam text rest) ∙ ap (drop (length text)) e ∙ ap (λ n. drop n (text' ++ rest')) one.0 ∙ drop-append_seam text' rest' in
    (t, r, one.1 t r)

-- a run has a byte where the first byte passes
run_some : (p : ℕ → Bool) (text rest : List ℕ) → begins p (text ++ rest) ≡ true → IsRun p text rest → 0 < length text
run_some p [] rest e run = absurd (both_ways _ run.ends e)
run_some p (b ∷ bs) rest e run = omega arith

quotation_some : (kind : Kind) (x : ℕ) (xs : List ℕ) (close : ℕ) (text rest : List ℕ) (k : Option Kind) → begins is_within_line (text ++ rest) ≡ true → IsQuotation kind (x ∷ xs) close text rest k → 0 < length text
quotation_some kind x xs close text rest k e q =
    ⊎_elim
    (λ closed. omega (arith, ap length closed.1.spelled))
    (λ bad. run_some is_within_line text rest e bad.1)
    q

by_some : (o : Opening) (before text rest : List ℕ) (k : Option Kind) → Opens o (text ++ rest) → IsPieceBy o before text rest k → 0 < length text
by_some Blank before text rest k e p = omega (arith, p.1)
by_some DashComment before text rest k e p = run_some _ text rest e p.1
by_some SlashComment before text rest k e p = omega (arith, ap length p.1.1)
by_some Letter before text rest k e p = run_some _ text rest e p.1
by_some Digit before text rest k e p = run_some _ text rest e p.1
by_some Quote before text rest k e p = quotation_some _ _ _ _ text rest k (one_begins 39 (text ++ rest) refl e) p
by_some NationalQuote before text rest k e p = quotation_some _ _ _ _ text rest k (two_begins 78 39 (text ++ rest) refl e) p
by_some Bracket before text rest k e p = quotation_some _ _ _ _ text rest k (one_begins 91 (text ++ rest) refl e) p
by_some DoubleQuote before text rest k e p = quotation_some _ _ _ _ text rest k (one_begins 34 (text ++ rest) refl e) p
by_some ColonByte before text rest k e p = omega (arith, p.1)
by_some SignByte before text rest k e p = omega (arith, p.1)
by_some Other before text rest k e p = omega (arith, p.1)

-- a piece has a byte
pub piece_some : (before text rest : List ℕ) (k : Option Kind) → IsPiece before text rest k → 0 < length text
piece_some before text rest k p = by_some (opening (text ++ rest)) before text rest k (opens (text ++ rest)) p

-- without bytes there is no piece
pub no_piece : (before text rest : List ℕ) (k : Option Kind) → [] ≡ text ++ rest → IsPiece before text rest k → ⊥
no_piece before text rest k e p = omega (arith, piece_some before text rest k p, ap length e, length-append text rest)

-- what is read at a place is one list
one_from : {before bytes : List ℕ} {ts us : List Token} → AreTokensFrom before bytes ts → AreTokensFrom before bytes us → ts ≡ us
one_from ended ended = refl
one_from ended (passed text rest e p more) = absurd (no_piece _ text rest _ e p)
one_from ended (token text rest kind e p more) = absurd (no_piece _ text rest _ e p)
one_from (passed text rest e p more) ended = absurd (no_piece _ text rest _ e p)
one_from {before} (passed text rest e p more) (passed text' rest' e' p' more') =
    let one = piece_one before text rest text' rest' None None (sym e ∙ e') p p' in
    one_from more (rw (one.0, one.1) more')
one_from {before} (passed text rest e p more) (token text' rest' kind' e' p' more') =
    let one = piece_one before text rest text' rest' None (Some kind') (sym e ∙ e') p p' in
    cc one.2
one_from (token text rest kind e p more) ended = absurd (no_piece _ text rest _ e p)
one_from {before} (token text rest kind e p more) (passed text' rest' e' p' more') =
    let one = piece_one before text rest text' rest' (Some kind) None (sym e ∙ e') p p' in
    cc one.2
one_from {before} (token {ts = ts} text rest kind e p more) (token text' rest' kind' e' p' more') =
    let one = piece_one before text rest text' rest' (Some kind) (Some kind') (sym e ∙ e') p p' in
    let same : kind ≡ kind' = cc one.2 in
    ap (λ t. token_of before t kind ∷ ts) one.0 ∙ ap (λ k. token_of before text' k ∷ ts) same
    ∙ ap (λ l. token_of before text' kind' ∷ l) (one_from more (rw (one.0, one.1) more'))

pub one_list : (src : List ℕ) (ts us : List Token) → AreTokens src ts → AreTokens src us → ts ≡ us
one_list src ts us a b = one_from a b

-- where there are no bytes there are no tokens
none_from : {before bytes : List ℕ} {ts : List Token} → AreTokensFrom before bytes ts → bytes ≡ [] → ts ≡ []
none_from ended e = refl
none_from {before} (passed text rest is p more) e = absurd (no_piece before text rest None (sym e ∙ is) p)
none_from {before} (token text rest kind is p more) e = absurd (no_piece before text rest (Some kind) (sym e ∙ is) p)

-- at the end there are no tokens
pub none_left : (src : List ℕ) (p : Place) (ts : List Token) → length src ≤ p.at → AreTokensAt src p ts → ts ≡ []
none_left src p ts past tokens = none_from tokens (drop_of_length-le src past)
