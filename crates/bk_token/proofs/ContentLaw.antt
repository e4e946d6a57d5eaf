-- The content of a text or a name in quotes is what is spelled between its quotes.
use Rattle.std.proofs.Common.{◌≡◌, ℕ, zero, suc, ◌+◌, ◌-◌, ◌<◌, ◌^◌, ltb, Bool, true, false, cond, eqb, List, [], ◌∷◌, ◌++◌, length, take, drop, get_or, refl, ap, sym, ◌∙◌, inl, inr, ⊎_elim, append_assoc, length-append, IsUtf8, Some, arith}
use Rattle.std.specs.Prelude.{All, slice_range}
use Rattle.std.proofs.Math.Seq.{take-append_seam, drop-append_seam, drop-append-add, get_or-append_seam}
use Rattle.std.proofs.lemmas.Bool.{eq-eqb, eqb-true}
use Rattle.std.proofs.lemmas.List.Elements.{All-weaker}
use Rattle.std.proofs.lemmas.Str.{IsUtf8-append, IsUtf8-from_ascii, IsUtf8-take, IsUtf8-drop, IsCharBoundary-before_ascii, IsCharBoundary-after_ascii}
use Rattle.bk_token.specs.Pieces.{doubled}
use Rattle.bk_token.specs.Contents.{folded, text_content, quoted_content, as_text, IsSpelled, SaysBy}
use Rattle.bk_token.specs.Pieces.{IsClosed, IsQuotation, IsPieceBy, opening, is_go, decimal, begins_line}
use Rattle.bk_token.specs.Tokens.{AreTokens, IsItsSlice, bytes_of}
use Rattle.bk_token.specs.declared.opening.Opening.{Opening}
use Rattle.bk_token.specs.declared.opening.Opening.TheVariants.{Blank, DashComment, SlashComment, Letter, Digit, Quote, NationalQuote, Bracket, DoubleQuote, ColonByte, SignByte, Other}
use Rattle.bk_token.specs.declared.token.Kind.{Kind}
use Rattle.bk_token.specs.declared.token.Kind.TheVariants.{Word, Quoted, Text, Number, Go, Colon, Bad}
use Rattle.bk_token.specs.declared.token.Token.{Token}
use Rattle.bk_token.proofs.ContentLemmas.{as_text-valid}
use Rattle.bk_token.proofs.TokenLemmas.{slices}

-- what is doubled folds back
folded-plain : (close b : ℕ) (bs : List ℕ) → eqb b close ≡ false → folded close (b ∷ bs) ≡ b ∷ folded close bs
folded-plain close b [] e = refl
folded-plain close b (c ∷ bs) e = rw e refl

folded-byte : (close b : ℕ) (rest : List ℕ) (t : Bool) → eqb b close ≡ t → folded close (cond t (close ∷ close ∷ []) (b ∷ []) ++ rest) ≡ b ∷ folded close rest
folded-byte close b rest true e = let same : eqb close close ≡ true = eq-eqb close close refl in rw same (ap (λ c. c ∷ folded close rest) (sym (eqb-true b close e)))
folded-byte close b rest false e = folded-plain close b rest e

pub folded-doubled : (close : ℕ) (content : List ℕ) → folded close (doubled close content) ≡ content
folded-doubled close [] = refl
folded-doubled close (b ∷ bs) = folded-byte close b (doubled close bs) (eqb b close) refl ∙ ap (λ l. b ∷ l) (folded-doubled close bs)

-- an ASCII byte
one_below : (q : ℕ) → q < 128 → (i : ℕ) → get_or (q ∷ []) i 0 < 128
one_below q ascii zero = ascii
one_below q ascii (suc i) = omega arith

one_byte : (q : ℕ) → q < 128 → IsUtf8 (q ∷ [])
one_byte q ascii = IsUtf8-from_ascii (q ∷ []) (one_below q ascii)

-- the parts of a text around an ASCII byte
before_ascii : (a rest : List ℕ) (q : ℕ) → q < 128 → IsUtf8 (a ++ q ∷ rest) → IsUtf8 a
before_ascii a rest q ascii utf8 =
    let whole : List ℕ = a ++ q ∷ rest in
    let at : get_or whole (length a) 0 ≡ q = get_or-append_seam a q rest 0 in
    let fits : length a < length whole = omega (arith, length-append a (q ∷ rest)) in
    rw (← take-append_seam a (q ∷ rest)) (IsUtf8-take whole (length a) utf8 (IsCharBoundary-before_ascii whole (length a) fits (omega (arith, at))))

after_ascii : (a rest : List ℕ) (q : ℕ) → q < 128 → IsUtf8 (a ++ q ∷ rest) → IsUtf8 rest
after_ascii a rest q ascii utf8 =
    let whole : List ℕ = a ++ q ∷ rest in
    let at : get_or whole (length a) 0 ≡ q = get_or-append_seam a q rest 0 in
    let fits : length a < length whole = omega (arith, length-append a (q ∷ rest)) in
    let cut : drop (length a + 1) whole ≡ rest = drop-append-add a (q ∷ rest) 1 in
    rw (← cut) (IsUtf8-drop whole (length a + 1) utf8 (IsCharBoundary-after_ascii whole (length a) utf8 fits (omega (arith, at))))

-- what is doubled is UTF-8 where its content is
utf8_step : (close b : ℕ) (a bs : List ℕ) (t : Bool) → close < 128 → eqb b close ≡ t → ((front : List ℕ) → IsUtf8 (front ++ doubled close bs) → IsUtf8 (front ++ bs)) →
    IsUtf8 (a ++ (cond t (close ∷ close ∷ []) (b ∷ []) ++ doubled close bs)) → IsUtf8 (a ++ b ∷ bs)
utf8_step close b a bs true ascii e more utf8 =
    let same : b ≡ close = eqb-true b close e in
    let front : IsUtf8 a = before_ascii a (close ∷ doubled close bs) close ascii utf8 in
    let second : IsUtf8 (close ∷ doubled close bs) = after_ascii a (close ∷ doubled close bs) close ascii utf8 in
    let rest : IsUtf8 bs = more [] (after_ascii [] (doubled close bs) close ascii second) in
    rw same (IsUtf8-append a (close ∷ bs) front (IsUtf8-append (close ∷ []) bs (one_byte close ascii) rest))
utf8_step close b a bs false ascii e more utf8 = rw (← append_assoc a (b ∷ []) bs) (more (a ++ b ∷ []) (rw append_assoc utf8))

pub utf8_content : (close : ℕ) → close < 128 → (content front : List ℕ) → IsUtf8 (front ++ doubled close content) → IsUtf8 (front ++ content)
utf8_content close ascii [] front utf8 = utf8
utf8_content close ascii (b ∷ bs) front utf8 = utf8_step close b front bs (eqb b close) ascii refl (utf8_content close ascii bs) utf8

-- what stands between the quotes
inside_quotes : (front D : List ℕ) (close : ℕ) → slice_range (front ++ (D ++ close ∷ [])) (length front) (length (front ++ (D ++ close ∷ [])) - 1) ≡ D
inside_quotes front D close =
    let size : length (front ++ (D ++ close ∷ [])) - 1 - length front ≡ length D = omega (arith, length-append front (D ++ close ∷ []), length-append D (close ∷ [])) in
    ap (λ l. take (length (front ++ (D ++ close ∷ [])) - 1 - length front) l) (drop-append_seam front (D ++ close ∷ [])) ∙ ap (λ n. take n (D ++ close ∷ [])) size ∙ take-append_seam D (close ∷ [])

-- the content is UTF-8 where the whole is
inner_utf8 : (front : List ℕ) (close : ℕ) (content : List ℕ) → close < 128 → ((rest : List ℕ) → IsUtf8 (front ++ rest) → IsUtf8 rest) → IsUtf8 (front ++ (doubled close content ++ close ∷ [])) → IsUtf8 content
inner_utf8 front close content ascii behind utf8 = utf8_content close ascii content [] (before_ascii (doubled close content) [] close ascii (behind (doubled close content ++ close ∷ []) utf8))

behind_one : (x : ℕ) → x < 128 → (rest : List ℕ) → IsUtf8 ((x ∷ []) ++ rest) → IsUtf8 rest
behind_one x ascii rest utf8 = after_ascii [] rest x ascii utf8

behind_two : (x y : ℕ) → x < 128 → y < 128 → (rest : List ℕ) → IsUtf8 ((x ∷ y ∷ []) ++ rest) → IsUtf8 rest
behind_two x y ascii ascii' rest utf8 = after_ascii [] rest y ascii' (after_ascii [] (y ∷ rest) x ascii utf8)

-- the contents by their fronts
text_quote : (content bytes : List ℕ) → IsSpelled (39 ∷ []) 39 bytes content → text_content bytes ≡ content
unfolding text_content
text_quote content bytes is = rw is (ap (folded 39) (inside_quotes (39 ∷ []) (doubled 39 content) 39) ∙ folded-doubled 39 content)

text_national : (content bytes : List ℕ) → IsSpelled (78 ∷ 39 ∷ []) 39 bytes content → text_content bytes ≡ content
unfolding text_content
text_national content bytes is = rw is (ap (folded 39) (inside_quotes (78 ∷ 39 ∷ []) (doubled 39 content) 39) ∙ folded-doubled 39 content)

name_bracket : (content bytes : List ℕ) → IsSpelled (91 ∷ []) 93 bytes content → quoted_content bytes ≡ content
unfolding quoted_content
name_bracket content bytes is = rw is (ap (folded 93) (inside_quotes (91 ∷ []) (doubled 93 content) 93) ∙ folded-doubled 93 content)

name_quote : (content bytes : List ℕ) → IsSpelled (34 ∷ []) 34 bytes content → quoted_content bytes ≡ content
unfolding quoted_content
name_quote content bytes is = rw is (ap (folded 34) (inside_quotes (34 ∷ []) (doubled 34 content) 34) ∙ folded-doubled 34 content)

-- a content that is UTF-8 is said
said : (content found : List ℕ) → found ≡ content → IsUtf8 content → as_text found ≡ Some content
said content found is utf8 = ap as_text is ∙ as_text-valid content utf8

says_quote : (text rest : List ℕ) → IsClosed (39 ∷ []) 39 text rest → SaysBy Text text
says_quote text rest closed =
    let utf8 : IsUtf8 closed.content = inner_utf8 (39 ∷ []) 39 closed.content (omega arith) (behind_one 39 (omega arith)) (rw (← closed.spelled) closed.utf8) in
    (closed.content, said closed.content (text_content text) (text_quote closed.content text closed.spelled) utf8, inl closed.spelled)

says_national : (text rest : List ℕ) → IsClosed (78 ∷ 39 ∷ []) 39 text rest → SaysBy Text text
says_national text rest closed =
    let utf8 : IsUtf8 closed.content = inner_utf8 (78 ∷ 39 ∷ []) 39 closed.content (omega arith) (behind_two 78 39 (omega arith) (omega arith)) (rw (← closed.spelled) closed.utf8) in
    (closed.content, said closed.content (text_content text) (text_national closed.content text closed.spelled) utf8, inr closed.spelled)

says_bracket : (text rest : List ℕ) → IsClosed (91 ∷ []) 93 text rest → SaysBy Quoted text
says_bracket text rest closed =
    let utf8 : IsUtf8 closed.content = inner_utf8 (91 ∷ []) 93 closed.content (omega arith) (behind_one 91 (omega arith)) (rw (← closed.spelled) closed.utf8) in
    (closed.content, said closed.content (quoted_content text) (name_bracket closed.content text closed.spelled) utf8, inl closed.spelled)

says_double_quote : (text rest : List ℕ) → IsClosed (34 ∷ []) 34 text rest → SaysBy Quoted text
says_double_quote text rest closed =
    let utf8 : IsUtf8 closed.content = inner_utf8 (34 ∷ []) 34 closed.content (omega arith) (behind_one 34 (omega arith)) (rw (← closed.spelled) closed.utf8) in
    (closed.content, said closed.content (quoted_content text) (name_quote closed.content text closed.spelled) utf8, inr closed.spelled)

-- a kind that says nothing
says_at : (kind other : Kind) (text : List ℕ) → Some kind ≡ Some other → SaysBy other text → SaysBy kind text
says_at kind other text e says = let same : kind ≡ other = (cc) in rw same says

says_quotation : (kind own : Kind) (front : List ℕ) (close : ℕ) (text rest : List ℕ) → (IsClosed front close text rest → SaysBy own text) → IsQuotation own front close text rest (Some kind) → SaysBy kind text
says_quotation kind own front close text rest closed_says q =
    ⊎_elim
    (λ closed. says_at kind own text closed.0 (closed_says closed.1))
    (λ bad. says_at kind Bad text bad.0 tt)
    q

says_either : (t : Bool) (a b : Kind) (text : List ℕ) → SaysBy a text → SaysBy b text → SaysBy (cond t a b) text
says_either true a b text one other = one
says_either false a b text one other = other

says_by : (o : Opening) (before text rest : List ℕ) (kind : Kind) → IsPieceBy o before text rest (Some kind) → SaysBy kind text
says_by Blank before text rest kind p = (cc p.0)
says_by DashComment before text rest kind p = (cc p.0)
says_by SlashComment before text rest kind p = (cc p.0)
says_by Letter before text rest kind p = says_at kind _ text p.0 (says_either (is_go before text rest) Go Word text tt tt)
says_by Digit before text rest kind p = says_at kind _ text p.0 (says_either (ltb (decimal text) (2 ^ 64)) (Number (decimal text)) Bad text tt tt)
says_by Quote before text rest kind p = says_quotation kind Text (39 ∷ []) 39 text rest (says_quote text rest) p
says_by NationalQuote before text rest kind p = says_quotation kind Text (78 ∷ 39 ∷ []) 39 text rest (says_national text rest) p
says_by Bracket before text rest kind p = says_quotation kind Quoted (91 ∷ []) 93 text rest (says_bracket text rest) p
says_by DoubleQuote before text rest kind p = says_quotation kind Quoted (34 ∷ []) 34 text rest (says_double_quote text rest) p
says_by ColonByte before text rest kind p = says_at kind _ text p.0 (says_either (begins_line before) Colon Bad text tt tt)
says_by SignByte before text rest kind p = says_at kind _ text p.0 tt
says_by Other before text rest kind p = says_at kind _ text p.0 tt

pub contents : (src : List ℕ) (ts : List Token) → AreTokens src ts → All (λ t. SaysBy t.kind (bytes_of src t)) ts
contents src ts tokens = All-weaker (IsItsSlice src) (λ t. SaysBy t.kind (bytes_of src t)) (λ t slice. says_by (opening (bytes_of src t ++ drop t.«end» src)) (take t.start src) (bytes_of src t) (drop t.«end» src) t.kind slice) ts (slices src ts tokens)
