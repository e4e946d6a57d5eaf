-- Bytes have a token list.
use Rattle.std.proofs.Common.{◌≡◌, ℕ, zero, suc, ◌+◌, ◌<◌, ◌≤◌, Bool, true, false, eqb, cond, List, [], ◌∷◌, ◌++◌, length, take, drop, refl, sym, inl, subst, Option, Some, None, arith, length-drop}
use Rattle.std.specs.Char.{is_ascii_digit}
use Rattle.std.specs.List.{prefix_len}
use Rattle.std.specs.Str.{is_utf8}
use Rattle.std.proofs.lemmas.Bool.{both_ways}
use Rattle.std.proofs.lemmas.Str.{IsUtf8-from_is_utf8, is_utf8-from_IsUtf8}
use Rattle.std.proofs.lemmas.List.{take-append-drop}
use Rattle.bk_token.specs.Bytes.{begins, is_within_line, is_word_byte}
use Rattle.bk_token.specs.Pieces.{is_go, number_kind, opening, begins_line, first_of_bytes}
use Rattle.bk_token.specs.Reading.{Cuts, CutsBy, CutsQuotation, Opens, closing, comment_from}
use Rattle.bk_token.specs.Tokens.{AreTokensFrom, ended, passed, token, AreTokens, token_of}
use Rattle.bk_token.specs.declared.opening.Opening.{Opening}
use Rattle.bk_token.specs.declared.opening.Opening.TheVariants.{Blank, DashComment, SlashComment, Letter, Digit, Quote, NationalQuote, Bracket, DoubleQuote, ColonByte, SignByte, Other}
use Rattle.bk_token.specs.declared.token.Kind.{Kind}
use Rattle.bk_token.specs.declared.token.Kind.TheVariants.{Word, Quoted, Text, Sign, Go, Colon, Bad}
use Rattle.bk_token.specs.declared.token.Token.{Token}
use Rattle.bk_token.specs.Laws.{opens, one_begins, two_begins}
use Rattle.bk_token.proofs.PieceLemmas.{cuts, cuts_word, cuts_number, cuts_line_comment, cuts_block_comment, cuts_bad_quotation, two_within}
use Rattle.bk_token.proofs.QuoteLemmas.{cuts_closed, unclosed_none, unclosed_utf8}

-- a piece that opens so stands at the front of the bytes
SomeCut : Opening → List ℕ → List ℕ → Type 0
SomeCut o before bytes = (len : ℕ) × (found : Option Kind) × CutsBy o before bytes len found

SomeQuotation : Kind → List ℕ → ℕ → List ℕ → Type 0
SomeQuotation kind front close bytes = (len : ℕ) × (found : Option Kind) × CutsQuotation kind front close bytes len found

-- what opens with a quote that closes, by whether it is UTF-8
quotation_closed : (kind : Kind) (size close n : ℕ) (bytes : List ℕ) (valid : Bool) → 0 < size → size ≤ length bytes → eqb close 10 ≡ false → begins is_within_line bytes ≡ true →
    closing close false 0 (drop size bytes) ≡ Some n → is_utf8 (take (size + n) bytes) ≡ valid → SomeQuotation kind (take size bytes) close bytes
unfolding SomeQuotation
quotation_closed kind size close n bytes true some fits c10 begun read valid =
    let cut = cuts_closed size close n bytes some fits read (IsUtf8-from_is_utf8 (take (size + n) bytes) valid) in
    (size + n, Some kind, record { nonempty = cut.nonempty; within = cut.within; piece = inl (refl, cut.closed) })
quotation_closed kind size close n bytes false some fits c10 begun read valid =
    let unclosed = unclosed_utf8 size close n bytes fits c10 read (λ utf8. both_ways _ valid (is_utf8-from_IsUtf8 (take (size + n) bytes) utf8)) in
    (prefix_len is_within_line bytes, Some Bad, cuts_bad_quotation kind (take size bytes) close bytes (prefix_len is_within_line bytes) (Some Bad) unclosed begun refl refl)

quotation_by : (kind : Kind) (size close : ℕ) (bytes : List ℕ) (found : Option ℕ) → 0 < size → size ≤ length bytes → eqb close 10 ≡ false → begins is_within_line bytes ≡ true →
    closing close false 0 (drop size bytes) ≡ found → SomeQuotation kind (take size bytes) close bytes
unfolding SomeQuotation
quotation_by kind size close bytes (Some n) some fits c10 begun read = quotation_closed kind size close n bytes (is_utf8 (take (size + n) bytes)) some fits c10 begun read refl
quotation_by kind size close bytes None some fits c10 begun read =
    (prefix_len is_within_line bytes, Some Bad, cuts_bad_quotation kind (take size bytes) close bytes (prefix_len is_within_line bytes) (Some Bad) (unclosed_none size close bytes fits c10 read) begun refl refl)

quotation_at : (kind : Kind) (front : List ℕ) (size close : ℕ) (bytes : List ℕ) → take size bytes ≡ front → 0 < size → size ≤ length bytes → eqb close 10 ≡ false → begins is_within_line bytes ≡ true →
    SomeQuotation kind front close bytes
quotation_at kind front size close bytes e some fits c10 begun =
    subst (λ l. SomeQuotation kind l close bytes) e (quotation_by kind size close bytes (closing close false 0 (drop size bytes)) some fits c10 begun refl)

one_within : (x : ℕ) (bytes : List ℕ) → take 1 bytes ≡ x ∷ [] → 1 ≤ length bytes
one_within x [] e = (cc)
one_within x (b ∷ bs) e = omega arith

one_byte : (bytes : List ℕ) → 0 < length bytes → length (take 1 bytes) ≡ 1
one_byte [] some = absurd (omega arith)
one_byte (b ∷ bs) some = refl

some_by : (o : Opening) (before bytes : List ℕ) → 0 < length bytes → Opens o bytes → SomeCut o before bytes
unfolding SomeCut SomeQuotation
some_by Blank before bytes some o = (1, None, record { nonempty = omega arith; within = omega (arith, some); piece = (refl, one_byte bytes some) })
some_by DashComment before bytes some o = (prefix_len is_within_line bytes, None, cuts_line_comment before bytes (prefix_len is_within_line bytes) None o refl refl)
some_by SlashComment before bytes some o = (2 + comment_from 0 0 (drop 2 bytes), None, cuts_block_comment before bytes (2 + comment_from 0 0 (drop 2 bytes)) None o refl refl)
some_by Letter before bytes some o =
    let n : ℕ = prefix_len is_word_byte bytes in
    (n, Some (cond (is_go before (take n bytes) (drop n bytes)) Go Word), cuts_word before bytes n _ o refl refl)
some_by Digit before bytes some o =
    let n : ℕ = prefix_len is_ascii_digit bytes in
    (n, Some (number_kind (take n bytes)), cuts_number before bytes n _ o refl refl)
some_by Quote before bytes some o =
    let q = quotation_at Text (39 ∷ []) 1 39 bytes o (omega arith) (one_within 39 bytes o) refl (one_begins 39 bytes refl o) in
    (q.0, q.1, record { nonempty = q.2.nonempty; within = q.2.within; piece = q.2.piece })
some_by NationalQuote before bytes some o =
    let q = quotation_at Text (78 ∷ 39 ∷ []) 2 39 bytes o (omega arith) (two_within 78 39 bytes o) refl (two_begins 78 39 bytes refl o) in
    (q.0, q.1, record { nonempty = q.2.nonempty; within = q.2.within; piece = q.2.piece })
some_by Bracket before bytes some o =
    let q = quotation_at Quoted (91 ∷ []) 1 93 bytes o (omega arith) (one_within 91 bytes o) refl (one_begins 91 bytes refl o) in
    (q.0, q.1, record { nonempty = q.2.nonempty; within = q.2.within; piece = q.2.piece })
some_by DoubleQuote before bytes some o =
    let q = quotation_at Quoted (34 ∷ []) 1 34 bytes o (omega arith) (one_within 34 bytes o) refl (one_begins 34 bytes refl o) in
    (q.0, q.1, record { nonempty = q.2.nonempty; within = q.2.within; piece = q.2.piece })
some_by ColonByte before bytes some o = (1, Some (cond (begins_line before) Colon Bad), record { nonempty = omega arith; within = omega (arith, some); piece = (refl, one_byte bytes some) })
some_by SignByte before bytes some o = (1, Some (Sign (first_of_bytes (take 1 bytes))), record { nonempty = omega arith; within = omega (arith, some); piece = (refl, one_byte bytes some) })
some_by Other before bytes some o = (1, Some Bad, record { nonempty = omega arith; within = omega (arith, some); piece = (refl, one_byte bytes some) })

-- a piece stands at the front of the bytes
SomePiece : List ℕ → List ℕ → Type 0
SomePiece before bytes = (len : ℕ) × (found : Option Kind) × Cuts before bytes len found

some_piece : (before bytes : List ℕ) → 0 < length bytes → SomePiece before bytes
unfolding SomeCut SomePiece
some_piece before bytes some =
    let cut = some_by (opening bytes) before bytes some (opens bytes) in
    (cut.0, cut.1, cuts before bytes cut.0 cut.1 (opening bytes) refl cut.2)

-- tokens behind a piece, and with it
with_piece : (before bytes : List ℕ) (len : ℕ) (found : Option Kind) (ts : List Token) → Cuts before bytes len found → AreTokensFrom (before ++ take len bytes) (drop len bytes) ts → (us : List Token) × AreTokensFrom before bytes us
with_piece before bytes len None ts cut more = (ts, passed (take len bytes) (drop len bytes) (sym (take-append-drop len bytes)) cut.piece more)
with_piece before bytes len (Some kind) ts cut more = (token_of before (take len bytes) kind ∷ ts, token (take len bytes) (drop len bytes) kind (sym (take-append-drop len bytes)) cut.piece more)

some_from : (n : ℕ) (before bytes : List ℕ) → length bytes ≤ n → (ts : List Token) × AreTokensFrom before bytes ts
unfolding SomePiece
some_from n before [] few = ([], ended)
some_from zero before (b ∷ bs) few = absurd (omega arith)
some_from (suc n) before (b ∷ bs) few =
    let piece = some_piece before (b ∷ bs) (omega arith) in
    let rest = some_from n (before ++ take piece.0 (b ∷ bs)) (drop piece.0 (b ∷ bs)) (omega (arith, few, piece.2.nonempty, length-drop piece.0 (b ∷ bs))) in
    with_piece before (b ∷ bs) piece.0 piece.1 rest.0 piece.2 rest.1

pub some_tokens : (src : List ℕ) → (ts : List Token) × AreTokens src ts
some_tokens src = some_from (length src) [] src (omega arith)
