-- What stands in front of tokens stands there whatever others follow, if two tokens are left behind it.
use Rattle.std.proofs.Common.{◌≡◌, ◌⊎◌, inl, inr, ⊎_elim, ℕ, zero, suc, ◌+◌, ◌-◌, ◌<◌, ◌≤◌, min, Bool, true, false, ◌||◌, if◌then◌else◌, List, [], ◌∷◌, ◌++◌, length, drop, Ok, Err, arith, refl, ap, subst, sym, ◌∙◌, length-drop, length-append, append-nil}
use Rattle.std.specs.List.{slice_get}
use Rattle.std.proofs.Math.Seq.{drop-append_seam}
use Rattle.std.proofs.lemmas.List.{drop-append-le}
use Rattle.bk_token.specs.declared.token.Token.{Token}
use Rattle.bk_items.specs.declared.item.ScriptItem.{ScriptItem}
use Rattle.bk_items.specs.declared.item.ScriptItem.TheVariants.{Syntax, TooLong}
use Rattle.bk_parse.specs.Parse.{Parsed}
use Rattle.bk_parse.specs.Ahead.{Agrees, IsEnd, LeavesEnd, behind_it}
use Rattle.bk_syntax.specs.Items.{from_place, line_at, measured}
use Rattle.bk_syntax.specs.Limits.{ends, recovered, is_long, is_wide, wide_by}
use Rattle.bk_syntax.specs.Reader.{StandsInFront, IsInFront}
use Rattle.bk_syntax.specs.declared.front.Front.TheVariants.{Read, Stuck}
use Rattle.bk_syntax.specs.Statement.{next_colon, line_or_statement}
use Rattle.bk_syntax.proofs.StatementLaws.{line-ahead, fewer_behind, left-le, console_left}
use Rattle.bk_syntax.proofs.ItemsLaw.{stands_read, stands_stuck}

-- ---- the whole reads the same

-- two tokens are left, or none follow
abbrev Decided : ℕ → List Token → Type 0
Decided left more = (1 < left) ⊎ (more ≡ [])

same_ok : (more ts : List Token) (p q : Parsed (ScriptItem × List Token)) (item : ScriptItem) (rest : List Token) → Agrees behind_it more ts p q → p ≡ Ok (item, rest) → 1 < length rest → q ≡ Ok (item, rest ++ more)
same_ok more ts p q item rest a e two =
    let P : Parsed (ScriptItem × List Token) → Type 0 = λ r. Agrees behind_it more ts r q in
    let b : Agrees behind_it more ts (Ok (item, rest)) q = subst P e a in
    b.same two

same_err : (more ts : List Token) (p q : Parsed (ScriptItem × List Token)) (left : ℕ) → Agrees behind_it more ts p q → p ≡ Err left → 1 < left → q ≡ Err (left + length more)
same_err more ts p q left a e two =
    let P : Parsed (ScriptItem × List Token) → Type 0 = λ r. Agrees behind_it more ts r q in
    let b : Agrees behind_it more ts (Err left) q = subst P e a in
    b.same two

read_whole : (src : List ℕ) (ts more : List Token) (item : ScriptItem) (rest : List Token) → line_or_statement src ts ≡ Ok (item, rest) → Decided (length rest) more →
    line_or_statement src (ts ++ more) ≡ Ok (item, rest ++ more)
read_whole src ts more item rest e (inl two) = same_ok more ts (line_or_statement src ts) (line_or_statement src (ts ++ more)) item rest (line-ahead src more ts) e two
read_whole src ts more item rest e (inr none) =
    ap (λ l. line_or_statement src (ts ++ l)) none ∙ ap (line_or_statement src) (append-nil ts) ∙ e ∙ ap (λ l. Ok (item, l)) (sym (ap (λ l. rest ++ l) none ∙ append-nil rest))

stuck_whole : (src : List ℕ) (ts more : List Token) (left : ℕ) → line_or_statement src ts ≡ Err left → Decided left more → line_or_statement src (ts ++ more) ≡ Err (left + length more)
stuck_whole src ts more left e (inl two) = same_err more ts (line_or_statement src ts) (line_or_statement src (ts ++ more)) left (line-ahead src more ts) e two
stuck_whole src ts more left e (inr none) =
    let same : left ≡ left + length more = omega (arith, ap length none) in
    ap (λ l. line_or_statement src (ts ++ l)) none ∙ ap (line_or_statement src) (append-nil ts) ∙ e ∙ ap Err same

-- ---- the end of the tokens

ends_by : (ts rest : List Token) → IsEnd ts rest → rest ≡ from_place (length rest) ts
ends_by ts rest (taken, e) =
    let size : length ts - length rest ≡ length taken = omega (arith, ap length e, length-append taken rest) in
    sym (ap (λ n. drop n ts) size ∙ ap (drop (length taken)) e ∙ drop-append_seam taken rest)

end_of : (src : List ℕ) (ts : List Token) (item : ScriptItem) (rest : List Token) → line_or_statement src ts ≡ Ok (item, rest) → rest ≡ from_place (length rest) ts
end_of src ts item rest e =
    let P : Parsed (ScriptItem × List Token) → Type 0 = LeavesEnd behind_it ts in
    let a = line-ahead src [] ts in
    ends_by ts rest (subst P e a.ends)

-- the end with more behind is the end of them with more behind
end_grows : (left : ℕ) (ts more : List Token) → left ≤ length ts → from_place (left + length more) (ts ++ more) ≡ from_place left ts ++ more
end_grows left ts more le =
    let same : length (ts ++ more) - (left + length more) ≡ length ts - left = omega (arith, length-append ts more) in
    ap (λ n. drop n (ts ++ more)) same ∙ drop-append-le (length ts - left) ts more (omega arith)

end_length : (left : ℕ) (ts : List Token) → left ≤ length ts → length (from_place left ts) ≡ left
end_length left ts le = omega (arith, le, length-drop (length ts - left) ts)

-- ---- what is measured

get_same : (ts more : List Token) (i : ℕ) → i < length ts → slice_get (ts ++ more) i ≡ slice_get ts i
get_same [] more i h = absurd (omega arith)
get_same (t ∷ ts) more zero h = refl
get_same (t ∷ ts) more (suc i) h = get_same ts more i (omega (arith, h))

wide_same : (ts more rest : List Token) → length rest < length ts → is_wide (ts ++ more) (rest ++ more) ≡ is_wide ts rest
wide_same ts more rest h =
    let last : length (ts ++ more) - length (rest ++ more) - 1 ≡ length ts - length rest - 1 = omega (arith, length-append ts more, length-append rest more) in
    let some : 0 < length ts = omega (arith, h) in
    let within : length ts - length rest - 1 < length ts = omega (arith, h) in
    ap (λ a. wide_by a (slice_get (ts ++ more) (length (ts ++ more) - length (rest ++ more) - 1))) (get_same ts more 0 some)
    ∙ ap (λ n. wide_by (slice_get ts 0) (slice_get (ts ++ more) n)) last
    ∙ ap (wide_by (slice_get ts 0)) (get_same ts more (length ts - length rest - 1) within)

measured_same : (ts more rest : List Token) (item : ScriptItem) → length rest < length ts → measured (ts ++ more) (rest ++ more) item ≡ measured ts rest item
measured_same ts more rest item h = ap (λ b. if b || is_long item then TooLong else item) (wide_same ts more rest h)

-- ---- an item in front

read_front : (src : List ℕ) (t : Token) (others more : List Token) (item shown : ScriptItem) (rest : List Token) → ends t.kind ≡ false → line_or_statement src (t ∷ others) ≡ Ok (item, rest) →
    shown ≡ measured (t ∷ others) rest item → Decided (length rest) more → StandsInFront src ((t ∷ others) ++ more) (record { item = shown; line = t.line }) (from_place (length rest) (t ∷ others) ++ more)
read_front src t others more item shown rest e r s decided =
    let stands = stands_read src t (others ++ more) item (rest ++ more) e (read_whole src (t ∷ others) more item rest r decided) in
    let fewer : length rest < length (t ∷ others) = omega (arith, fewer_behind src t others item rest r) in
    let same : measured (t ∷ (others ++ more)) (rest ++ more) item ≡ shown = measured_same (t ∷ others) more rest item fewer ∙ sym s in
    let P : ScriptItem → Type 0 = λ i. StandsInFront src ((t ∷ others) ++ more) (record { item = i; line = t.line }) (rest ++ more) in
    let Q : List Token → Type 0 = λ l. StandsInFront src ((t ∷ others) ++ more) (record { item = shown; line = t.line }) (l ++ more) in
    subst Q (end_of src (t ∷ others) item rest r) (subst P same stands)

-- ---- where nothing can go on

line_front : (src : List ℕ) (ts more : List Token) → 0 < length ts → line_at src (ts ++ more) ≡ line_at src ts
line_front src [] more h = absurd (omega arith)
line_front src (t ∷ ts) more h = refl

line_same : (src : List ℕ) (ts more : List Token) (left : ℕ) → left ≤ length ts → Decided left more → line_at src (from_place (left + length more) (ts ++ more)) ≡ line_at src (from_place left ts)
line_same src ts more left le (inl two) = ap (line_at src) (end_grows left ts more le) ∙ line_front src (from_place left ts) more (omega (arith, two, end_length left ts le))
line_same src ts more left le (inr none) = ap (line_at src) (end_grows left ts more le ∙ ap (λ l. from_place left ts ++ l) none ∙ append-nil (from_place left ts))

-- at a token that is no end and no colon, reading goes on as behind it
recovered_at : (t : Token) (ts : List Token) → ends t.kind ≡ false → next_colon (t ∷ ts) ≡ false → recovered (t ∷ ts) ≡ recovered ts
recovered_at t ts e c = rw (e, c) refl

recovered_by : (colon : Bool) (src : List ℕ) (t : Token) (others more : List Token) (left k : ℕ) → next_colon (t ∷ others) ≡ colon → ends t.kind ≡ false → line_or_statement src (t ∷ others) ≡ Err left →
    k ≡ length (t ∷ others) - left → left ≤ length (t ∷ others) →
    recovered (from_place left (t ∷ others) ++ more) ≡ recovered (from_place (min left (length (t ∷ others) - 1)) (t ∷ others) ++ more)
recovered_by colon src t others more left (suc k) c e r is le = ap (λ n. recovered (from_place n (t ∷ others) ++ more)) (omega arith)
recovered_by true src t others more left zero c e r is le = absurd (omega (arith, is, console_left src t others left c r))
recovered_by false src t others more left zero c e r is le =
    let all : length (t ∷ others) - left ≡ 0 = omega (arith, is) in
    let one : length (t ∷ others) - min left (length (t ∷ others) - 1) ≡ 1 = omega (arith, is, le) in
    ap (λ n. recovered (drop n (t ∷ others) ++ more)) all ∙ recovered_at t (others ++ more) e c ∙ sym (ap (λ n. recovered (drop n (t ∷ others) ++ more)) one)

stuck_front : (src : List ℕ) (t : Token) (others more : List Token) (left there : ℕ) → ends t.kind ≡ false → line_or_statement src (t ∷ others) ≡ Err left →
    there ≡ line_at src (from_place left (t ∷ others)) → Decided left more →
    StandsInFront src ((t ∷ others) ++ more) (record { item = Syntax there; line = t.line }) (recovered (from_place (min left (length (t ∷ others) - 1)) (t ∷ others) ++ more))
stuck_front src t others more left there e r l decided =
    let le : left ≤ length (t ∷ others) = left-le src (t ∷ others) left r in
    let stands = stands_stuck src t (others ++ more) (left + length more) e (stuck_whole src (t ∷ others) more left r decided) in
    let line : line_at src (from_place (left + length more) ((t ∷ others) ++ more)) ≡ there = line_same src (t ∷ others) more left le decided ∙ sym l in
    let next : recovered (from_place (left + length more) ((t ∷ others) ++ more)) ≡ recovered (from_place (min left (length (t ∷ others) - 1)) (t ∷ others) ++ more) =
    ap recovered (end_grows left (t ∷ others) more le) ∙ recovered_by (next_colon (t ∷ others)) src t others more left (length (t ∷ others) - left) refl e r refl le in
    let P : ℕ → Type 0 = λ n. StandsInFront src ((t ∷ others) ++ more) (record { item = Syntax n; line = t.line }) (recovered (from_place (left + length more) ((t ∷ others) ++ more))) in
    let Q : List Token → Type 0 = λ n. StandsInFront src ((t ∷ others) ++ more) (record { item = Syntax there; line = t.line }) n in
    subst Q next (subst P line stands)

-- ---- by what is known of the tokens that follow

decides : (whole : Bool) (left : ℕ) (more : List Token) → (whole ≡ true) ⊎ (1 < left) → (whole ≡ true → more ≡ []) → Decided left more
decides whole left more known none = ⊎_elim (λ w. inr (none w)) (λ two. inl two) known

pub read_known : (src : List ℕ) (tokens : List Token) (t : Token) (others : List Token) (whole : Bool) (item shown : ScriptItem) (rest : List Token) → tokens ≡ t ∷ others → ends t.kind ≡ false →
    line_or_statement src tokens ≡ Ok (item, rest) → shown ≡ measured tokens rest item → (whole ≡ true) ⊎ (1 < length rest) →
    IsInFront src t.line tokens (λ more. whole ≡ true → more ≡ []) (whole ≡ false) (Read shown (length rest))
read_known src tokens t others whole item shown rest is e r s known =
    let P : List Token → Type 0 = λ ts. line_or_statement src ts ≡ Ok (item, rest) → shown ≡ measured ts rest item → IsInFront src t.line ts (λ more. whole ≡ true → more ≡ []) (whole ≡ false) (Read shown (length rest)) in
    let front : P (t ∷ others) = λ r' s'. (omega (arith, fewer_behind src t others item rest r'), λ more none. read_front src t others more item shown rest e r' s' (decides whole (length rest) more known none)) in
    subst P (sym is) front r s

pub stuck_known : (src : List ℕ) (tokens : List Token) (t : Token) (others : List Token) (whole : Bool) (left there : ℕ) → tokens ≡ t ∷ others → ends t.kind ≡ false →
    line_or_statement src tokens ≡ Err left → there ≡ line_at src (from_place left tokens) → (whole ≡ true) ⊎ (1 < left) →
    IsInFront src t.line tokens (λ more. whole ≡ true → more ≡ []) (whole ≡ false) (Stuck (min left (length tokens - 1)) there)
stuck_known src tokens t others whole left there is e r l known =
    let P : List Token → Type 0 = λ ts. line_or_statement src ts ≡ Err left → there ≡ line_at src (from_place left ts) →
    IsInFront src t.line ts (λ more. whole ≡ true → more ≡ []) (whole ≡ false) (Stuck (min left (length ts - 1)) there) in
    let front : P (t ∷ others) = λ r' l'. (omega arith, λ more none. stuck_front src t others more left there e r' l' (decides whole left more known none)) in
    subst P (sym is) front r l
