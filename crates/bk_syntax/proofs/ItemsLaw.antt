-- The entries of tokens: there is exactly one list of them.
use Rattle.std.proofs.Common.{◌≡◌, ℕ, zero, suc, ◌≤◌, ◌<◌, ◌-◌, Bool, true, false, if◌then◌else◌, List, [], ◌∷◌, length, drop, Ok, Err, arith, refl, ap, subst, sym, ◌∙◌, length-drop}
use Rattle.std.proofs.lemmas.Bool.{both_ways}
use Rattle.bk_token.specs.declared.token.Token.{Token}
use Rattle.bk_token.specs.Tokens.{AreTokens}
use Rattle.bk_token.specs.Laws.{one_list}
use Rattle.bk_items.specs.declared.item.ScriptItem.{ScriptItem}
use Rattle.bk_items.specs.declared.item.ScriptItem.TheVariants.{Commit}
use Rattle.bk_items.specs.declared.item.ScriptEntry.{ScriptEntry}
use Rattle.bk_parse.specs.Parse.{Parsed}
use Rattle.bk_syntax.specs.Items.{AreEntries, ended, between, statement as statement_entry, fault, read_entry, fault_entry, from_place, AreItems}
use Rattle.bk_syntax.specs.Limits.{ends, recovered}
use Rattle.bk_syntax.specs.Reader.{StandsInFront}
use Rattle.bk_syntax.specs.Statement.{next_colon, line_or_statement}
use Rattle.bk_syntax.proofs.StatementLaws.{fewer_behind, console_left}

pick : (n : ℕ) (a b : Bool) (xs ys zs : List Token) → length xs ≤ n → length ys ≤ n → length zs ≤ n → length (if a then xs else (if b then ys else zs)) ≤ n
pick n true b xs ys zs h k l = h
pick n false true xs ys zs h k l = k
pick n false false xs ys zs h k l = l

recovered-le : (ts : List Token) → length (recovered ts) ≤ length ts
recovered-le [] = omega arith
recovered-le (t ∷ ts) = pick (length (t ∷ ts)) (ends t.kind) (next_colon (t ∷ ts)) ts (t ∷ ts) (recovered ts) (omega arith) (omega arith) (omega (arith, recovered-le ts))

-- behind a token reading goes on with fewer
later : (k : ℕ) (t : Token) (ts : List Token) → 1 ≤ k → length (recovered (drop k (t ∷ ts))) < length (t ∷ ts)
later k t ts h = omega (arith, recovered-le (drop k (t ∷ ts)), length-drop k (t ∷ ts))

at_once : (t : Token) (ts : List Token) → ends t.kind ≡ false → next_colon (t ∷ ts) ≡ false → length (recovered (t ∷ ts)) < length (t ∷ ts)
at_once t ts e c = rw (e, c) (omega (arith, recovered-le ts))

place_by : (k : ℕ) (t : Token) (ts : List Token) → ends t.kind ≡ false → next_colon (t ∷ ts) ≡ false → length (recovered (drop k (t ∷ ts))) < length (t ∷ ts)
place_by zero t ts e c = at_once t ts e c
place_by (suc k) t ts e c = later (suc k) t ts (omega arith)

fewer_by : (colon : Bool) (src : List ℕ) (t : Token) (ts : List Token) (left : ℕ) → next_colon (t ∷ ts) ≡ colon → ends t.kind ≡ false → line_or_statement src (t ∷ ts) ≡ Err left →
    length (recovered (from_place left (t ∷ ts))) < length (t ∷ ts)
fewer_by true src t ts left c e r = later (length (t ∷ ts) - left) t ts (omega (arith, console_left src t ts left c r))
fewer_by false src t ts left c e r = place_by (length (t ∷ ts) - left) t ts e c

pub fewer_recovered : (src : List ℕ) (t : Token) (ts : List Token) (left : ℕ) → ends t.kind ≡ false → line_or_statement src (t ∷ ts) ≡ Err left → length (recovered (from_place left (t ∷ ts))) < length (t ∷ ts)
fewer_recovered src t ts left e r = fewer_by (next_colon (t ∷ ts)) src t ts left refl e r

-- what a reading gives, or something else
item_of : Parsed (ScriptItem × List Token) → ScriptItem
item_of (Ok x) = x.0
item_of (Err left) = Commit

rest_of : Parsed (ScriptItem × List Token) → List Token
rest_of (Ok x) = x.1
rest_of (Err left) = []

left_of : Parsed (ScriptItem × List Token) → ℕ
left_of (Ok x) = 0
left_of (Err left) = left

one_from : {src : List ℕ} {ts : List Token} {es fs : List ScriptEntry} → AreEntries src ts es → AreEntries src ts fs → es ≡ fs
unfolding item_of rest_of left_of
one_from ended ended = refl
one_from (between e more) (between e' more') = one_from more more'
one_from (between e more) (statement_entry item rest n r more') = absurd (both_ways _ n e)
one_from (between e more) (fault left n r more') = absurd (both_ways _ n e)
one_from (statement_entry item rest n r more) (between e more') = absurd (both_ways _ n e)
one_from (statement_entry {src = src} {t = t} {ts = ts} {es = es} item rest n r more) (statement_entry item' rest' n' r' more') =
    let items : item ≡ item' = ap item_of (sym r ∙ r') in
    let rests : rest ≡ rest' = ap rest_of (sym r ∙ r') in
    ap (λ i. read_entry t ts rest i ∷ es) items ∙ ap (λ l. read_entry t ts l item' ∷ es) rests ∙ ap (λ l. read_entry t ts rest' item' ∷ l) (one_from more (rw rests more'))
one_from (statement_entry item rest n r more) (fault left n' r' more') = let clash : Ok (item, rest) ≡ Err left = sym r ∙ r' in cc clash
one_from (fault left n r more) (between e more') = absurd (both_ways _ n e)
one_from (fault left n r more) (statement_entry item rest n' r' more') = let clash : Err left ≡ Ok (item, rest) = sym r ∙ r' in cc clash
one_from (fault {src = src} {t = t} {ts = ts} {es = es} left n r more) (fault left' n' r' more') =
    let lefts : left ≡ left' = ap left_of (sym r ∙ r') in
    ap (λ l. fault_entry src t ts l ∷ es) lefts ∙ ap (λ l. fault_entry src t ts left' ∷ l) (one_from more (rw lefts more'))

-- bytes are the script of at most one list of items
pub one_item_list : (src : List ℕ) (es fs : List ScriptEntry) → AreItems src es → AreItems src fs → es ≡ fs
one_item_list src es fs (ts, tokens, entries) (us, others, other_entries) =
    let same : ts ≡ us = one_list src ts us tokens others in
    one_from entries (rw same other_entries)

-- entries of the tokens that follow, as far as there are at most so many
abbrev Follow : List ℕ → ℕ → Type 0
Follow src n = (us : List Token) → length us ≤ n → (es : List ScriptEntry) × AreEntries src us es

by_read : (src : List ℕ) (n : ℕ) (t : Token) (ts : List Token) (read : Parsed (ScriptItem × List Token)) → length ts ≤ n → ends t.kind ≡ false → line_or_statement src (t ∷ ts) ≡ read → Follow src n →
    (es : List ScriptEntry) × AreEntries src (t ∷ ts) es
by_read src n t ts (Ok x) h e r follow =
    let next = follow x.1 (omega (arith, h, fewer_behind src t ts x.0 x.1 r)) in
    (read_entry t ts x.1 x.0 ∷ next.0, statement_entry x.0 x.1 e r next.1)
by_read src n t ts (Err left) h e r follow =
    let next = follow (recovered (from_place left (t ∷ ts))) (omega (arith, h, fewer_recovered src t ts left e r)) in
    (fault_entry src t ts left ∷ next.0, fault left e r next.1)

by_end : (src : List ℕ) (n : ℕ) (t : Token) (ts : List Token) (b : Bool) → length ts ≤ n → ends t.kind ≡ b → Follow src n → (es : List ScriptEntry) × AreEntries src (t ∷ ts) es
by_end src n t ts true h e follow = let next = follow ts h in (next.0, between e next.1)
by_end src n t ts false h e follow = by_read src n t ts (line_or_statement src (t ∷ ts)) h e refl follow

some_from : (src : List ℕ) (n : ℕ) → Follow src n
some_from src n [] h = ([], ended)
some_from src zero (t ∷ ts) h = absurd (omega arith)
some_from src (suc n) (t ∷ ts) h = by_end src n t ts (ends t.kind) (omega arith) refl (some_from src n)

-- tokens have entries
pub some_entries : (src : List ℕ) (ts : List Token) → (es : List ScriptEntry) × AreEntries src ts es
some_entries src ts = some_from src (length ts) ts (omega arith)

-- the entry in front where a statement or a console line is read
pub stands_read : (src : List ℕ) (t : Token) (ts : List Token) (item : ScriptItem) (rest : List Token) → ends t.kind ≡ false → line_or_statement src (t ∷ ts) ≡ Ok (item, rest) →
    StandsInFront src (t ∷ ts) (read_entry t ts rest item) rest
stands_read src t ts item rest e r es entries =
    let others = some_entries src rest in
    (others.0, one_from entries (statement_entry item rest e r others.1), others.1)

-- the entry in front where nothing can go on
pub stands_stuck : (src : List ℕ) (t : Token) (ts : List Token) (left : ℕ) → ends t.kind ≡ false → line_or_statement src (t ∷ ts) ≡ Err left →
    StandsInFront src (t ∷ ts) (fault_entry src t ts left) (recovered (from_place left (t ∷ ts)))
stands_stuck src t ts left e r es entries =
    let others = some_entries src (recovered (from_place left (t ∷ ts))) in
    (others.0, one_from entries (fault left e r others.1), others.1)

-- a token that ends a statement is passed over
pub passed_end : (src : List ℕ) (t : Token) (ts : List Token) (es : List ScriptEntry) → ends t.kind ≡ true → AreEntries src (t ∷ ts) es → AreEntries src ts es
passed_end src t ts es e entries =
    let others = some_entries src ts in
    let same : others.0 ≡ es = one_from (between e others.1) entries in
    subst (AreEntries src ts) same others.1

-- no token is left
pub none_left : (src : List ℕ) (es : List ScriptEntry) → AreEntries src [] es → es ≡ []
none_left src es entries = one_from entries ended

-- bytes have items
pub some_items : (src : List ℕ) (ts : List Token) → AreTokens src ts → (es : List ScriptEntry) × AreItems src es
some_items src ts tokens = let entries = some_entries src ts in (entries.0, (ts, tokens, entries.1))
