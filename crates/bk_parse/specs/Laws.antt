-- The parts of forms look at most two tokens ahead, and so does what is put together from such parts.
use Rattle.std.proofs.Common.{◌≡◌, ℕ, ◌<◌, ◌≤◌, ◌&&◌, Bool, true, false, if◌then◌else◌, List, [], ◌∷◌, ◌++◌, length, drop, Option, Some, None, Ok, Err, arith, refl, ap, sym, ◌∙◌, length-append, append_assoc}
use Rattle.std.specs.Prelude.{nat_le, nat_lt}
use Rattle.bk_ids.specs.Name.{same_name}
use Rattle.bk_token.specs.Contents.{is_word, text_of, name_of}
use Rattle.bk_token.specs.declared.token.Kind.{Kind}
use Rattle.bk_token.specs.declared.token.Kind.TheVariants.{Word, Quoted, Text, Number, Sign, Go, Colon, Bad}
use Rattle.bk_token.specs.declared.token.Token.{Token}
use Rattle.bk_parse.specs.Parse.{Parsed, ◌>>=◌, stuck, next_is, next_sign, is_sign_kind, keyword, skip, sign, number_by, number, number_in, filled, name, fixed, any_text, text, filled_text, equal_text, equal_filled, equal_number}
use Rattle.bk_parse.specs.Ahead.{Rest, left_over, behind_it, left_of, grown_by, IsEnd, LeavesEnd, Agrees}

-- ---- what is put together

-- no more tokens are left than there were
few : {A : Type 0} (rest : Rest A) (ts : List Token) (p : Parsed A) → LeavesEnd rest ts p → left_of rest p ≤ length ts
few rest ts (Ok x) e = omega (arith, ap length e.1, length-append e.0 (rest.tokens x))
few rest ts (Err left) e = e

pub fewer : {A : Type 0} {rest : Rest A} {more ts : List Token} {p q : Parsed A} → Agrees rest more ts p q → left_of rest p ≤ length ts
fewer {rest = rest} {ts = ts} {p = p} a = few rest ts p a.ends

-- the end of an end
ends_within : {A : Type 0} (rest : Rest A) (ts us : List Token) (p : Parsed A) → IsEnd ts us → LeavesEnd rest us p → LeavesEnd rest ts p
ends_within rest ts us (Ok x) (before, e) (taken, e') = (before ++ taken, e ∙ ap (λ l. before ++ l) e' ∙ sym (append_assoc before taken (rest.tokens x)))
ends_within rest ts us (Err left) (before, e) h = omega (arith, h, ap length e, length-append before us)

-- nothing is said of the whole where at most one token is left
pub quiet : {A : Type 0} {rest : Rest A} {more ts : List Token} {p q r : Parsed A} → length ts ≤ 1 → Agrees rest more ts p q → Agrees rest more ts p r
quiet h a = record { ends = a.ends; same = λ k. absurd (omega (arith, fewer a, h, k)) }

-- what is read behind a token is read with it
pub later : {A : Type 0} {rest : Rest A} {more : List Token} {t : Token} {ts : List Token} {p q : Parsed A} → Agrees rest more ts p q → Agrees rest more (t ∷ ts) p q
later {rest = rest} {t = t} {ts = ts} {p = p} a = record { ends = ends_within rest (t ∷ ts) ts p (t ∷ [], refl) a.ends; same = a.same }

-- a value is read, and the tokens behind it are these
pub done : {A : Type 0} {rest : Rest A} {more : List Token} {x : A} → Agrees rest more (rest.tokens x) (Ok x) (Ok (rest.grown more x))
done = record { ends = ([], refl); same = λ k. refl }

-- nothing can go on at the first of these tokens
pub stuck-ahead : {A : Type 0} (rest : Rest A) (more ts : List Token) → Agrees rest more ts (stuck ts) (stuck (ts ++ more))
stuck-ahead rest more ts = record { ends = omega arith; same = λ k. ap Err (length-append ts more) }

-- one thing and then the next
pub and_then : {A B : Type 0} {first : Rest A} {last : Rest B} {more ts : List Token} {p q : Parsed A} (f g : A → Parsed B) →
    Agrees first more ts p q → ((x : A) → length (first.tokens x) ≤ length ts → Agrees last more (first.tokens x) (f x) (g (first.grown more x))) → Agrees last more ts (p >>= f) (q >>= g)
and_then {first = first} {last = last} {more = more} {ts = ts} {p = Ok x} f g a k =
    let next = k x (fewer a) in
    record {
      ends = ends_within last ts (first.tokens x) (f x) a.ends next.ends;
      same = λ h. let two : 1 < length (first.tokens x) = omega (arith, h, fewer next) in ap (λ r. r >>= g) (a.same two) ∙ next.same h;
    }
and_then {p = Err left} f g a k = record {
  ends = a.ends;
  same = λ h. ap (λ r. r >>= g) (a.same h);
}

-- one of two things
pub branch : {A : Type 0} {rest : Rest A} {more : List Token} {ts : List Token} {p q p' q' : Parsed A} (b : Bool) → Agrees rest more ts p q → Agrees rest more ts p' q' → Agrees rest more ts (if b then p else p') (if b then q else q')
branch true a a' = a
branch false a a' = a'

-- one of two things, by a test of the next two tokens
pub if_next : {A : Type 0} {rest : Rest A} {more : List Token} (ts : List Token) (test : List Token → Bool) {p q p' q' : Parsed A} →
    ((t u : Token) (us : List Token) → test (t ∷ u ∷ (us ++ more)) ≡ test (t ∷ u ∷ us)) → Agrees rest more ts p q → Agrees rest more ts p' q' →
    Agrees rest more ts (if test ts then p else p') (if test (ts ++ more) then q else q')
if_next [] test same a a' = quiet (omega arith) (branch (test []) a a')
if_next (t ∷ []) test same a a' = quiet (omega arith) (branch (test (t ∷ [])) a a')
if_next (t ∷ u ∷ us) test same a a' = rw (same t u us) (branch (test (t ∷ u ∷ us)) a a')

-- behind the next token
pub behind_by : {A : Type 0} {rest : Rest A} {more : List Token} (ts : List Token) (f g : List Token → Parsed A) → Agrees rest more (drop 1 ts) (f (drop 1 ts)) (g (drop 1 ts ++ more)) →
    Agrees rest more ts (f (drop 1 ts)) (g (drop 1 (ts ++ more)))
behind_by [] f g a = quiet (omega arith) a
behind_by (t ∷ ts) f g a = later a

pub behind_next : {A : Type 0} {rest : Rest A} {more : List Token} (ts : List Token) (f : List Token → Parsed A) → ((us : List Token) → Agrees rest more us (f us) (f (us ++ more))) →
    Agrees rest more ts (f (drop 1 ts)) (f (drop 1 (ts ++ more)))
behind_next ts f law = behind_by ts f f (law (drop 1 ts))

-- behind the next token or before it
skipped : {A : Type 0} {rest : Rest A} {more : List Token} (b : Bool) (ts : List Token) (f : List Token → Parsed A) → ((us : List Token) → Agrees rest more us (f us) (f (us ++ more))) →
    Agrees rest more ts (f (if b then drop 1 ts else ts)) (f (if b then drop 1 (ts ++ more) else ts ++ more))
skipped true ts f law = behind_next ts f law
skipped false ts f law = law ts

-- behind the next token, where a test says so
pub skip_if : {A : Type 0} {rest : Rest A} {more : List Token} (ts : List Token) (test : List Token → Bool) (f : List Token → Parsed A) →
    ((t u : Token) (us : List Token) → test (t ∷ u ∷ (us ++ more)) ≡ test (t ∷ u ∷ us)) → ((us : List Token) → Agrees rest more us (f us) (f (us ++ more))) →
    Agrees rest more ts (f (if test ts then drop 1 ts else ts)) (f (if test (ts ++ more) then drop 1 (ts ++ more) else ts ++ more))
skip_if [] test f same law = quiet (omega arith) (skipped (test []) [] f law)
skip_if (t ∷ []) test f same law = quiet (omega arith) (skipped (test (t ∷ [])) (t ∷ []) f law)
skip_if (t ∷ u ∷ us) test f same law = rw (same t u us) (skipped (test (t ∷ u ∷ us)) (t ∷ u ∷ us) f law)

-- the tokens behind the next, where a test says so, alone
pub skipped-ahead : {more : List Token} (ts : List Token) (test : List Token → Bool) → ((t u : Token) (us : List Token) → test (t ∷ u ∷ (us ++ more)) ≡ test (t ∷ u ∷ us)) →
    Agrees left_over more ts (Ok (if test ts then drop 1 ts else ts)) (Ok (if test (ts ++ more) then drop 1 (ts ++ more) else ts ++ more))
skipped-ahead ts test same = skip_if ts test Ok same (λ us. done)

-- ---- parts of one token

-- what is read of this token and those behind it is the token, or nothing
pub data OneToken {A : Type 0} (more : List Token) (t : Token) (ts : List Token) : Parsed (A × List Token) → Parsed (A × List Token) → Type 0 where
  taken : (x : A) → OneToken more t ts (Ok (x, ts)) (Ok (x, ts ++ more))
  not_taken : OneToken more t ts (Err (length (t ∷ ts))) (Err (length (t ∷ (ts ++ more))))

-- a part of one token looks no further
pub one-ahead : {A : Type 0} {more : List Token} {t : Token} {ts : List Token} {p q : Parsed (A × List Token)} → OneToken more t ts p q → Agrees behind_it more (t ∷ ts) p q
one-ahead (taken x) = later done
one-ahead {more = more} {t = t} {ts = ts} not_taken = stuck-ahead behind_it more (t ∷ ts)

-- a token, and then a test of it that can't go on at the token itself
pub one_then : {A B : Type 0} {more : List Token} {t : Token} {ts : List Token} {p q : Parsed (A × List Token)} (f g : A × List Token → Parsed (B × List Token)) → OneToken more t ts p q →
    ((x : A) → OneToken more t ts (f (x, ts)) (g (x, ts ++ more))) → OneToken more t ts (p >>= f) (q >>= g)
one_then f g (taken x) k = k x
one_then f g not_taken k = not_taken

-- taken where a test says so
pub one_if : {A : Type 0} {more : List Token} {t : Token} {ts : List Token} (b : Bool) (x : A) → OneToken more t ts (if b then Ok (x, ts) else stuck (t ∷ ts)) (if b then Ok (x, ts ++ more) else stuck (t ∷ (ts ++ more)))
one_if true x = taken x
one_if false x = not_taken

number_by-one : (more : List Token) (kind : Kind) (t : Token) (ts : List Token) → OneToken more t ts (number_by kind (t ∷ ts)) (number_by kind (t ∷ (ts ++ more)))
number_by-one more (Number v) t ts = taken v
number_by-one more Word t ts = not_taken
number_by-one more Quoted t ts = not_taken
number_by-one more Text t ts = not_taken
number_by-one more (Sign b) t ts = not_taken
number_by-one more Go t ts = not_taken
number_by-one more Colon t ts = not_taken
number_by-one more Bad t ts = not_taken

filled-one : (more : List Token) (found : Option (List ℕ)) (t : Token) (ts : List Token) → OneToken more t ts (filled found (t ∷ ts)) (filled found (t ∷ (ts ++ more)))
filled-one more None t ts = not_taken
filled-one more (Some found) t ts = one_if (nat_lt 0 (length found)) found

any_text-one : (more : List Token) (found : Option (List ℕ)) (t : Token) (ts : List Token) → OneToken more t ts (any_text found (t ∷ ts)) (any_text found (t ∷ (ts ++ more)))
any_text-one more None t ts = not_taken
any_text-one more (Some found) t ts = taken found

pub number-one : (more : List Token) (t : Token) (ts : List Token) → OneToken more t ts (number (t ∷ ts)) (number (t ∷ (ts ++ more)))
unfolding number
number-one more t ts = number_by-one more t.kind t ts

pub name-one : (src : List ℕ) (more : List Token) (t : Token) (ts : List Token) → OneToken more t ts (name src (t ∷ ts)) (name src (t ∷ (ts ++ more)))
unfolding name
name-one src more t ts = filled-one more (name_of src t) t ts

pub text-one : (src : List ℕ) (more : List Token) (t : Token) (ts : List Token) → OneToken more t ts (text src (t ∷ ts)) (text src (t ∷ (ts ++ more)))
unfolding text
text-one src more t ts = any_text-one more (text_of src t) t ts

-- at the end nothing is read
pub at_end : {A : Type 0} {rest : Rest A} {more : List Token} {q : Parsed A} → Agrees rest more [] (Err 0) q
at_end = record { ends = omega arith; same = λ k. absurd (omega (arith, k)) }

-- ---- the parts

pub keyword-ahead : (src word : List ℕ) (more ts : List Token) → Agrees left_over more ts (keyword src word ts) (keyword src word (ts ++ more))
unfolding keyword
keyword-ahead src word more ts = if_next ts (λ us. next_is src us word) (λ t u us. refl) (behind_next ts Ok (λ us. done)) (stuck-ahead left_over more ts)

pub sign-ahead : (b : ℕ) (more ts : List Token) → Agrees left_over more ts (sign b ts) (sign b (ts ++ more))
unfolding sign
sign-ahead b more ts = if_next ts (λ us. next_sign us b) (λ t u us. refl) (behind_next ts Ok (λ us. done)) (stuck-ahead left_over more ts)

pub number-ahead : (more ts : List Token) → Agrees behind_it more ts (number ts) (number (ts ++ more))
unfolding number
number-ahead more [] = at_end
number-ahead more (t ∷ ts) = one-ahead (number-one more t ts)

pub number_in-ahead : (low high : ℕ) (more ts : List Token) → Agrees behind_it more ts (number_in low high ts) (number_in low high (ts ++ more))
unfolding number_in number
number_in-ahead low high more [] = at_end
number_in-ahead low high more (t ∷ ts) = one-ahead (one_then _ _ (number-one more t ts) (λ n. one_if (nat_le low n && nat_le n high) n))

pub name-ahead : (src : List ℕ) (more ts : List Token) → Agrees behind_it more ts (name src ts) (name src (ts ++ more))
unfolding name
name-ahead src more [] = at_end
name-ahead src more (t ∷ ts) = one-ahead (name-one src more t ts)

-- a name that is this word is passed over
fixed_if : (b : Bool) (more : List Token) (t : Token) (ts : List Token) → Agrees left_over more (t ∷ ts) (if b then Ok ts else stuck (t ∷ ts)) (if b then Ok (ts ++ more) else stuck (t ∷ (ts ++ more)))
fixed_if true more t ts = later done
fixed_if false more t ts = stuck-ahead left_over more (t ∷ ts)

fixed_by : (word : List ℕ) (more : List Token) (t : Token) (ts : List Token) (p q : Parsed (List ℕ × List Token)) → OneToken more t ts p q →
    Agrees left_over more (t ∷ ts) (p >>= λ n. if same_name n.0 word then Ok n.1 else stuck (t ∷ ts)) (q >>= λ n. if same_name n.0 word then Ok n.1 else stuck (t ∷ (ts ++ more)))
fixed_by word more t ts p q (taken x) = fixed_if (same_name x word) more t ts
fixed_by word more t ts p q not_taken = stuck-ahead left_over more (t ∷ ts)

pub fixed-ahead : (src word : List ℕ) (more ts : List Token) → Agrees left_over more ts (fixed src word ts) (fixed src word (ts ++ more))
unfolding fixed name
fixed-ahead src word more [] = at_end
fixed-ahead src word more (t ∷ ts) = fixed_by word more t ts _ _ (name-one src more t ts)

pub text-ahead : (src : List ℕ) (more ts : List Token) → Agrees behind_it more ts (text src ts) (text src (ts ++ more))
unfolding text
text-ahead src more [] = at_end
text-ahead src more (t ∷ ts) = one-ahead (text-one src more t ts)

pub filled_text-ahead : (src : List ℕ) (more ts : List Token) → Agrees behind_it more ts (filled_text src ts) (filled_text src (ts ++ more))
unfolding filled_text text
filled_text-ahead src more [] = at_end
filled_text-ahead src more (t ∷ ts) = one-ahead (one_then _ _ (text-one src more t ts) (λ x. one_if (nat_lt 0 (length x)) x))

pub equal_text-ahead : (src : List ℕ) (more ts : List Token) → Agrees behind_it more ts (equal_text src ts) (equal_text src (ts ++ more))
unfolding equal_text
equal_text-ahead src more ts = and_then _ _ (sign-ahead 61 more ts) (λ a h. text-ahead src more a)

pub equal_filled-ahead : (src : List ℕ) (more ts : List Token) → Agrees behind_it more ts (equal_filled src ts) (equal_filled src (ts ++ more))
unfolding equal_filled
equal_filled-ahead src more ts = and_then _ _ (sign-ahead 61 more ts) (λ a h. filled_text-ahead src more a)

pub equal_number-ahead : (more ts : List Token) → Agrees behind_it more ts (equal_number ts) (equal_number (ts ++ more))
unfolding equal_number
equal_number-ahead more ts = and_then _ _ (sign-ahead 61 more ts) (λ a h. number-ahead more a)

-- a form that reads with a part that is there, or not
pub skip-ahead : {A : Type 0} {rest : Rest A} (src word : List ℕ) (more ts : List Token) (f : List Token → Parsed A) → ((us : List Token) → Agrees rest more us (f us) (f (us ++ more))) →
    Agrees rest more ts (f (skip src word ts)) (f (skip src word (ts ++ more)))
unfolding skip
skip-ahead src word more ts f law = skip_if ts (λ us. next_is src us word) f (λ t u us. refl) law
