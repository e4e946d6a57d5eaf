-- The laws of each codec: what is read is spelled so and fits, and what fits and is spelled is read.
use Rattle.std.proofs.Common.{replicate, ◌≡◌, ℕ, zero, suc, ◌+◌, ◌-◌, ◌^◌, ◌<◌, ◌≤◌, Bool, true, false, cond, eqb, ltb, List, [], ◌∷◌, ◌++◌, length, take, drop, Option, Some, None, refl, sym, ap, subst, ◌∙◌, append_assoc, arith, inl, inr}
use Rattle.std.specs.List.{list_all, flat_map, AllByRecursion}
use Rattle.std.proofs.lemmas.Bool.{cases_lt, ltb-false, le-ltb, eqb-true}
use Rattle.std.proofs.lemmas.List.{take_at, drop_at, take-append-drop, length-append, length-take, get_or-drop, get_or-take, get_or_past, append-nil, nil_from_length, length-replicate}
use Rattle.std.proofs.lemmas.Option.{same_Some}
use Rattle.bk_bytes.specs.Field.{AreBytes, number_of, bytes_of}
use Rattle.bk_bytes.specs.TextLaws.{is_string, is_string-true, is_string-from, list_all-zero, list_all-zeros}
use Rattle.bk_bytes.specs.Codec.{tagged, converted, Converts, nothing, zeros, zeros_at, string, string_at, IsString, ◌>>=◌, Codec, IsCodec, run_at, number_at, text_at, times_at, list_at, framed_at, number, run, text, followed, tested, seen_as, times, counted, framed}
use Rattle.bk_bytes.specs.FieldLaws.{length-bytes_of, number_of-bytes_of, bytes_of-number_of, number_of-lt, number_of-append}

-- ---- bytes

pub AreBytes-drop : (n : ℕ) (bytes : List ℕ) → AreBytes bytes → AreBytes (drop n bytes)
AreBytes-drop n bytes h i = rw get_or-drop (h (n + i))

pub AreBytes-take : (n : ℕ) (bytes : List ℕ) → AreBytes bytes → AreBytes (take n bytes)
AreBytes-take n bytes h i =
    elim (cases_lt i n) [
      | inl lt ↦ rw (get_or-take n bytes i 0 lt) (h i)
      | inr le ↦ rw (get_or_past (take n bytes) i 0 (omega (arith, length-take n bytes))) (omega arith)
    ]

-- what stands after a front of bytes are bytes
pub AreBytes-after : (bytes front rest : List ℕ) → AreBytes bytes → bytes ≡ front ++ rest → AreBytes rest
AreBytes-after bytes front rest h is =
    let cut : drop (length front) bytes ≡ rest = ap (drop (length front)) is ∙ drop_at front rest (length front) refl in
    subst (λ (r : List ℕ). AreBytes r) cut (AreBytes-drop (length front) bytes h)

-- a front of bytes are bytes
pub AreBytes-front : (bytes front rest : List ℕ) → AreBytes bytes → bytes ≡ front ++ rest → AreBytes front
AreBytes-front bytes front rest h is =
    let cut : take (length front) bytes ≡ front = ap (take (length front)) is ∙ take_at front rest (length front) refl in
    subst (λ (r : List ℕ). AreBytes r) cut (AreBytes-take (length front) bytes h)

-- two fronts, one after the other
joined : (bytes a more b rest : List ℕ) → bytes ≡ a ++ more → more ≡ b ++ rest → bytes ≡ (a ++ b) ++ rest
joined bytes a more b rest first second = first ∙ ap (λ (r : List ℕ). a ++ r) second ∙ sym (append_assoc a b rest)

-- a front with nothing behind it
nothing_behind : (bytes a rest : List ℕ) → bytes ≡ a ++ rest → rest ≡ [] → bytes ≡ a
nothing_behind bytes a rest is none = is ∙ ap (λ (r : List ℕ). a ++ r) none ∙ append-nil a

-- ---- options

-- the value of a step that read something
pub bind_some : {A B : Type 0} (r : Option A) (f : A → Option B) (y : B) → (r >>= f) ≡ Some y → (x : A) × (r ≡ Some x) × (f x ≡ Some y)
bind_some None f y e = absurd cc
bind_some (Some x) f y e = (x, refl, e)

-- a test that let something through
pub guard_false : {A : Type 0} (b : Bool) (x y : A) → cond b None (Some x) ≡ Some y → (b ≡ false) × (x ≡ y)
guard_false true x y e = absurd cc
guard_false false x y e = (refl, cc)

pub guard_true : {A : Type 0} (b : Bool) (x y : A) → cond b (Some x) None ≡ Some y → (b ≡ true) × (x ≡ y)
guard_true false x y e = absurd cc
guard_true true x y e = (refl, cc)

abbrev pub some : {A : Type 0} → A → Option A
some x = Some x

-- two readings one after the other
pub bind_assoc : {A B C : Type 0} (r : Option A) (f : A → Option B) (g : B → Option C) → ((r >>= f) >>= g) ≡ (r >>= λ x. f x >>= g)
bind_assoc None f g = refl
bind_assoc (Some x) f g = refl

-- ---- numbers, runs, texts

pub number-IsCodec : (n : ℕ) → IsCodec ℕ (number n)
number-IsCodec n = record {
  takes = λ bytes x rest fits e.
      let g = guard_false (ltb (length bytes) n) (number_of n bytes, drop n bytes) (x, rest) e in
      let long : n ≤ length bytes = ltb-false _ _ g.0 in
      let front : List ℕ = take n bytes in
      let len : length front ≡ n = omega (arith, length-take n bytes) in
      let whole : front ++ drop n bytes ≡ bytes = take-append-drop n bytes in
      let same : number_of n bytes ≡ number_of n front = ap (number_of n) (sym whole) ∙ number_of-append n front (drop n bytes) (omega arith) in
      let x-is : number_of n bytes ≡ x = ap (λ (p : ℕ × List ℕ). p.0) g.1 in
      let rest-is : drop n bytes ≡ rest = ap (λ (p : ℕ × List ℕ). p.1) g.1 in
      let spelled : bytes_of n (number_of n front) ≡ front = ap (λ (k : ℕ). bytes_of k (number_of k front)) (sym len) ∙ bytes_of-number_of front (AreBytes-take n bytes fits) in
      let spelled_x : bytes_of n x ≡ front = ap (bytes_of n) (sym x-is ∙ same) ∙ spelled in
      (sym (rw (spelled_x, ← rest-is) whole), rw (← x-is) (number_of-lt n bytes fits));
  gives = λ x rest fits.
      let len = length-bytes_of n x in
      let long : ltb (length (bytes_of n x ++ rest)) n ≡ false = le-ltb _ _ (omega (arith, length-append (bytes_of n x) rest)) in
      rw (long, drop_at (bytes_of n x) rest n len, number_of-bytes_of n x rest fits) refl;
}

pub run-IsCodec : (n : ℕ) → IsCodec (List ℕ) (run n)
run-IsCodec n = record {
  takes = λ bytes x rest fits e.
      let g = guard_false (ltb (length bytes) n) (take n bytes, drop n bytes) (x, rest) e in
      let long : n ≤ length bytes = ltb-false _ _ g.0 in
      let x-is : take n bytes ≡ x = ap (λ (p : List ℕ × List ℕ). p.0) g.1 in
      let rest-is : drop n bytes ≡ rest = ap (λ (p : List ℕ × List ℕ). p.1) g.1 in
      (sym (rw (← x-is, ← rest-is) (take-append-drop n bytes)), rw (← x-is) (omega (arith, length-take n bytes)));
  gives = λ x rest fits.
      let long : ltb (length (x ++ rest)) n ≡ false = le-ltb _ _ (omega (arith, length-append x rest)) in
      rw (long, take_at x rest n fits, drop_at x rest n fits) refl;
}

-- ---- one value and then another

pub followed-IsCodec : {A B : Type 0} (c : Codec A) (d : A → Codec B) → IsCodec A c → ((x : A) → IsCodec B (d x)) → IsCodec (A × B) (followed c d)
followed-IsCodec {A} {B} c d c_law d_law = record {
  takes = λ bytes both rest fits e.
      let first = bind_some (c.reading bytes) (λ x. (d x.0).reading x.1 >>= λ y. Some ((x.0, y.0), y.1)) (both, rest) e in
      let second = bind_some ((d first.0.0).reading first.0.1) (λ y. Some ((first.0.0, y.0), y.1)) (both, rest) first.2 in
      let a = c_law.takes bytes first.0.0 first.0.1 fits first.1 in
      let others : AreBytes first.0.1 = AreBytes-after bytes (c.spelling first.0.0) first.0.1 fits a.0 in
      let b = (d_law first.0.0).takes first.0.1 second.0.0 second.0.1 others second.1 in
      let whole : bytes ≡ (c.spelling first.0.0 ++ (d first.0.0).spelling second.0.0) ++ second.0.1 =
      joined bytes (c.spelling first.0.0) first.0.1 ((d first.0.0).spelling second.0.0) second.0.1 a.0 b.0 in
      subst (λ (p : (A × B) × List ℕ). (bytes ≡ (c.spelling p.0.0 ++ (d p.0.0).spelling p.0.1) ++ p.1) × (c.Fits p.0.0 × (d p.0.0).Fits p.0.1))
      (same_Some ((first.0.0, second.0.0), second.0.1) (both, rest) second.2)
      (whole, (a.1, b.1));
  gives = λ both rest fits.
      let regrouped : (c.spelling both.0 ++ (d both.0).spelling both.1) ++ rest ≡ c.spelling both.0 ++ ((d both.0).spelling both.1 ++ rest) = append_assoc (c.spelling both.0) ((d both.0).spelling both.1) rest in
      rw (regrouped, c_law.gives both.0 ((d both.0).spelling both.1 ++ rest) fits.0, (d_law both.0).gives both.1 rest fits.1) refl;
}

-- ---- a test

pub tested-IsCodec : {A : Type 0} (c : Codec A) (test : A → Bool) → IsCodec A c → IsCodec A (tested c test)
tested-IsCodec {A} c test law = record {
  takes = λ bytes x rest fits e.
      let first = bind_some (c.reading bytes) (λ y. cond (test y.0) (Some y) None) (x, rest) e in
      let g = guard_true (test first.0.0) first.0 (x, rest) first.2 in
      let a = law.takes bytes first.0.0 first.0.1 fits first.1 in
      subst (λ (p : A × List ℕ). (bytes ≡ c.spelling p.0 ++ p.1) × (c.Fits p.0 × (test p.0 ≡ true))) g.1 (a.0, (a.1, g.0));
  gives = λ x rest fits. rw (law.gives x rest fits.0, fits.1) refl;
}

-- ---- another type

pub seen_as-IsCodec : {A B : Type 0} (c : Codec A) (there : A → B) (back : B → A) → IsCodec A c
    → ((x : A) → c.Fits x → back (there x) ≡ x) → ((y : B) → there (back y) ≡ y)
    → IsCodec B (seen_as c there back)
seen_as-IsCodec {A} {B} c there back law again same = record {
  takes = λ bytes y rest fits e.
      let first = bind_some (c.reading bytes) (λ x. Some (there x.0, x.1)) (y, rest) e in
      let a = law.takes bytes first.0.0 first.0.1 fits first.1 in
      let at_x : back (there first.0.0) ≡ first.0.0 = again first.0.0 a.1 in
      let whole : bytes ≡ c.spelling (back (there first.0.0)) ++ first.0.1 = rw at_x a.0 in
      let fit : c.Fits (back (there first.0.0)) = rw at_x a.1 in
      subst (λ (p : B × List ℕ). (bytes ≡ c.spelling (back p.0) ++ p.1) × c.Fits (back p.0)) (same_Some (there first.0.0, first.0.1) (y, rest) first.2) (whole, fit);
  gives = λ y rest fits. rw (law.gives (back y) rest fits, same y) refl;
}

-- ---- lists

times_takes : {A : Type 0} (c : Codec A) → IsCodec A c → (n : ℕ) (bytes : List ℕ) (xs : List A) (rest : List ℕ) → AreBytes bytes → times_at c.reading n bytes ≡ Some (xs, rest)
    → (bytes ≡ flat_map c.spelling xs ++ rest) × ((length xs ≡ n) × AllByRecursion c.Fits xs)
unfolding times_at
times_takes {A} c law zero bytes xs rest fits e =
    subst (λ (p : List A × List ℕ). (bytes ≡ flat_map c.spelling p.0 ++ p.1) × ((length p.0 ≡ 0) × AllByRecursion c.Fits p.0)) (same_Some ([], bytes) (xs, rest) e) (refl, (refl, tt))
times_takes {A} c law (suc n) bytes xs rest fits e =
    let first = bind_some (c.reading bytes) (λ x. times_at c.reading n x.1 >>= λ ys. Some (x.0 ∷ ys.0, ys.1)) (xs, rest) e in
    let others = bind_some (times_at c.reading n first.0.1) (λ ys. Some (first.0.0 ∷ ys.0, ys.1)) (xs, rest) first.2 in
    let a = law.takes bytes first.0.0 first.0.1 fits first.1 in
    let after : AreBytes first.0.1 = AreBytes-after bytes (c.spelling first.0.0) first.0.1 fits a.0 in
    let b = times_takes c law n first.0.1 others.0.0 others.0.1 after others.1 in
    let whole : bytes ≡ (c.spelling first.0.0 ++ flat_map c.spelling others.0.0) ++ others.0.1 =
    joined bytes (c.spelling first.0.0) first.0.1 (flat_map c.spelling others.0.0) others.0.1 a.0 b.0 in
    subst (λ (p : List A × List ℕ). (bytes ≡ flat_map c.spelling p.0 ++ p.1) × ((length p.0 ≡ suc n) × AllByRecursion c.Fits p.0))
    (same_Some (first.0.0 ∷ others.0.0, others.0.1) (xs, rest) others.2)
    (whole, (ap suc b.1.0, (a.1, b.1.1)))

times_gives : {A : Type 0} (c : Codec A) → IsCodec A c → (n : ℕ) (xs : List A) (rest : List ℕ) → (length xs ≡ n) × AllByRecursion c.Fits xs
    → times_at c.reading n (flat_map c.spelling xs ++ rest) ≡ Some (xs, rest)
unfolding times_at
times_gives c law zero [] rest fits = refl
times_gives c law zero (x ∷ xs) rest fits = absurd (omega (arith, fits.0))
times_gives c law (suc n) [] rest fits = absurd (omega (arith, fits.0))
times_gives c law (suc n) (x ∷ xs) rest fits =
    let len : length xs ≡ n = omega (arith, fits.0) in
    let regrouped : (c.spelling x ++ flat_map c.spelling xs) ++ rest ≡ c.spelling x ++ (flat_map c.spelling xs ++ rest) = append_assoc (c.spelling x) (flat_map c.spelling xs) rest in
    rw (regrouped, law.gives x (flat_map c.spelling xs ++ rest) fits.1.0, times_gives c law n xs rest (len, fits.1.1)) refl

pub times-IsCodec : {A : Type 0} (c : Codec A) (n : ℕ) → IsCodec A c → IsCodec (List A) (times c n)
times-IsCodec c n law = record { takes = times_takes c law n; gives = times_gives c law n }

-- ---- a text: a length, and so many bytes

pub text-IsCodec : (n : ℕ) → IsCodec (List ℕ) (text n)
unfolding text_at
text-IsCodec n = record {
  takes = λ bytes t rest fits e.
      let size = bind_some (number_at n bytes) (λ k. run_at k.0 k.1) (t, rest) e in
      let a = (number-IsCodec n).takes bytes size.0.0 size.0.1 fits size.1 in
      let after : AreBytes size.0.1 = AreBytes-after bytes (bytes_of n size.0.0) size.0.1 fits a.0 in
      let b = (run-IsCodec size.0.0).takes size.0.1 t rest after size.2 in
      let whole : bytes ≡ (bytes_of n size.0.0 ++ t) ++ rest = joined bytes (bytes_of n size.0.0) size.0.1 t rest a.0 b.0 in
      (rw b.1 whole, rw b.1 a.1);
  gives = λ t rest fits.
      let regrouped : (bytes_of n (length t) ++ t) ++ rest ≡ bytes_of n (length t) ++ (t ++ rest) = append_assoc (bytes_of n (length t)) t rest in
      rw (regrouped, (number-IsCodec n).gives (length t) (t ++ rest) fits) ((run-IsCodec (length t)).gives t rest refl);
}

-- ---- a count, and so many values

pub counted-IsCodec : {A : Type 0} (n : ℕ) (c : Codec A) → IsCodec A c → IsCodec (List A) (counted n c)
unfolding list_at
counted-IsCodec {A} n c law = record {
  takes = λ bytes xs rest fits e.
      let count = bind_some (number_at n bytes) (λ k. times_at c.reading k.0 k.1) (xs, rest) e in
      let a = (number-IsCodec n).takes bytes count.0.0 count.0.1 fits count.1 in
      let after : AreBytes count.0.1 = AreBytes-after bytes (bytes_of n count.0.0) count.0.1 fits a.0 in
      let b = times_takes c law count.0.0 count.0.1 xs rest after count.2 in
      let whole : bytes ≡ (bytes_of n count.0.0 ++ flat_map c.spelling xs) ++ rest = joined bytes (bytes_of n count.0.0) count.0.1 (flat_map c.spelling xs) rest a.0 b.0 in
      (rw b.1.0 whole, (rw b.1.0 a.1, b.1.1));
  gives = λ xs rest fits.
      let regrouped : (bytes_of n (length xs) ++ flat_map c.spelling xs) ++ rest ≡ bytes_of n (length xs) ++ (flat_map c.spelling xs ++ rest) = append_assoc (bytes_of n (length xs)) (flat_map c.spelling xs) rest in
      rw (regrouped, (number-IsCodec n).gives (length xs) (flat_map c.spelling xs ++ rest) fits.0) (times_gives c law (length xs) xs rest (refl, fits.1));
}

-- ---- a value that fills a length

-- a test that let a step through
guard_step : {A : Type 0} (b : Bool) (r : Option A) (y : A) → cond b None r ≡ Some y → (b ≡ false) × (r ≡ Some y)
guard_step true r y e = absurd cc
guard_step false r y e = (refl, e)

pub framed-IsCodec : {A : Type 0} (n : ℕ) (c : Codec A) → IsCodec A c → IsCodec A (framed n c)
unfolding framed_at
framed-IsCodec {A} n c law = record {
  takes = λ bytes x rest fits e.
      let size = bind_some (number_at n bytes) (λ k. cond (ltb k.0 n) None (run_at (k.0 - n) k.1) >>= λ i. c.reading i.0 >>= λ y. cond (eqb (length y.1) 0) (Some (y.0, i.1)) None) (x, rest) e in
      let k : ℕ = size.0.0 in
      let behind : List ℕ = size.0.1 in
      let a = (number-IsCodec n).takes bytes k behind fits size.1 in
      let inside = bind_some (cond (ltb k n) None (run_at (k - n) behind)) (λ i. c.reading i.0 >>= λ y. cond (eqb (length y.1) 0) (Some (y.0, i.1)) None) (x, rest) size.2 in
      let g = guard_step (ltb k n) (run_at (k - n) behind) inside.0 inside.1 in
      let long : n ≤ k = ltb-false _ _ g.0 in
      let after : AreBytes behind = AreBytes-after bytes (bytes_of n k) behind fits a.0 in
      let b = (run-IsCodec (k - n)).takes behind inside.0.0 inside.0.1 after g.1 in
      let within : AreBytes inside.0.0 = AreBytes-front behind inside.0.0 inside.0.1 after b.0 in
      let value = bind_some (c.reading inside.0.0) (λ y. cond (eqb (length y.1) 0) (Some (y.0, inside.0.1)) None) (x, rest) inside.2 in
      let d = law.takes inside.0.0 value.0.0 value.0.1 within value.1 in
      let done = guard_true (eqb (length value.0.1) 0) (value.0.0, inside.0.1) (x, rest) value.2 in
      let empty : value.0.1 ≡ [] = nil_from_length value.0.1 (eqb-true (length value.0.1) 0 done.0) in
      let body : inside.0.0 ≡ c.spelling value.0.0 = nothing_behind inside.0.0 (c.spelling value.0.0) value.0.1 d.0 empty in
      let size_is : k ≡ n + length (c.spelling value.0.0) = omega (arith, b.1, ap length body) in
      let whole : bytes ≡ (bytes_of n k ++ c.spelling value.0.0) ++ inside.0.1 =
      joined bytes (bytes_of n k) behind (c.spelling value.0.0) inside.0.1 a.0 (b.0 ∙ ap (λ (r : List ℕ). r ++ inside.0.1) body) in
      let sized : bytes ≡ (bytes_of n (n + length (c.spelling value.0.0)) ++ c.spelling value.0.0) ++ inside.0.1 = rw (← size_is) whole in
      let small : n + length (c.spelling value.0.0) < 256 ^ n = rw (← size_is) a.1 in
      subst (λ (p : A × List ℕ). (bytes ≡ (bytes_of n (n + length (c.spelling p.0)) ++ c.spelling p.0) ++ p.1) × ((n + length (c.spelling p.0) < 256 ^ n) × c.Fits p.0)) done.1 (sized, (small, d.1));
  gives = λ x rest fits.
      let body : List ℕ = c.spelling x in
      let k : ℕ = n + length body in
      let regrouped : (bytes_of n k ++ body) ++ rest ≡ bytes_of n k ++ (body ++ rest) = append_assoc (bytes_of n k) body rest in
      let long : ltb k n ≡ false = le-ltb k n (omega arith) in
      let inner : k - n ≡ length body = omega arith in
      let read : c.reading body ≡ Some (x, []) = rw (← append-nil body) (law.gives x [] fits.1) in
      rw (regrouped, (number-IsCodec n).gives k (body ++ rest) fits.0, long, inner, (run-IsCodec (length body)).gives body rest refl, read) refl;
}

-- ---- values of another type, where there is one

pub converted-IsCodec : {A B : Type 0} (c : Codec A) (there : A → Option B) (back : B → A) (Fits : B → Type 0)
    → IsCodec A c → Converts A B c there back Fits → IsCodec B (converted c there back Fits)
converted-IsCodec {A} {B} c there back Fits law way = record {
  takes = λ bytes y rest fits e.
      let first = bind_some (c.reading bytes) (λ x. there x.0 >>= λ z. Some (z, x.1)) (y, rest) e in
      let second = bind_some (there first.0.0) (λ z. Some (z, first.0.1)) (y, rest) first.2 in
      let a = law.takes bytes first.0.0 first.0.1 fits first.1 in
      let w = way.takes first.0.0 second.0 a.1 second.1 in
      let whole : bytes ≡ c.spelling (back second.0) ++ first.0.1 = rw w.0 a.0 in
      subst (λ (p : B × List ℕ). (bytes ≡ c.spelling (back p.0) ++ p.1) × Fits p.0) (same_Some (second.0, first.0.1) (y, rest) second.2) (whole, w.1);
  gives = λ y rest fits.
      let w = way.gives y fits in
      rw (law.gives (back y) rest w.1, w.0) refl;
}

pub nothing-IsCodec : {A : Type 0} → IsCodec A nothing
nothing-IsCodec = record { takes = λ bytes x rest fits e. absurd cc; gives = λ x rest fits. absurd fits }

-- ---- zeros, and texts in UTF-8

pub zeros-IsCodec : (n : ℕ) → IsCodec (Unit {0}) (zeros n)
unfolding zeros_at
zeros-IsCodec n = record {
  takes = λ bytes x rest fits e.
      let front = bind_some (run_at n bytes) (λ f. cond (list_all (λ b. eqb b 0) f.0) (Some (tt, f.1)) None) (x, rest) e in
      let a = (run-IsCodec n).takes bytes front.0.0 front.0.1 fits front.1 in
      let g = guard_true (list_all (λ b. eqb b 0) front.0.0) (tt, front.0.1) (x, rest) front.2 in
      let zero_front : front.0.0 ≡ replicate n 0 = list_all-zero front.0.0 g.0 ∙ ap (λ (k : ℕ). replicate k 0) a.1 in
      let rest_is : front.0.1 ≡ rest = ap (λ (p : Unit {0} × List ℕ). p.1) g.1 in
      (a.0 ∙ ap (λ (r : List ℕ). front.0.0 ++ r) rest_is ∙ ap (λ (f : List ℕ). f ++ rest) zero_front, tt);
  gives = λ x rest fits.
      rw ((run-IsCodec n).gives (replicate n 0) rest (length-replicate n 0), list_all-zeros n) refl;
}

pub string-IsCodec : (least most : ℕ) → most < 2 ^ 16 → IsCodec (List ℕ) (string least most)
unfolding string_at
string-IsCodec least most small = record {
  takes = λ bytes t rest fits e.
      let text_first = bind_some (text_at 2 bytes) (λ x. cond (is_string least most x.0) (Some x) None) (t, rest) e in
      let g = guard_true (is_string least most text_first.0.0) text_first.0 (t, rest) text_first.2 in
      let a = (text-IsCodec 2).takes bytes text_first.0.0 text_first.0.1 fits text_first.1 in
      let h = is_string-true least most text_first.0.0 g.0 in
      subst (λ (p : List ℕ × List ℕ). (bytes ≡ (bytes_of 2 (length p.0) ++ p.0) ++ p.1) × IsString least most p.0) g.1 (a.0, h);
  gives = λ t rest fits.
      let len : length t < 2 ^ 16 = omega (arith, fits.most_bytes) in
      rw ((text-IsCodec 2).gives t rest len, is_string-from least most t fits) refl;
}

-- ---- a kind, and then the form of that kind

pub tagged-IsCodec : {A : Type 0} (n : ℕ) (kind : A → ℕ) (form : ℕ → Codec A) → ((k : ℕ) → IsCodec A (form k))
    → ((k : ℕ) (x : A) → (form k).Fits x → kind x ≡ k) → IsCodec A (tagged n kind form)
tagged-IsCodec {A} n kind form law same = record {
  takes = λ bytes x rest fits e.
      let first = bind_some (number_at n bytes) (λ k. (form k.0).reading k.1) (x, rest) e in
      let a = (number-IsCodec n).takes bytes first.0.0 first.0.1 fits first.1 in
      let after : AreBytes first.0.1 = AreBytes-after bytes (bytes_of n first.0.0) first.0.1 fits a.0 in
      let b = (law first.0.0).takes first.0.1 x rest after first.2 in
      let whole : bytes ≡ (bytes_of n first.0.0 ++ (form first.0.0).spelling x) ++ rest = joined bytes (bytes_of n first.0.0) first.0.1 ((form first.0.0).spelling x) rest a.0 b.0 in
      subst (λ (k : ℕ). (bytes ≡ (bytes_of n k ++ (form k).spelling x) ++ rest) × ((k < 256 ^ n) × (form k).Fits x)) (sym (same first.0.0 x b.1)) (whole, (a.1, b.1));
  gives = λ x rest fits.
      let regrouped : (bytes_of n (kind x) ++ (form (kind x)).spelling x) ++ rest ≡ bytes_of n (kind x) ++ ((form (kind x)).spelling x ++ rest) = append_assoc (bytes_of n (kind x)) ((form (kind x)).spelling x) rest in
      rw (regrouped, (number-IsCodec n).gives (kind x) ((form (kind x)).spelling x ++ rest) fits.0) ((law (kind x)).gives x rest fits.1);
}

-- ---- what follows for every codec

-- one spelling, and none is a proper front of another
pub one_spelling : {A : Type 0} (c : Codec A) → IsCodec A c → (x y : A) (a b : List ℕ) → c.Fits x → c.Fits y
    → c.spelling x ++ a ≡ c.spelling y ++ b → (x ≡ y) × (a ≡ b)
one_spelling {A} c law x y a b fits_x fits_y same =
    let both : some (x, a) ≡ some (y, b) = sym (law.gives x a fits_x) ∙ ap c.reading same ∙ law.gives y b fits_y in
    let pairs : (x, a) ≡ (y, b) = same_Some (x, a) (y, b) both in
    (ap (λ (p : A × List ℕ). p.0) pairs, ap (λ (p : A × List ℕ). p.1) pairs)

-- what is not read is no spelling
pub nothing_spelled : {A : Type 0} (c : Codec A) → IsCodec A c → (bytes : List ℕ) → c.reading bytes ≡ None
    → (x : A) (rest : List ℕ) → c.Fits x → bytes ≡ c.spelling x ++ rest → ⊥
nothing_spelled c law bytes none x rest fits is =
    let read = law.gives x rest fits in
    let met : c.reading (c.spelling x ++ rest) ≡ None = ap c.reading (sym is) ∙ none in
    cc

-- a text of UTF-8 that is read is one
pub string_at-IsString : (least most : ℕ) (bytes t rest : List ℕ) → string_at least most bytes ≡ Some (t, rest) → IsString least most t
unfolding string_at
string_at-IsString least most bytes t rest e =
    let first = bind_some (text_at 2 bytes) (λ x. cond (is_string least most x.0) (Some x) None) (t, rest) e in
    let g = guard_true (is_string least most first.0.0) first.0 (t, rest) first.2 in
    subst (λ (p : List ℕ × List ℕ). IsString least most p.0) g.1 (is_string-true least most first.0.0 g.0)
