-- Figures as they are printed, and as they are read.
use Rattle.std.proofs.Common.{◌≡◌, ℕ, ◌+◌, ◌/◌, ◌%◌, ◌^◌, ◌<◌, ◌≤◌, false, [], ◌∷◌, inl, inr, refl, ◌∙◌, arith}
use Rattle.std.proofs.lemmas.Bool.{cases_order}
use Rattle.std.proofs.lemmas.Fmt.{decimal_digit, decimal_step}
use Rattle.std.specs.Fmt.{decimal, padded_integral, format_spec, char_count}
use Rattle.bk_time.specs.Times.{two_figures, three_figures}

by_lt : {P : Type 0} (a b : ℕ) → (a < b → P) → (b ≤ a → P) → P
by_lt a b below above = elim (cases_order a b) [ inl e ↦ above (omega arith) | inr (inl lt) ↦ below lt | inr (inr gt) ↦ above (omega arith) ]

decimal_two : (n : ℕ) → 10 ≤ n → n < 100 → decimal n ≡ (48 + n / 10) ∷ (48 + n % 10) ∷ []
decimal_two n low high =
    let fits : n < 2 ^ 64 = omega arith in
    let front : n / 10 < 10 = omega arith in
    decimal_step n low fits ∙ rw (decimal_digit (n / 10)) refl

decimal_three : (n : ℕ) → 100 ≤ n → n < 1000 → decimal n ≡ (48 + n / 100) ∷ (48 + n / 10 % 10) ∷ (48 + n % 10) ∷ []
decimal_three n low high =
    let fits : n < 2 ^ 64 = omega arith in
    let enough : 10 ≤ n = omega arith in
    let front : 10 ≤ n / 10 = omega arith in
    let small : n / 10 < 100 = omega arith in
    let parts : n / 10 / 10 ≡ n / 100 = omega arith in
    decimal_step n enough fits ∙ rw (decimal_two (n / 10) front small, parts) refl

-- what `{}` writes of a number of four digits
pub decimal_four : (n : ℕ) → 1000 ≤ n → n < 10000 → decimal n ≡ (48 + n / 1000) ∷ (48 + n / 100 % 10) ∷ (48 + n / 10 % 10) ∷ (48 + n % 10) ∷ []
decimal_four n low high =
    let fits : n < 2 ^ 64 = omega arith in
    let enough : 10 ≤ n = omega arith in
    let front : 100 ≤ n / 10 = omega arith in
    let small : n / 10 < 1000 = omega arith in
    let parts : n / 10 / 100 ≡ n / 1000 = omega arith in
    let more : n / 10 / 10 ≡ n / 100 = omega arith in
    decimal_step n enough fits ∙ rw (decimal_three (n / 10) front small, parts, more) refl

-- what `{:02}` writes of a number below 100
pub padded_two : (n : ℕ) → n < 100 → padded_integral (format_spec 32 0 4 2 18446744073709551615) false [] (decimal n) ≡ two_figures n
unfolding padded_integral char_count
padded_two n high = by_lt n 10
    (λ one. let tens : n / 10 ≡ 0 = omega arith in let ones : n % 10 ≡ n = omega arith in rw (decimal_digit n one, tens, ones))
    (λ two. rw (decimal_two n two high))

pub padded_three : (n : ℕ) → n < 1000 → padded_integral (format_spec 32 0 4 3 18446744073709551615) false [] (decimal n) ≡ three_figures n
unfolding padded_integral char_count
padded_three n high = by_lt n 10
    (λ one. let hundreds : n / 100 ≡ 0 = omega arith in let tens : n / 10 ≡ 0 = omega arith in let ones : n % 10 ≡ n = omega arith in rw (decimal_digit n one, hundreds, tens, ones))
    (λ more. by_lt n 100
    (λ two. let hundreds : n / 100 ≡ 0 = omega arith in let tens : n / 10 % 10 ≡ n / 10 = omega arith in rw (decimal_two n more two, hundreds, tens))
    (λ three. rw (decimal_three n three high)))
