use Rattle.std.proofs.Common.{◌≡◌, ℕ, suc, ◌+◌, ◌-◌, ◌*◌, ◌<◌, ◌≤◌, Bool, true, refl, sym, ap, ◌∙◌, arith}
use Rattle.std.specs.Prelude.{◌&&◌}
use Rattle.std.specs.List.{list_all, range_with_len}
use Rattle.bk_page.specs.Page.{part}
use Rattle.bk_body.specs.Reading.{is_page_of, are_pages}
use Rattle.bk_body.proofs.pages.are_pages.Goals as goal

-- the tests from a number on, by that number's
next : (test : ℕ → Bool) (j : ℕ) → j < 8 → list_all test (range_with_len j (8 - j)) ≡ (test j && list_all test (range_with_len (j + 1) (8 - (j + 1))))
next test j below = let more : 8 - j ≡ suc (8 - (j + 1)) = omega arith in ap (λ (n : ℕ). list_all test (range_with_len j n)) more

-- none is left
ended : (test : ℕ → Bool) (j : ℕ) → 8 ≤ j → list_all test (range_with_len j (8 - j)) ≡ true
ended test j past = let none : 8 - j ≡ 0 = omega arith in ap (λ (n : ℕ). list_all test (range_with_len j n)) none

pub loop-j-init : goal.loop-j-init
unfolding are_pages
loop-j-init c = refl

pub loop-j-preserved : goal.loop-j-preserved
loop-j-preserved c =
    let test : ℕ → Bool = λ i. is_page_of c.args.file (c.args.first + i) (part c.args.bytes.now (8192 * i) 8192) in
    let passed : test c.loop-j.j ≡ true = cc in
    let step : list_all test (range_with_len c.loop-j.j (8 - c.loop-j.j)) ≡ list_all test (range_with_len (c.loop-j.j + 1) (8 - (c.loop-j.j + 1))) =
    next test c.loop-j.j (omega arith) ∙ ap (λ (b : Bool). b && list_all test (range_with_len (c.loop-j.j + 1) (8 - (c.loop-j.j + 1)))) passed in
    sym step ∙ c.loop-j.invariant
