-- Block comments, read byte by byte.
use Rattle.std.proofs.Common.{◌≡◌, ℕ, ◌+◌, ◌-◌, ◌≤◌, Bool, true, false, cond, ◌&&◌, eqb, List, [], ◌∷◌, length, refl, arith}
use Rattle.bk_token.specs.Pieces.{open_comment_len}
use Rattle.bk_token.specs.Reading.{comment_from}

-- two tests pick the same of numbers that are equal
picked : (opens closes last : Bool) (a a' b b' c c' : ℕ) → a ≡ a' → b ≡ b' → c ≡ c' → 1 + cond opens (1 + a) (cond closes (1 + cond last 0 b) c) ≡ cond opens (2 + a') (cond closes (2 + cond last 0 b') (1 + c'))
picked true closes last a a' b b' c c' ea eb ec = omega arith
picked false true true a a' b b' c c' ea eb ec = refl
picked false true false a a' b b' c c' ea eb ec = omega arith
picked false false last a a' b b' c c' ea eb ec = omega arith

-- reading byte by byte finds the same end
pub comment_from-open : (outer : ℕ) (bs : List ℕ) → comment_from outer 0 bs ≡ open_comment_len outer bs
comment_from-open outer [] = refl
comment_from-open outer (b ∷ []) = refl
comment_from-open outer (b ∷ c ∷ bs) =
    picked (eqb b 47 && eqb c 42) (eqb b 42 && eqb c 47) (eqb outer 0) _ _ _ _ _ _ (comment_from-open (outer + 1) bs) (comment_from-open (outer - 1) bs) (comment_from-open outer (c ∷ bs))

-- a comment doesn't pass the end
picked_within : (opens closes last : Bool) (a b c n : ℕ) → a ≤ n → b ≤ n → c ≤ n → cond opens (1 + a) (cond closes (1 + cond last 0 b) (1 + c)) ≤ 1 + n
picked_within true closes last a b c n la lb lc = omega arith
picked_within false true true a b c n la lb lc = omega arith
picked_within false true false a b c n la lb lc = omega arith
picked_within false false last a b c n la lb lc = omega arith

pub comment_from-le : (outer last : ℕ) (bs : List ℕ) → comment_from outer last bs ≤ length bs
comment_from-le outer last [] = omega arith
comment_from-le outer last (b ∷ bs) =
    omega (arith, picked_within (eqb last 47 && eqb b 42) (eqb last 42 && eqb b 47) (eqb outer 0) _ _ _ (length bs) (comment_from-le (outer + 1) 0 bs) (comment_from-le (outer - 1) 0 bs) (comment_from-le outer b bs))
