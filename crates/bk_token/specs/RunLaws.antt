-- Longest runs of bytes that pass a test.
use Rattle.std.proofs.Common.{◌≡◌, ℕ, suc, ◌+◌, ◌<◌, Bool, true, false, cond, List, [], ◌∷◌, ◌++◌, length, take, drop, refl, arith}
use Rattle.std.specs.List.{prefix_len, list_all}
use Rattle.std.proofs.lemmas.Grind.{common_steps}
use Rattle.bk_token.specs.Bytes.{begins, IsRun}

-- the longest run at the front
run_cons : (p : ℕ → Bool) (b : ℕ) (bs : List ℕ) (n : ℕ) (t : Bool) → p b ≡ t → IsRun p (take n bs) (drop n bs) → IsRun p (take (cond t (1 + n) 0) (b ∷ bs)) (drop (cond t (1 + n) 0) (b ∷ bs))
run_cons p b bs n true e run = let step : 1 + n ≡ suc n = omega arith in rw step (record { passes = rw e (run.passes); ends = run.ends })
run_cons p b bs n false e run = record { passes = refl; ends = e }

pub prefix_run : (p : ℕ → Bool) (bs : List ℕ) → IsRun p (take (prefix_len p bs) bs) (drop (prefix_len p bs) bs)
prefix_run p [] = record { passes = refl; ends = refl }
prefix_run p (b ∷ bs) = run_cons p b bs (prefix_len p bs) (p b) refl (prefix_run p bs)

-- a run is the longest that there is
run_head : (p : ℕ → Bool) (b : ℕ) (bs : List ℕ) → list_all p (b ∷ bs) ≡ true → p b ≡ true
run_head p b bs e = grind (arith, common_steps)

run_tail : (p : ℕ → Bool) (b : ℕ) (bs : List ℕ) → list_all p (b ∷ bs) ≡ true → list_all p bs ≡ true
run_tail p b bs e = grind (arith, common_steps)

prefix_len-none : (p : ℕ → Bool) (rest : List ℕ) → begins p rest ≡ false → prefix_len p rest ≡ 0
prefix_len-none p [] e = refl
prefix_len-none p (b ∷ bs) e = rw e refl

pub prefix_len-run : (p : ℕ → Bool) (text rest : List ℕ) → IsRun p text rest → prefix_len p (text ++ rest) ≡ length text
prefix_len-run p [] rest run = prefix_len-none p rest run.ends
prefix_len-run p (b ∷ bs) rest run =
    rw (run_head p b bs run.passes)
    (omega (arith, prefix_len-run p bs rest (record { passes = run_tail p b bs run.passes; ends = run.ends })))

-- a run has a byte where the first byte passes
pub prefix_len-some : (p : ℕ → Bool) (bs : List ℕ) → begins p bs ≡ true → 0 < prefix_len p bs
prefix_len-some p [] e = grind arith
prefix_len-some p (b ∷ bs) e = rw e (omega arith)
