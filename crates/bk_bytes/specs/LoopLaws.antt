-- Reading a counted list one value after the other, as a loop does.
use Rattle.std.proofs.Common.{◌≡◌, ℕ, suc, ◌-◌, ◌+◌, ◌≤◌, ◌<◌, List, [], ◌∷◌, ◌++◌, Option, Some, None, refl, sym, ap, ◌∙◌, append_assoc, arith}
use Rattle.std.proofs.lemmas.List.{append-nil}
use Rattle.bk_bytes.specs.Codec.{◌>>=◌, times_at}

-- what was read before, and what is still read
abbrev pub with_front : {A : Type 0} → List A → Option (List A × List ℕ) → Option (List A × List ℕ)
with_front front read = read >>= λ x. Some (front ++ x.0, x.1)

regroup : {A : Type 0} (front : List A) (x : A) (read : Option (List A × List ℕ)) → with_front front (read >>= λ xs. Some (x ∷ xs.0, xs.1)) ≡ with_front (front ++ x ∷ []) read
regroup {A} front x None = refl
regroup {A} front x (Some xs) = ap (λ (ys : List A). Some (ys, xs.1)) (simp append_assoc)

-- one value more is read
pub goes_on : {A : Type 0} (item : List ℕ → Option (A × List ℕ)) (front : List A) (count i : ℕ) (bytes : List ℕ) (x : A) (after : List ℕ) (total : Option (List A × List ℕ))
    → i < count → item bytes ≡ Some (x, after)
    → with_front front (times_at item (count - i) bytes) ≡ total → with_front (front ++ x ∷ []) (times_at item (count - (i + 1)) after) ≡ total
unfolding times_at
goes_on item front count i bytes x after total lt h so_far =
    let k : count - i ≡ suc (count - (i + 1)) = omega arith in
    let one : with_front front (times_at item (count - i) bytes) ≡ with_front (front ++ x ∷ []) (times_at item (count - (i + 1)) after) = rw (k, h) (regroup front x (times_at item (count - (i + 1)) after)) in
    sym one ∙ so_far

-- a value isn't read
pub stops : {A : Type 0} (item : List ℕ → Option (A × List ℕ)) (front : List A) (count i : ℕ) (bytes : List ℕ) (total : Option (List A × List ℕ))
    → i < count → item bytes ≡ None → with_front front (times_at item (count - i) bytes) ≡ total → total ≡ None
unfolding times_at
stops {A} item front count i bytes total lt h so_far =
    let k : count - i ≡ suc (count - (i + 1)) = omega arith in
    let one : with_front front (times_at item (count - i) bytes) ≡ None = rw (k, h) refl in
    sym so_far ∙ one

-- all values are read
pub is_done : {A : Type 0} (item : List ℕ → Option (A × List ℕ)) (front : List A) (count i : ℕ) (bytes : List ℕ) (total : Option (List A × List ℕ))
    → count ≤ i → with_front front (times_at item (count - i) bytes) ≡ total → total ≡ Some (front, bytes)
unfolding times_at
is_done {A} item front count i bytes total le so_far =
    let k : count - i ≡ 0 = omega arith in
    let one : with_front front (times_at item (count - i) bytes) ≡ Some (front, bytes) = rw k (ap (λ (xs : List A). Some (xs, bytes)) (append-nil front)) in
    sym so_far ∙ one

-- nothing is read at the start
pub begins : {A : Type 0} (item : List ℕ → Option (A × List ℕ)) (count : ℕ) (bytes : List ℕ) → with_front [] (times_at item (count - 0) bytes) ≡ times_at item count bytes
begins item count bytes = let k : count - 0 ≡ count = omega arith in rw k (same (times_at item count bytes))
  where
    same : {A : Type 0} (read : Option (List A × List ℕ)) → with_front [] read ≡ read
    same None = refl
    same (Some xs) = refl
