-- A list that is cut at one of two places and written at both.
use Rattle.std.proofs.Common.{◌≡◌, ◌≢◌, ◌<◌, ◌+◌, ◌-◌, ℕ, List, ◌++◌, length, take, drop, get_or, slice_get, Some, sym, ap, ◌∙◌, arith, length-set, take-append-drop}
use Rattle.std.specs.Prelude.{slice_set}
use Rattle.bk_frames.specs.Pages.{refilled, with_pair}
use Rattle.std.proofs.lemmas.List.{take_at, length-take-le, set-append_left, set-append_right, set_comm, get_or-take, get_or-drop}
use Rattle.std.proofs.lemmas.Option.{slice_get-get_or}

pub set-cut_above : {X : Type 0} → (xs : List X) (i j : ℕ) (x y : X) → i < j → j < length xs
    → slice_set (take j xs) i x ++ slice_set (drop j xs) 0 y ≡ slice_set (slice_set xs i x) j y
set-cut_above xs i j x y below within =
    let front = take j xs in
    let back = drop j xs in
    let len : length front ≡ j = length-take-le j xs (omega arith) in
    let inside : i < length front = omega arith in
    let start : 0 ≡ j - j = omega arith in
    let first : slice_set xs i x ≡ slice_set front i x ++ back =
    ap (λ l. slice_set l i x) (sym (take-append-drop j xs)) ∙ set-append_left front back i x inside in
    ap (λ k. slice_set front i x ++ slice_set back k y) start
    ∙ sym (ap (λ l. slice_set l j y) first ∙ set-append_right (slice_set front i x) back j j y (length-set front i x ∙ len) (omega arith))

pub set-cut_below : {X : Type 0} → (xs : List X) (i j : ℕ) (x y : X) → j < i → i < length xs
    → slice_set (take i xs) j y ++ slice_set (drop i xs) 0 x ≡ slice_set (slice_set xs i x) j y
set-cut_below xs i j x y below within =
    let apart : j ≢ i = omega arith in
    set-cut_above xs j i y x below within ∙ set_comm xs j i y x apart

pub slice_get-front : {X : Type 0} → (xs : List X) (i j : ℕ) (d : X) → i < j → j < length xs → slice_get xs i ≡ Some (get_or (take j xs) i d)
slice_get-front xs i j d below within = slice_get-get_or xs i d (omega arith) ∙ ap Some (sym (get_or-take j xs i d below))

pub slice_get-back : {X : Type 0} → (xs : List X) (j : ℕ) (d : X) → j < length xs → slice_get xs j ≡ Some (get_or (drop j xs) 0 d)
slice_get-back xs j d within =
    let start : j + 0 ≡ j = omega arith in
    slice_get-get_or xs j d within ∙ ap Some (sym (get_or-drop j xs 0 d ∙ ap (λ k. get_or xs k d) start))

-- what was lent is given back at its length
pub refilled-with_pair : (pages lent : List (List ℕ)) (i j : ℕ) (x y : List ℕ) → lent ≡ pages → refilled pages (with_pair lent i j x y) ≡ with_pair pages i j x y
refilled-with_pair pages lent i j x y same =
    let written = with_pair pages i j x y in
    let len : length written ≡ length pages = length-set (slice_set pages i x) j y ∙ length-set pages i x in
    ap (λ l. refilled pages (with_pair l i j x y)) same ∙ take_at written (drop (length written) pages) (length pages) len

-- a page behind a cut is the page of the whole
pub set-behind : {X : Type 0} → (xs : List X) (mid i : ℕ) (x : X) → mid + i < length xs → take mid xs ++ slice_set (drop mid xs) i x ≡ slice_set xs (mid + i) x
set-behind xs mid i x within =
    let front = take mid xs in
    let back = drop mid xs in
    let len : length front ≡ mid = length-take-le mid xs (omega arith) in
    let start : i ≡ mid + i - mid = omega arith in
    ap (λ k. front ++ slice_set back k x) start ∙ sym (set-append_right front back mid (mid + i) x len (omega arith))
    ∙ ap (λ l. slice_set l (mid + i) x) (take-append-drop mid xs)

pub refilled-set : (pages : List (List ℕ)) (i : ℕ) (x : List ℕ) → refilled pages (slice_set pages i x) ≡ slice_set pages i x
refilled-set pages i x = let written = slice_set pages i x in take_at written (drop (length written) pages) (length pages) (length-set pages i x)
