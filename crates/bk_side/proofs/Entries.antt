-- The entries in the bytes of a batch.
use Rattle.std.proofs.Common.{◌≡◌, ◌<◌, ◌≤◌, ◌+◌, ◌*◌, ◌-◌, ◌/◌, ℕ, zero, suc, List, [], ◌∷◌, ◌++◌, length, take, drop, refl, sym, ap, ap₂, subst, ◌∙◌, arith, length-take, length-drop, length-append}
use Rattle.std.proofs.lemmas.List.{take-take, drop-take, drop-drop, take-append-le, drop-append-le}
use Rattle.bk_bytes.specs.Field.{number_of}
use Rattle.bk_bytes.specs.FieldLaws.{number_of-take}
use Rattle.bk_device.specs.Calls.{read_at}
use Rattle.bk_side.specs.Pages.{Entry, entry_of, entries_in, entries_of}
use Rattle.bk_side.specs.BatchLaws.{AreWhole}

-- an entry reads no further than its own bytes
pub entry_take : (n : ℕ) (bytes : List ℕ) → 8198 ≤ n → entry_of (take n bytes) ≡ entry_of bytes
unfolding entry_of
entry_take n bytes long =
    let two : n ≡ 2 + (n - 2) = omega (arith, long) in
    let six : n ≡ 6 + (n - 6) = omega (arith, long) in
    let file : number_of 2 (take n bytes) ≡ number_of 2 bytes = number_of-take 2 n bytes (omega (arith, long)) in
    let page : number_of 4 (drop 2 (take n bytes)) ≡ number_of 4 (drop 2 bytes) =
    ap (λ (k : ℕ). number_of 4 (drop 2 (take k bytes))) two ∙ ap (number_of 4) (drop-take 2 (n - 2) bytes) ∙ number_of-take 4 (n - 2) (drop 2 bytes) (omega (arith, long)) in
    let rest : take 8192 (drop 6 (take n bytes)) ≡ take 8192 (drop 6 bytes) =
    ap (λ (k : ℕ). take 8192 (drop 6 (take k bytes))) six ∙ ap (take 8192) (drop-take 6 (n - 6) bytes) ∙ take-take 8192 (n - 6) (drop 6 bytes) (omega (arith, long)) in
    ap₂ (λ (a : ℕ × ℕ) (p : List ℕ). (a, p)) (ap₂ (λ (f p : ℕ). (f, p)) file page) rest

entry_in : (m i : ℕ) (bytes : List ℕ) → i < m → drop i (entries_in m bytes) ≡ entry_of (drop (8198 * i) bytes) ∷ drop (i + 1) (entries_in m bytes)
entry_in zero i bytes below = absurd (omega (arith, below))
entry_in (suc m) zero bytes below =
    let Of : ℕ → List Entry = λ k. entry_of (drop k bytes) ∷ entries_in m (drop 8198 bytes) in
    let none : 0 ≡ 8198 * 0 = omega arith in
    ap Of none
entry_in (suc m) (suc i) bytes below =
    let es : List Entry = entries_in m (drop 8198 bytes) in
    let place : 8198 + 8198 * i ≡ 8198 * suc i = omega arith in
    let same : drop (8198 * i) (drop 8198 bytes) ≡ drop (8198 * suc i) bytes = drop-drop (8198 * i) 8198 bytes ∙ ap (λ (k : ℕ). drop k bytes) place in
    let next : suc (i + 1) ≡ suc i + 1 = omega arith in
    let whole : List Entry = entry_of bytes ∷ es in
    entry_in m i (drop 8198 bytes) (omega (arith, below))
    ∙ ap (λ (b : List ℕ). entry_of b ∷ drop (i + 1) es) same
    ∙ ap (λ (k : ℕ). entry_of (drop (8198 * suc i) bytes) ∷ drop k whole) next

-- the entry that is read from its place in a file
pub entry_read : (file : List ℕ) (at len i : ℕ) → i < len / 8198 → at + len ≤ length file
    → drop i (entries_of (read_at file at len)) ≡ entry_of (read_at file (at + 8198 * i) 8198) ∷ drop (i + 1) (entries_of (read_at file at len))
unfolding entries_of
entry_read file at len i below inside =
    let bytes : List ℕ = read_at file at len in
    let size : length bytes ≡ len = simp (length-take, length-drop) (omega arith) in
    let within : 8198 * i + 8198 ≤ len = omega (arith, below) in
    let there : List ℕ = drop (at + 8198 * i) file in
    let rest : ℕ = len - 8198 * i in
    let split : len ≡ 8198 * i + rest = omega (arith, within) in
    let cut : drop (8198 * i) bytes ≡ take rest there =
    ap (λ (k : ℕ). drop (8198 * i) (take k (drop at file))) split ∙ drop-take (8198 * i) rest (drop at file) ∙ ap (take rest) (drop-drop (8198 * i) at file) in
    let same : entry_of (drop (8198 * i) bytes) ≡ entry_of (take 8198 there) =
    ap entry_of cut ∙ entry_take rest there (omega (arith, within)) ∙ sym (entry_take 8198 there (omega arith)) in
    let count : i < length bytes / 8198 = subst (λ (k : ℕ). i < k / 8198) (sym size) below in
    entry_in (length bytes / 8198) i bytes count ∙ ap (λ (e : Entry). e ∷ drop (i + 1) (entries_in (length bytes / 8198) bytes)) same

entries_count : (m : ℕ) (bytes : List ℕ) → drop m (entries_in m bytes) ≡ []
entries_count zero bytes = refl
entries_count (suc m) bytes = entries_count m (drop 8198 bytes)

-- behind the last one there is none
pub none_left : (file : List ℕ) (at len : ℕ) → at + len ≤ length file → drop (len / 8198) (entries_of (read_at file at len)) ≡ []
unfolding entries_of
none_left file at len inside =
    let bytes : List ℕ = read_at file at len in
    let size : length bytes ≡ len = simp (length-take, length-drop) (omega arith) in
    ap (λ (k : ℕ). drop (k / 8198) (entries_in (length bytes / 8198) bytes)) (sym size) ∙ entries_count (length bytes / 8198) bytes

whole_in : (m : ℕ) (bytes : List ℕ) → 8198 * m ≤ length bytes → AreWhole (entries_in m bytes)
unfolding entry_of
whole_in zero bytes long = tt
whole_in (suc m) bytes long =
    (omega (arith, long, length-take 8192 (drop 6 bytes), length-drop 6 bytes), whole_in m (drop 8198 bytes) (omega (arith, long, length-drop 8198 bytes)))

-- each entry has a whole page
pub entries_whole : (bytes : List ℕ) → AreWhole (entries_of bytes)
unfolding entries_of
entries_whole bytes = whole_in (length bytes / 8198) bytes (omega arith)

-- one more entry behind whole ones

entries_push : (m : ℕ) (bytes entry : List ℕ) → length bytes ≡ 8198 * m → length entry ≡ 8198 → entries_in (suc m) (bytes ++ entry) ≡ entries_in m bytes ++ entry_of entry ∷ []
entries_push zero [] entry size whole = refl
entries_push zero (b ∷ bytes) entry size whole = absurd (omega (arith, size))
entries_push (suc m) bytes entry size whole =
    let front : take 8198 (bytes ++ entry) ≡ take 8198 bytes = take-append-le 8198 bytes entry (omega (arith, size)) in
    let first : entry_of (bytes ++ entry) ≡ entry_of bytes =
    sym (entry_take 8198 (bytes ++ entry) (omega arith)) ∙ ap entry_of front ∙ entry_take 8198 bytes (omega arith) in
    let rest : drop 8198 (bytes ++ entry) ≡ drop 8198 bytes ++ entry = drop-append-le 8198 bytes entry (omega (arith, size)) in
    let more : entries_in (suc m) (drop 8198 (bytes ++ entry)) ≡ entries_in m (drop 8198 bytes) ++ entry_of entry ∷ [] =
    ap (entries_in (suc m)) rest ∙ entries_push m (drop 8198 bytes) entry (omega (arith, size, length-drop 8198 bytes)) whole in
    ap (λ (e : Entry). e ∷ entries_in (suc m) (drop 8198 (bytes ++ entry))) first ∙ ap (λ (es : List Entry). entry_of bytes ∷ es) more

pub entries_added : (m : ℕ) (bytes entry : List ℕ) → length bytes ≡ 8198 * m → length entry ≡ 8198 → entries_of (bytes ++ entry) ≡ entries_of bytes ++ entry_of entry ∷ []
unfolding entries_of
entries_added m bytes entry size whole =
    let count : length bytes / 8198 ≡ m = omega (arith, size) in
    let one_more : length (bytes ++ entry) / 8198 ≡ suc m = omega (arith, size, whole, length-append bytes entry) in
    ap (λ (k : ℕ). entries_in k (bytes ++ entry)) one_more
    ∙ entries_push m bytes entry size whole
    ∙ ap (λ (k : ℕ). entries_in k bytes ++ entry_of entry ∷ []) (sym count)
