-- What settles a path.
use Rattle.std.proofs.Common.{◌≡◌, ◌≤◌, ◌<◌, ◌^◌, ℕ, ◌+◌, ◌-◌, true, false, List, [], ◌∷◌, ◌++◌, length, map, take, drop, reverse, min, refl, sym, ◌∙◌, ap, subst, arith, append_assoc}
use Rattle.std.specs.Prelude.{nat_lt}
use Rattle.std.specs.List.{AllByRecursion, list_any, filter}
use Rattle.std.proofs.lemmas.Bool.{lt-ltb}
use Rattle.std.proofs.lemmas.List.{take-append-drop, length-append, append-nil, length-take, length-map, length-reverse, nil_from_length, reverse-append, take-map}
use Rattle.std.proofs.Math.Seq.{take-append-add}
use Rattle.bk_ids.specs.declared.record.Rec.{Rec}
use Rattle.bk_ids.specs.declared.record.Body.{Body}
use Rattle.bk_ids.specs.declared.record.Body.TheVariants.{Write}
use Rattle.bk_redo.specs.declared.place.PageAt.{PageAt}
use Rattle.bk_redo.specs.Effects.{fills}
use Rattle.bk_undo.specs.declared.pending.Pending.{Pending}
use Rattle.bk_undo.specs.Laws.{ClosingLeavesTheOpen, UndoingIsSpelled}
use Rattle.bk_undo.specs.Losers.{Rises, body_writes, compensation, compensation_of, is_open, pending, records_below, unnumbered, writes}
use Rattle.bk_lemmas.specs.Lists.{all_filter, all_joined, all_mapped, filter_every}
use Rattle.bk_paths.specs.Paths.{IsPath, KeepsOpen, end_of, kept_from, numbered, settled, undoing}
use Rattle.bk_paths.specs.PathLaws.{numbered_begun, numbered_join, numbered_length, numbered_numbers, numbered_spelled, numbered_take, numbers_below, numbers_rising, path_more, path_take}

-- what undoing a log keeps to
pub record Undo : Type 0 where
  pub rest : (n m : ℕ) (records written front back : List Rec) → Rises records → AllByRecursion (λ r. r.lsn < n) records → n ≤ m → AllByRecursion (λ r. r.lsn < m) written
      → compensation n records ≡ front ++ back → map unnumbered written ≡ front → compensation m (records ++ written) ≡ back
  pub closing : ClosingLeavesTheOpen
  pub held : (n begins : ℕ) (older held : List Rec) → AllByRecursion (λ r. r.lsn < begins) older → AllByRecursion (λ r. r.begin ≤ r.lsn) older
      → AllByRecursion (λ write. begins ≤ write.begin) (pending (records_below n (older ++ held))) → compensation n held ≡ compensation n (older ++ held)
  pub spelled : UndoingIsSpelled

-- ---- the compensation

unnumbered_again : (ws : List Pending) → map unnumbered (map compensation_of ws) ≡ map compensation_of ws
unnumbered_again [] = refl
unnumbered_again (w ∷ ws) = ap (λ (rs : List Rec). compensation_of w ∷ rs) (unnumbered_again ws)

unnumbered_numbered : (n : ℕ) (records : List Rec) → map unnumbered (numbered n records) ≡ map unnumbered records
unnumbered_numbered n [] = refl
unnumbered_numbered n (r ∷ records) = ap (λ (rs : List Rec). unnumbered r ∷ rs) (unnumbered_numbered (n + 1) records)

-- a front of it, under numbers, is that front without them
front_unnumbered : (n m j : ℕ) (records : List Rec) → map unnumbered (numbered m (take j (compensation n records))) ≡ take j (compensation n records)
front_unnumbered n m j records =
    let comp : List Rec = compensation n records in
    unnumbered_numbered m (take j comp) ∙ sym (take-map unnumbered j comp) ∙ ap (take j) (unnumbered_again (reverse (pending (records_below n records))))

-- all records of a path lie below its end
below_end : (records : List Rec) → IsPath records → AllByRecursion (λ (r : Rec). r.lsn < end_of records) records
below_end records path = numbers_below 1 (end_of records) records path.numbered (omega arith)

all_below : (n : ℕ) (records : List Rec) → AllByRecursion (λ (r : Rec). r.lsn < n) records → records_below n records ≡ records
all_below n records low = filter_every (λ (r : Rec). nat_lt r.lsn n) records (all_mapped (λ (r : Rec). r.lsn < n) (λ (r : Rec). nat_lt r.lsn n ≡ true) (λ r. lt-ltb r.lsn n) records low)

-- ---- a path that is settled in part

module _ (undo : Undo) where
  -- a front of what settles a path is written: the rest is left
  left_to_undo : (records : List Rec) (j : ℕ) (back : List Rec) → IsPath records → compensation (end_of records) records ≡ take j (compensation (end_of records) records) ++ back
      → (let written : List Rec = numbered (end_of records) (take j (compensation (end_of records) records)) in compensation (end_of (records ++ written)) (records ++ written) ≡ back)
  left_to_undo records j back path whole =
      let n : ℕ = end_of records in
      let front : List Rec = take j (compensation n records) in
      let written : List Rec = numbered n front in
      let m : ℕ = end_of (records ++ written) in
      let longer : m ≡ n + length front = omega (arith, length-append records written, numbered_length n front) in
      let low : AllByRecursion (λ (r : Rec). r.lsn < m) written = numbers_below n m written (numbered_numbers n front) (omega (arith, longer, numbered_length n front)) in
      undo.rest n m records written front back (numbers_rising 1 records path.numbered) (below_end records path) (omega (arith, longer)) low whole (front_unnumbered n n j records)

  pub settled_part : (records : List Rec) (j : ℕ) → IsPath records → settled (records ++ numbered (end_of records) (take j (compensation (end_of records) records))) ≡ settled records
  unfolding settled
  settled_part records j path =
      let n : ℕ = end_of records in
      let comp : List Rec = compensation n records in
      let front : List Rec = take j comp in
      let back : List Rec = drop j comp in
      let written : List Rec = numbered n front in
      let m : ℕ = end_of (records ++ written) in
      let longer : m ≡ n + length front = omega (arith, length-append records written, numbered_length n front) in
      let whole : comp ≡ front ++ back = sym (take-append-drop j comp) in
      ap (λ (rs : List Rec). (records ++ written) ++ numbered m rs) (left_to_undo records j back path whole)
      ∙ ap (λ (k : ℕ). (records ++ written) ++ numbered k back) longer
      ∙ append_assoc records written (numbered (n + length front) back)
      ∙ ap (λ (rs : List Rec). records ++ rs) (sym (numbered_join n front back) ∙ ap (numbered n) (sym whole))

-- a front of a settled path that has all of the path
front_of_settled : (records : List Rec) (k : ℕ) → length records ≤ k → take k (settled records) ≡ records ++ numbered (end_of records) (take (k - length records) (compensation (end_of records) records))
unfolding settled
front_of_settled records k enough =
    let split : k ≡ length records + (k - length records) = omega (arith, enough) in
    ap (λ (n : ℕ). take n (settled records)) split
    ∙ take-append-add records (undoing records) (k - length records)
    ∙ ap (λ (rs : List Rec). records ++ rs) (numbered_take (k - length records) (end_of records) (compensation (end_of records) records))

pub settled_again : Undo → (records : List Rec) (k : ℕ) → IsPath records → length records ≤ k → settled (take k (settled records)) ≡ settled records
settled_again undo records k path enough = ap settled (front_of_settled records k enough) ∙ settled_part undo records (k - length records) path

-- ---- nothing is pending in a settled path

take_whole : {X : Type 0} (xs : List X) → take (length xs) xs ≡ xs
take_whole xs = sym (append-nil (take (length xs) xs)) ∙ ap (λ (rest : List _). take (length xs) xs ++ rest) (sym (drop_whole xs)) ∙ take-append-drop (length xs) xs
  where
    drop_whole : {X : Type 0} (ys : List X) → drop (length ys) ys ≡ []
    drop_whole [] = refl
    drop_whole (y ∷ ys) = drop_whole ys

none_from_none : (ws : List Pending) → map compensation_of (reverse ws) ≡ [] → ws ≡ []
none_from_none ws none = nil_from_length ws (sym (length-reverse ws) ∙ sym (length-map (reverse ws) compensation_of) ∙ ap length none)

pub nothing_pends : Undo → (records : List Rec) → IsPath records → pending (settled records) ≡ []
unfolding settled
nothing_pends undo records path =
    let n : ℕ = end_of records in
    let comp : List Rec = compensation n records in
    let all : take (length comp) comp ≡ comp = take_whole comp in
    let Left : List Rec → Type 0 = λ front. compensation (end_of (records ++ numbered n front)) (records ++ numbered n front) ≡ [] in
    let none : Left comp = subst Left all (left_to_undo undo records (length comp) [] path (sym all ∙ sym (append-nil (take (length comp) comp)))) in
    let m : ℕ = end_of (settled records) in
    let longer : m ≡ n + length comp = omega (arith, length-append records (undoing records), numbered_length n comp) in
    let low : AllByRecursion (λ (r : Rec). r.lsn < m) (settled records) =
    all_joined (λ (r : Rec). r.lsn < m) records (undoing records)
    (numbers_below 1 m records path.numbered (omega (arith, longer)))
    (numbers_below n m (undoing records) (numbered_numbers n comp) (omega (arith, longer, numbered_length n comp))) in
    ap pending (sym (all_below m (settled records) low)) ∙ none_from_none (pending (records_below m (settled records))) none

-- ---- what a log holds

pub kept_is_enough : Undo → (records : List Rec) (kept : ℕ) → IsPath records → 1 ≤ kept → KeepsOpen kept records → compensation (end_of records) (kept_from kept records) ≡ compensation (end_of records) records
kept_is_enough undo records kept path some opened =
    let older : List Rec = take (kept - 1) records in
    let whole : older ++ kept_from kept records ≡ records = take-append-drop (kept - 1) records in
    let front : IsPath older = path_take (kept - 1) records path in
    let few : length older ≡ min (kept - 1) (length records) = length-take (kept - 1) records in
    let Open : List Rec → Type 0 = λ rs. AllByRecursion (λ (w : Pending). kept ≤ w.begin) (pending rs) in
    let all : records_below (end_of records) (older ++ kept_from kept records) ≡ records = ap (records_below (end_of records)) whole ∙ all_below (end_of records) records (below_end records path) in
    undo.held (end_of records) kept older (kept_from kept records) (numbers_below 1 kept older front.numbered (omega (arith, few, some))) front.begun (subst Open (sym all) opened)
    ∙ ap (compensation (end_of records)) whole

-- ---- the records that undo

undo_writes_nothing : (n : ℕ) (ws : List Pending) → AllByRecursion (λ (r : Rec). writes r ≡ []) (numbered n (map compensation_of ws))
undo_writes_nothing n [] = tt
undo_writes_nothing n (w ∷ ws) = (refl, undo_writes_nothing (n + 1) ws)

take_undo : (j : ℕ) (ws : List Pending) → take j (map compensation_of ws) ≡ map compensation_of (take j ws)
take_undo j ws = take-map compensation_of j ws

pub settling_keeps_open : Undo → (records : List Rec) (kept k : ℕ) → length records ≤ k → KeepsOpen kept records → KeepsOpen kept (take k (settled records))
settling_keeps_open undo records kept k enough opened =
    let n : ℕ = end_of records in
    let j : ℕ = k - length records in
    let ws : List Pending = reverse (pending (records_below n records)) in
    let written : List Rec = numbered n (take j (compensation n records)) in
    let none : AllByRecursion (λ (r : Rec). writes r ≡ []) written =
    subst (λ (rs : List Rec). AllByRecursion (λ (r : Rec). writes r ≡ []) (numbered n rs)) (sym (take_undo j ws)) (undo_writes_nothing n (take j ws)) in
    let Open : List Pending → Type 0 = λ xs. AllByRecursion (λ (w : Pending). kept ≤ w.begin) xs in
    let part : Open (pending (records ++ written)) = subst Open (sym (undo.closing records written none)) (all_filter (λ (w : Pending). kept ≤ w.begin) (is_open written) (pending records) opened) in
    subst (λ (rs : List Rec). Open (pending rs)) (sym (front_of_settled records k enough)) part

pub undo_fills_nothing : (n : ℕ) (ws : List Pending) (at : PageAt) → list_any (fills at) (numbered n (map compensation_of ws)) ≡ false
undo_fills_nothing n [] at = refl
undo_fills_nothing n (w ∷ ws) at = undo_fills_nothing (n + 1) ws at

-- ---- a settled path is a path

write_begun : (most lsn begin : ℕ) (body : Body) → begin ≤ most → AllByRecursion (λ (w : Pending). w.begin ≤ most) (body_writes lsn begin body)
write_begun most lsn begin (Write place before after) low = (low, tt)
write_begun most lsn begin _ low = tt

pending_begun : (most : ℕ) (records : List Rec) → AllByRecursion (λ (r : Rec). r.begin ≤ most) records → AllByRecursion (λ (w : Pending). w.begin ≤ most) (pending records)
pending_begun most [] low = tt
pending_begun most (r ∷ records) low =
    let P : Pending → Type 0 = λ w. w.begin ≤ most in
    all_joined P (filter (is_open records) (writes r)) (pending records) (all_filter P (is_open records) (writes r) (write_begun most r.lsn r.begin r.body low.0)) (pending_begun most records low.1)

all_reverse : {X : Type 0} (P : X → Type 0) (xs : List X) → AllByRecursion P xs → AllByRecursion P (reverse xs)
all_reverse P [] all = tt
all_reverse {X = X} P (x ∷ xs) all = subst (AllByRecursion P) (sym (reverse-append (x ∷ []) xs)) (all_joined P (reverse xs) (x ∷ []) (all_reverse P xs all.1) (all.0, tt))

undo_begun : (most : ℕ) (ws : List Pending) → AllByRecursion (λ (w : Pending). w.begin ≤ most) ws → AllByRecursion (λ (r : Rec). r.begin ≤ most) (map compensation_of ws)
undo_begun most [] low = tt
undo_begun most (w ∷ ws) low = (low.0, undo_begun most ws low.1)

begun_below : (n m : ℕ) (records : List Rec) → AllByRecursion (λ (r : Rec). r.lsn < n) records → AllByRecursion (λ (r : Rec). r.begin ≤ r.lsn) records → n ≤ m → AllByRecursion (λ (r : Rec). r.begin ≤ m) records
begun_below n m [] low begun order = tt
begun_below n m (r ∷ records) low begun order = (omega (arith, low.0, begun.0, order), begun_below n m records low.1 begun.1 order)

pub settled_path : Undo → (records : List Rec) → IsPath records → end_of (settled records) ≤ 2 ^ 64 → IsPath (settled records)
unfolding settled
settled_path undo records path room =
    let n : ℕ = end_of records in
    let comp : List Rec = compensation n records in
    let below : List Rec = records_below n records in
    let longer : end_of (settled records) ≡ n + length comp = omega (arith, length-append records (undoing records), numbered_length n comp) in
    let low : AllByRecursion (λ (r : Rec). r.begin ≤ n) below =
    all_filter (λ (r : Rec). r.begin ≤ n) (λ (r : Rec). nat_lt r.lsn n) records (begun_below n n records (below_end records path) path.begun (omega arith)) in
    let begun : AllByRecursion (λ (r : Rec). r.begin ≤ n) comp = undo_begun n (reverse (pending below)) (all_reverse (λ (w : Pending). w.begin ≤ n) (pending below) (pending_begun n below low)) in
    path_more records (undoing records) path (numbered_numbers n comp) (numbered_spelled n comp (omega (arith, longer, room)) (undo.spelled n records path.spelled)) (numbered_begun n comp begun)
