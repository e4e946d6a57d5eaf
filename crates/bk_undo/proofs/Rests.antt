-- What is left to undo once a part of the compensation was written.
use Rattle.std.proofs.Common.{◌≡◌, ◌≤◌, ◌<◌, ℕ, Bool, true, false, not, ◌&&◌, List, [], ◌∷◌, ◌++◌, map, reverse, refl, sym, ◌∙◌, ap, subst, append_assoc, arith}
use Rattle.std.specs.Prelude.{◌==◌, nat_lt}
use Rattle.std.specs.List.{filter, list_all, AllByRecursion}
use Rattle.std.proofs.lemmas.Bool.{lt-ltb, eq-eqb, ne_eqb, and_from, and_left, and_right}
use Rattle.std.proofs.lemmas.List.{append-nil}
use Rattle.std.proofs.lemmas.List.Elements.{filter-append, filter_agree}
use Rattle.std.proofs.lemmas.List.Folds.{list_all-append}
use Rattle.bk_ids.specs.declared.record.Rec.{Rec}
use Rattle.bk_ids.specs.declared.record.Body.{Body}
use Rattle.bk_ids.specs.declared.record.Body.TheVariants.{Write, Compensation}
use Rattle.bk_lemmas.specs.Lists.{all_joined, all_filter, filter_every, reverse_cons, all_reverse}
use Rattle.bk_undo.specs.declared.pending.Pending.{Pending}
use Rattle.bk_undo.specs.Losers.{closes, body_closes, is_open, writes, body_writes, pending, records_below, compensation, compensation_of, unnumbered, Rises}
use Rattle.bk_undo.proofs.Replay.{pending-append}

-- filters

pub filter-reverse : {X : Type 0} (p : X → Bool) (xs : List X) → reverse (filter p xs) ≡ filter p (reverse xs)
filter-reverse {X = X} p [] = refl
filter-reverse {X = X} p (x ∷ xs) = step (p x) refl (filter-reverse p xs)
  where
    behind : filter p (reverse (x ∷ xs)) ≡ filter p (reverse xs) ++ filter p (x ∷ [])
    behind = ap (filter p) (reverse_cons x xs) ∙ filter-append p (reverse xs) (x ∷ [])

    step : (b : Bool) → p x ≡ b → reverse (filter p xs) ≡ filter p (reverse xs) → reverse (filter p (x ∷ xs)) ≡ filter p (reverse (x ∷ xs))
    step true is same =
        let one : filter p (x ∷ []) ≡ x ∷ [] = rw is refl in
        let kept : filter p (x ∷ xs) ≡ x ∷ filter p xs = rw is refl in
        ap reverse kept ∙ reverse_cons x (filter p xs) ∙ ap (λ (rest : List X). rest ++ x ∷ []) same
        ∙ ap (λ (rest : List X). filter p (reverse xs) ++ rest) (sym one) ∙ sym behind
    step false is same =
        let none : filter p (x ∷ []) ≡ [] = rw is refl in
        let kept : filter p (x ∷ xs) ≡ filter p xs = rw is refl in
        ap reverse kept ∙ same ∙ sym (append-nil (filter p (reverse xs)))
        ∙ ap (λ (rest : List X). filter p (reverse xs) ++ rest) (sym none) ∙ sym behind

-- a list whose image is in two parts

pub record Parts (f : Pending → Rec) (ws : List Pending) (front back : List Rec) : Type 0 where
  pub done : List Pending
  pub left : List Pending
  pub whole : ws ≡ done ++ left
  pub front_is : map f done ≡ front
  pub back_is : map f left ≡ back

parts : (f : Pending → Rec) (ws : List Pending) (front back : List Rec) → map f ws ≡ front ++ back → Parts f ws front back
parts f ws [] back is = record { done = []; left = ws; whole = refl; front_is = refl; back_is = is }
parts f [] (x ∷ front) back is = absurd (cc)
parts f (w ∷ ws) (x ∷ front) back is =
    let head : f w ≡ x = cc in
    let rest : map f ws ≡ front ++ back = cc in
    let more = parts f ws front back rest in
    record {
      done = w ∷ more.done;
      left = more.left;
      whole = ap (λ (xs : List Pending). w ∷ xs) more.whole;
      front_is = ap (λ (r : Rec). r ∷ map f more.done) head ∙ ap (λ (rs : List Rec). x ∷ rs) more.front_is;
      back_is = more.back_is;
    }

-- which writes a part of the compensation leaves open

open_test : (written : List Rec) (done : List Pending) (write : Pending) → map unnumbered written ≡ map compensation_of done → is_open written write ≡ list_all (λ (w : Pending). not (write.begin == w.begin && write.lsn == w.lsn)) done
open_test [] [] write is = refl
open_test [] (w ∷ done) write is = absurd (cc)
open_test (r ∷ written) [] write is = absurd (cc)
open_test (r ∷ written) (w ∷ done) write is =
    let head : unnumbered r ≡ compensation_of w = cc in
    let rest : map unnumbered written ≡ map compensation_of done = cc in
    let body : r.body ≡ Compensation w.place w.before w.lsn = ap (λ (s : Rec). s.body) head in
    let own : r.begin ≡ w.begin = ap (λ (s : Rec). s.begin) head in
    let test : closes r write ≡ (write.begin == w.begin && write.lsn == w.lsn) =
    ap (λ (b : Body). body_closes b r.begin write) body ∙ ap (λ (n : ℕ). write.begin == n && write.lsn == w.lsn) own in
    ap (λ (b : Bool). not b && is_open written write) test
    ∙ ap (λ (b : Bool). not (write.begin == w.begin && write.lsn == w.lsn) && b) (open_test written done write rest)

-- a compensation writes nothing to be undone
nothing_pending : (written : List Rec) (done : List Pending) → map unnumbered written ≡ map compensation_of done → pending written ≡ []
nothing_pending [] done is = refl
nothing_pending (r ∷ written) [] is = absurd (cc)
nothing_pending (r ∷ written) (w ∷ done) is =
    let head : unnumbered r ≡ compensation_of w = cc in
    let rest : map unnumbered written ≡ map compensation_of done = cc in
    let body : r.body ≡ Compensation w.place w.before w.lsn = ap (λ (s : Rec). s.body) head in
    let none : writes r ≡ [] = ap (λ (b : Body). body_writes r.lsn r.begin b) body in
    ap (λ (ws : List Pending). filter (is_open written) ws ++ pending written) none ∙ nothing_pending written done rest

same_lsn : (n : ℕ) → (n == n) ≡ true
same_lsn n = eq-eqb n n refl

found_before : (write : Pending) (pre post : List Pending) → list_all (λ (w : Pending). not (write.begin == w.begin && write.lsn == w.lsn)) (pre ++ write ∷ post) ≡ false
found_before write pre post =
    list_all-append (λ (w : Pending). not (write.begin == w.begin && write.lsn == w.lsn)) pre (write ∷ post)
    ∙ and_right _ _ (and_left _ _ (ap not (and_from _ _ (same_lsn write.begin) (same_lsn write.lsn))))

gone : (pre xs : List Pending) → filter (λ (write : Pending). list_all (λ (w : Pending). not (write.begin == w.begin && write.lsn == w.lsn)) (pre ++ xs)) xs ≡ []
gone pre [] = refl
gone pre (x ∷ xs) =
    let Gone : List Pending → Type 0 = λ ws. filter (λ (write : Pending). list_all (λ (w : Pending). not (write.begin == w.begin && write.lsn == w.lsn)) ws) xs ≡ [] in
    rw (found_before x pre xs) (subst Gone (append_assoc pre (x ∷ []) xs) (gone (pre ++ x ∷ []) xs))

-- numbers that fall

abbrev Falls : List Pending → Type 0
Falls [] = Unit {0}
Falls (w ∷ ws) = AllByRecursion (λ (x : Pending). x.lsn < w.lsn) ws × Falls ws

abbrev RisesAll : List Pending → Type 0
RisesAll [] = Unit {0}
RisesAll (w ∷ ws) = AllByRecursion (λ (x : Pending). w.lsn < x.lsn) ws × RisesAll ws

write_after : (k lsn begin : ℕ) (body : Body) → k < lsn → AllByRecursion (λ (w : Pending). k < w.lsn) (body_writes lsn begin body)
write_after k lsn begin (Write place before after) later = (later, tt)
write_after k lsn begin _ later = tt

pending_after : (k : ℕ) (records : List Rec) → AllByRecursion (λ (r : Rec). k < r.lsn) records → AllByRecursion (λ (w : Pending). k < w.lsn) (pending records)
pending_after k [] later = tt
pending_after k (r ∷ records) later =
    all_joined (λ (w : Pending). k < w.lsn) (filter (is_open records) (writes r)) (pending records)
    (all_filter (λ (w : Pending). k < w.lsn) (is_open records) (writes r) (write_after k r.lsn r.begin r.body later.0))
    (pending_after k records later.1)

one_rises : (p : Pending → Bool) (lsn begin : ℕ) (body : Body) (rest : List Pending) → AllByRecursion (λ (w : Pending). lsn < w.lsn) rest → RisesAll rest → RisesAll (filter p (body_writes lsn begin body) ++ rest)
one_rises p lsn begin (Write place before after) rest later rises = step (p (record { lsn = lsn; begin = begin; place = place; before = before })) refl
  where
    step : (b : Bool) → p (record { lsn = lsn; begin = begin; place = place; before = before }) ≡ b → RisesAll (filter p ((record { lsn = lsn; begin = begin; place = place; before = before }) ∷ []) ++ rest)
    step true is = rw is (later, rises)
    step false is = rw is rises
one_rises p lsn begin _ rest later rises = rises

pending_rises : (records : List Rec) → Rises records → RisesAll (pending records)
pending_rises [] rises = tt
pending_rises (r ∷ records) rises = one_rises (is_open records) r.lsn r.begin r.body (pending records) (pending_after r.lsn records rises.0) (pending_rises records rises.1)

falls_end : (xs : List Pending) (w : Pending) → AllByRecursion (λ (x : Pending). w.lsn < x.lsn) xs → Falls xs → Falls (xs ++ w ∷ [])
falls_end [] w above falls = (tt, tt)
falls_end (x ∷ xs) w above falls = (all_joined (λ (y : Pending). y.lsn < x.lsn) xs (w ∷ []) falls.0 (above.0, tt), falls_end xs w above.1 falls.1)

reverse_falls : (ws : List Pending) → RisesAll ws → Falls (reverse ws)
reverse_falls [] rises = tt
reverse_falls (w ∷ ws) rises =
    subst Falls (sym (reverse_cons w ws)) (falls_end (reverse ws) w (all_reverse (λ (x : Pending). w.lsn < x.lsn) ws rises.0) (reverse_falls ws rises.1))

all_back : (P : Pending → Type 0) (xs ys : List Pending) → AllByRecursion P (xs ++ ys) → AllByRecursion P ys
all_back P [] ys all = all
all_back P (x ∷ xs) ys all = all_back P xs ys all.1

-- no write of the rest is among the writes that were undone

abbrev is_left : List Pending → Pending → Bool
is_left done write = list_all (λ (w : Pending). not (write.begin == w.begin && write.lsn == w.lsn)) done

none_done : (left : List Pending) → AllByRecursion (λ (x : Pending). is_left [] x ≡ true) left
none_done [] = tt
none_done (x ∷ left) = (refl, none_done left)

one_done : (d : Pending) (done left : List Pending) → AllByRecursion (λ (x : Pending). x.lsn < d.lsn) left → AllByRecursion (λ (x : Pending). is_left done x ≡ true) left → AllByRecursion (λ (x : Pending). is_left (d ∷ done) x ≡ true) left
one_done d done [] lower rest = tt
one_done d done (x ∷ left) lower rest =
    let less : x.lsn < d.lsn = lower.0 in
    let differ : not (x.begin == d.begin && x.lsn == d.lsn) ≡ true = ap not (and_right (x.begin == d.begin) _ (ne_eqb x.lsn d.lsn (λ same. absurd (omega (arith, same))))) in
    (and_from _ _ differ rest.0, one_done d done left lower.1 rest.1)

apart : (done left : List Pending) → Falls (done ++ left) → AllByRecursion (λ (x : Pending). is_left done x ≡ true) left
apart [] left falls = none_done left
apart (d ∷ done) left falls = one_done d done left (all_back (λ (x : Pending). x.lsn < d.lsn) done left falls.0) (apart done left falls.1)

-- all records lie below

tests_below : (n : ℕ) (records : List Rec) → AllByRecursion (λ (r : Rec). r.lsn < n) records → AllByRecursion (λ (r : Rec). nat_lt r.lsn n ≡ true) records
tests_below n [] low = tt
tests_below n (r ∷ records) low = (lt-ltb r.lsn n low.0, tests_below n records low.1)

pub all_below : (n : ℕ) (records : List Rec) → AllByRecursion (λ (r : Rec). r.lsn < n) records → records_below n records ≡ records
all_below n records low = filter_every (λ (r : Rec). nat_lt r.lsn n) records (tests_below n records low)

pub lower : (n m : ℕ) (records : List Rec) → n ≤ m → AllByRecursion (λ (r : Rec). r.lsn < n) records → AllByRecursion (λ (r : Rec). r.lsn < m) records
lower n m [] order low = tt
lower n m (r ∷ records) order low = (omega (arith, low.0, order), lower n m records order low.1)

-- what is left of the pending writes
left_open : (ws : List Pending) (written front back : List Rec) → Falls ws → (pt : Parts compensation_of ws front back) → map unnumbered written ≡ map compensation_of pt.done → filter (is_open written) ws ≡ pt.left
left_open ws written front back falls pt same =
    let agree = filter_agree (is_open written) (is_left pt.done) (λ write. open_test written pt.done write same) (pt.done ++ pt.left) in
    let none : filter (is_left pt.done) pt.done ≡ [] = gone [] pt.done in
    ap (filter (is_open written)) pt.whole
    ∙ agree
    ∙ filter-append (is_left pt.done) pt.done pt.left
    ∙ ap (λ (xs : List Pending). xs ++ filter (is_left pt.done) pt.left) none
    ∙ filter_every (is_left pt.done) pt.left (apart pt.done pt.left (subst Falls pt.whole falls))

pub rest_part : (n m : ℕ) (records written front back : List Rec) → Rises records → AllByRecursion (λ (r : Rec). r.lsn < n) records → n ≤ m → AllByRecursion (λ (r : Rec). r.lsn < m) written → compensation n records ≡ front ++ back → map unnumbered written ≡ front → compensation m (records ++ written) ≡ back
rest_part n m records written front back rises low order more is same =
    let whole : map compensation_of (reverse (pending records)) ≡ front ++ back = ap (λ (rs : List Rec). map compensation_of (reverse (pending rs))) (sym (all_below n records low)) ∙ is in
    let pt = parts compensation_of (reverse (pending records)) front back whole in
    let done : map unnumbered written ≡ map compensation_of pt.done = same ∙ sym pt.front_is in
    let below : records_below m (records ++ written) ≡ records ++ written = all_below m (records ++ written) (all_joined (λ (r : Rec). r.lsn < m) records written (lower n m records order low) more) in
    let open_now : pending (records ++ written) ≡ filter (is_open written) (pending records) =
    pending-append records written
    ∙ ap (λ (ws : List Pending). filter (is_open written) (pending records) ++ ws) (nothing_pending written pt.done done)
    ∙ append-nil (filter (is_open written) (pending records)) in
    let left : reverse (pending (records ++ written)) ≡ pt.left =
    ap reverse open_now
    ∙ filter-reverse (is_open written) (pending records)
    ∙ left_open (reverse (pending records)) written front back (reverse_falls (pending records) (pending_rises records rises)) pt done in
    ap (λ (rs : List Rec). map compensation_of (reverse (pending rs))) below ∙ ap (map compensation_of) left ∙ pt.back_is
