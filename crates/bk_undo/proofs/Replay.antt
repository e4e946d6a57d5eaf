-- How the pending writes come record by record.
use Rattle.std.proofs.Common.{◌≡◌, ◌≤◌, ◌<◌, ℕ, Bool, true, false, not, ◌&&◌, cond, List, [], ◌∷◌, ◌++◌, refl, sym, ◌∙◌, ap, append_assoc}
use Rattle.std.specs.Prelude.{nat_lt}
use Rattle.std.specs.List.{filter}
use Rattle.std.proofs.lemmas.Bool.{lt-ltb, le-ltb}
use Rattle.std.proofs.lemmas.List.{append-nil}
use Rattle.std.proofs.lemmas.List.Elements.{filter-append, filter_agree}
use Rattle.std.proofs.lemmas.List.Folds.{list_all-append}
use Rattle.std.proofs.Math.Bool.{and-true}
use Rattle.bk_ids.specs.declared.record.CellImage.{CellImage}
use Rattle.bk_ids.specs.declared.record.Rec.{Rec}
use Rattle.bk_ids.specs.declared.record.Body.{Body}
use Rattle.bk_ids.specs.declared.record.Body.TheVariants.{Write}
use Rattle.bk_undo.specs.declared.pending.Pending.{Pending}
use Rattle.bk_undo.specs.Losers.{closes, body_closes, is_open, writes, body_writes, pending, records_below, noted}

-- a test after a test

filter_both : {X : Type 0} (p q : X → Bool) (xs : List X) → filter q (filter p xs) ≡ filter (λ x. p x && q x) xs
filter_both {X = X} p q [] = refl
filter_both {X = X} p q (x ∷ xs) = step (p x) refl (filter_both p q xs)
  where
    step : (b : Bool) → p x ≡ b → filter q (filter p xs) ≡ filter (λ x. p x && q x) xs → filter q (filter p (x ∷ xs)) ≡ filter (λ x. p x && q x) (x ∷ xs)
    step true is same = rw is (ap (λ (rest : List X). cond (q x) (x ∷ rest) rest) same)
    step false is same = rw is same

-- what is pending in two parts of a log
pub pending-append : (a b : List Rec) → pending (a ++ b) ≡ filter (is_open b) (pending a) ++ pending b
pending-append [] b = refl
pending-append (r ∷ a) b =
    let here : filter (is_open (a ++ b)) (writes r) ≡ filter (is_open b) (filter (is_open a) (writes r)) =
    filter_agree (is_open (a ++ b)) (λ write. is_open a write && is_open b write) (λ write. list_all-append (λ s. not (closes s write)) a b) (writes r)
    ∙ sym (filter_both (is_open a) (is_open b) (writes r)) in
    ap (λ (ws : List Pending). ws ++ pending (a ++ b)) here
    ∙ ap (λ (ws : List Pending). filter (is_open b) (filter (is_open a) (writes r)) ++ ws) (pending-append a b)
    ∙ sym (append_assoc (filter (is_open b) (filter (is_open a) (writes r))) (filter (is_open b) (pending a)) (pending b))
    ∙ ap (λ (ws : List Pending). ws ++ pending b) (sym (filter-append (is_open b) (filter (is_open a) (writes r)) (pending a)))

pub filter_none : {X : Type 0} (p : X → Bool) (xs : List X) → ((x : X) → p x ≡ true) → filter p xs ≡ xs
filter_none {X = X} p [] all = refl
filter_none {X = X} p (x ∷ xs) all = rw (all x) (ap (λ (rest : List X). x ∷ rest) (filter_none p xs all))

pub pending_one : (r : Rec) → pending (r ∷ []) ≡ writes r
pending_one r = append-nil (filter (is_open []) (writes r)) ∙ filter_none (is_open []) (writes r) (λ write. refl)

-- one record more
pub pending-noted : (n : ℕ) (records : List Rec) (r : Rec) → pending (records_below n (records ++ r ∷ [])) ≡ noted n r (pending (records_below n records))
pending-noted n records r = step (nat_lt r.lsn n) refl
  where
    step : (b : Bool) → nat_lt r.lsn n ≡ b → pending (records_below n (records ++ r ∷ [])) ≡ noted n r (pending (records_below n records))
    step true is =
        let split : records_below n (records ++ r ∷ []) ≡ records_below n records ++ r ∷ [] = filter-append (λ s. nat_lt s.lsn n) records (r ∷ []) ∙ rw is refl in
        ap pending split ∙ pending-append (records_below n records) (r ∷ [])
        ∙ ap (λ (ws : List Pending). filter (is_open (r ∷ [])) (pending (records_below n records)) ++ ws) (pending_one r)
        ∙ rw is refl
    step false is =
        let split : records_below n (records ++ r ∷ []) ≡ records_below n records = filter-append (λ s. nat_lt s.lsn n) records (r ∷ []) ∙ rw is (append-nil (records_below n records)) in
        ap pending split ∙ rw is refl

-- the cases of one record

pub noted_above : (n : ℕ) (r : Rec) (before : List Pending) → n ≤ r.lsn → noted n r before ≡ before
noted_above n r before past = let test : nat_lt r.lsn n ≡ false = le-ltb r.lsn n past in rw test refl

pub noted_below : (n : ℕ) (r : Rec) (before : List Pending) → r.lsn < n → noted n r before ≡ filter (is_open (r ∷ [])) before ++ writes r
noted_below n r before less = let test : nat_lt r.lsn n ≡ true = lt-ltb r.lsn n less in rw test refl

-- a record that closes by a test, and writes nothing
pub noted_closed : (n : ℕ) (r : Rec) (test : Pending → Bool) (before : List Pending) → r.lsn < n → ((write : Pending) → closes r write ≡ test write) → writes r ≡ [] → noted n r before ≡ filter (λ write. not (test write)) before
noted_closed n r test before less same none =
    noted_below n r before less
    ∙ ap (λ (ws : List Pending). filter (is_open (r ∷ [])) before ++ ws) none
    ∙ append-nil (filter (is_open (r ∷ [])) before)
    ∙ filter_agree (is_open (r ∷ [])) (λ write. not (test write)) (λ write. and-true (not (closes r write)) ∙ ap not (same write)) before

-- a record that closes nothing
pub noted_open : (n : ℕ) (r : Rec) (before : List Pending) → r.lsn < n → ((write : Pending) → closes r write ≡ false) → noted n r before ≡ before ++ writes r
noted_open n r before less none =
    noted_below n r before less
    ∙ ap (λ (ws : List Pending). ws ++ writes r) (filter_none (is_open (r ∷ [])) before (λ write. and-true (not (closes r write)) ∙ ap not (none write)))

-- a write
pub noted_write : (n : ℕ) (r : Rec) (write : Pending) (after : CellImage) (before : List Pending) → r.lsn < n → r.body ≡ Write write.place write.before after → r.lsn ≡ write.lsn → r.begin ≡ write.begin → noted n r before ≡ before ++ write ∷ []
noted_write n r write after before less is number begin =
    noted_open n r before less (λ other. ap (λ (body : Body). body_closes body r.begin other) is)
    ∙ ap (λ (body : Body). before ++ body_writes r.lsn r.begin body) is
    ∙ ap (λ (lsn : ℕ). before ++ (record { lsn = lsn; begin = r.begin; place = write.place; before = write.before }) ∷ []) number
    ∙ ap (λ (b : ℕ). before ++ (record { lsn = write.lsn; begin = b; place = write.place; before = write.before }) ∷ []) begin
