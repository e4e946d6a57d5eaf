-- What is listed of a medium is what the machine lists.
use Rattle.std.proofs.Common.{◌≡◌, ◌+◌, ℕ, zero, suc, List, [], ◌∷◌, ◌++◌, length, drop, Some, Ok, Err, refl, sym, ◌∙◌, ap, arith}
use Rattle.std.specs.Prelude.{slice_get}
use Rattle.bk_machine.specs.Checks.{Checked, ◌>>=◌}
use Rattle.bk_machine.specs.statements.Query.{headers_from}
use Rattle.bk_machine.specs.statements.Restore.{read_slot}
use Rattle.bk_world.specs.declared.header.Header.{Header}
use Rattle.bk_world.specs.declared.rule.Rule.{Rule}
use Rattle.bk_world.specs.Medium.{Slot as Shown}

-- headers that come before those that were listed
abbrev pub before_headers : List (ℕ × Header) → Checked (List (ℕ × Header)) → Checked (List (ℕ × Header))
before_headers sets (Ok more) = Ok (sets ++ more)
before_headers sets (Err rule) = Err rule

-- the headers of the first so many slots were listed
abbrev pub AreListed : List Shown → ℕ → List (ℕ × Header) → Type 0
AreListed slots n sets = headers_from 1 slots ≡ before_headers sets (headers_from (n + 1) (drop n slots))

drop-at : (slots : List Shown) (n : ℕ) (slot : Shown) → slice_get slots n ≡ Some slot → drop n slots ≡ slot ∷ drop (suc n) slots
drop-at [] n slot there = absurd cc
drop-at (s ∷ slots) zero slot there = ap (λ (x : Shown). x ∷ slots) (same there)
  where
    same : Some s ≡ Some slot → s ≡ slot
    same e = cc
drop-at (s ∷ slots) (suc n) slot there = drop-at slots n slot there

append-one : (sets : List (ℕ × Header)) (one : ℕ × Header) (more : List (ℕ × Header)) → sets ++ one ∷ more ≡ (sets ++ one ∷ []) ++ more
append-one [] one more = refl
append-one (set ∷ sets) one more = ap (λ (s : List (ℕ × Header)). set ∷ s) (append-one sets one more)

append-none : (sets : List (ℕ × Header)) → sets ++ [] ≡ sets
append-none [] = refl
append-none (set ∷ sets) = ap (λ (s : List (ℕ × Header)). set ∷ s) (append-none sets)

before-one : (sets : List (ℕ × Header)) (one : ℕ × Header) (listed : Checked (List (ℕ × Header))) → before_headers sets (listed >>= (λ headers. Ok (one ∷ headers))) ≡ before_headers (sets ++ one ∷ []) listed
before-one sets one (Ok more) = ap (λ (s : List (ℕ × Header)). Ok s) (append-one sets one more)
before-one sets one (Err rule) = refl

-- the first of some slots is read
headers-next : (n : ℕ) (slot : Shown) (slots : List Shown) (header : Header) → read_slot slot ≡ Ok header → headers_from n (slot ∷ slots) ≡ (headers_from (n + 1) slots >>= (λ headers. Ok ((n, header) ∷ headers)))
headers-next n slot slots header is = ap (λ (r : Checked Header). r >>= (λ (h : Header). headers_from (n + 1) slots >>= (λ headers. Ok ((n, h) ∷ headers)))) is

headers-refused : (n : ℕ) (slot : Shown) (slots : List Shown) (rule : Rule) → read_slot slot ≡ Err rule → headers_from n (slot ∷ slots) ≡ Err rule
headers-refused n slot slots rule is = ap (λ (r : Checked Header). r >>= (λ (h : Header). headers_from (n + 1) slots >>= (λ headers. Ok ((n, h) ∷ headers)))) is

pub listed-more : (slots : List Shown) (n : ℕ) (sets : List (ℕ × Header)) (slot : Shown) (header : Header) → slice_get slots n ≡ Some slot → read_slot slot ≡ Ok header → AreListed slots n sets → AreListed slots (n + 1) (sets ++ (n + 1, header) ∷ [])
listed-more slots n sets slot header there is listed =
    listed
    ∙ ap (λ (more : List Shown). before_headers sets (headers_from (n + 1) more)) (drop-at slots n slot there)
    ∙ ap (before_headers sets) (headers-next (n + 1) slot (drop (suc n) slots) header is)
    ∙ before-one sets (n + 1, header) (headers_from (n + 1 + 1) (drop (suc n) slots))
    ∙ ap (λ (m : ℕ). before_headers (sets ++ (n + 1, header) ∷ []) (headers_from (n + 1 + 1) (drop m slots))) (sym next)
  where
    next : n + 1 ≡ suc n
    next = omega arith

pub listed-refused : (slots : List Shown) (n : ℕ) (sets : List (ℕ × Header)) (slot : Shown) (rule : Rule) → slice_get slots n ≡ Some slot → read_slot slot ≡ Err rule → AreListed slots n sets → headers_from 1 slots ≡ Err rule
listed-refused slots n sets slot rule there is listed =
    listed
    ∙ ap (λ (more : List Shown). before_headers sets (headers_from (n + 1) more)) (drop-at slots n slot there)
    ∙ ap (before_headers sets) (headers-refused (n + 1) slot (drop (suc n) slots) rule is)

drop-all : (slots : List Shown) (n : ℕ) → n ≡ length slots → drop n slots ≡ []
drop-all [] zero same = refl
drop-all [] (suc n) same = refl
drop-all (s ∷ slots) zero same = absurd (omega (arith, same))
drop-all (s ∷ slots) (suc n) same = drop-all slots n (omega (arith, same))

pub listed-all : (slots : List Shown) (n : ℕ) (sets : List (ℕ × Header)) → n ≡ length slots → AreListed slots n sets → headers_from 1 slots ≡ Ok sets
listed-all slots n sets all listed =
    listed ∙ ap (λ (more : List Shown). before_headers sets (headers_from (n + 1) more)) (drop-all slots n all) ∙ ap (λ (s : List (ℕ × Header)). Ok s) (append-none sets)
