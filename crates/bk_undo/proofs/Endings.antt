-- What is left to undo behind ends of rollbacks.
use Rattle.std.proofs.Common.{◌≡◌, ◌≤◌, ◌<◌, ℕ, true, not, List, [], ◌∷◌, ◌++◌, map, reverse, refl, sym, ◌∙◌, ap, subst}
use Rattle.std.specs.Prelude.{◌≢◌}
use Rattle.std.specs.List.{filter, AllByRecursion}
use Rattle.std.proofs.lemmas.Bool.{ne_eqb, and_from}
use Rattle.std.proofs.lemmas.List.{append-nil}
use Rattle.bk_ids.specs.declared.record.Rec.{Rec}
use Rattle.bk_ids.specs.declared.record.Body.{Body}
use Rattle.bk_ids.specs.declared.record.Body.TheVariants.{RollbackEnd}
use Rattle.bk_lemmas.specs.Lists.{all_joined, all_mapped, filter_every}
use Rattle.bk_undo.specs.declared.pending.Pending.{Pending}
use Rattle.bk_undo.specs.Losers.{closes, body_closes, is_open, writes, body_writes, pending, compensation, compensation_of, unnumbered, Rises}
use Rattle.bk_undo.specs.Laws.{EndsNoneOf}
use Rattle.bk_undo.proofs.Replay.{pending-append}
use Rattle.bk_undo.proofs.Rests.{filter-reverse, lower, all_below, rest_part}

-- ---- records that write nothing

none_written : (more : List Rec) → AllByRecursion (λ (r : Rec). writes r ≡ []) more → pending more ≡ []
none_written [] none = refl
none_written (r ∷ more) none = ap (λ (ws : List Pending). filter (is_open more) ws ++ pending more) none.0 ∙ none_written more none.1

pub closing_leaves : (records more : List Rec) → AllByRecursion (λ (r : Rec). writes r ≡ []) more → pending (records ++ more) ≡ filter (is_open more) (pending records)
closing_leaves records more none =
    pending-append records more
    ∙ ap (λ (ws : List Pending). filter (is_open more) (pending records) ++ ws) (none_written more none)
    ∙ append-nil (filter (is_open more) (pending records))

-- ---- ends of rollbacks of other transactions

end_writes : (left : List Rec) (r : Rec) → EndsNoneOf left r → writes r ≡ []
end_writes left r end = ap (λ (body : Body). body_writes r.lsn r.begin body) end.ends

one_more : (r : Rec) (ends : List Rec) (left : List Pending) → r.body ≡ RollbackEnd → AllByRecursion (λ (s : Rec). s.begin ≢ r.begin) (map compensation_of left)
    → AllByRecursion (λ (w : Pending). is_open ends w ≡ true) left → AllByRecursion (λ (w : Pending). is_open (r ∷ ends) w ≡ true) left
one_more r ends [] is others opened = tt
one_more r ends (w ∷ left) is others opened =
    let still : not (closes r w) ≡ true = ap (λ (body : Body). not (body_closes body r.begin w)) is ∙ ap not (ne_eqb w.begin r.begin others.0) in
    (and_from (not (closes r w)) (is_open ends w) still opened.0, one_more r ends left is others.1 opened.1)

none_closed : (left : List Pending) → AllByRecursion (λ (w : Pending). is_open [] w ≡ true) left
none_closed [] = tt
none_closed (w ∷ left) = (refl, none_closed left)

all_open : (ends : List Rec) (left : List Pending) → AllByRecursion (EndsNoneOf (map compensation_of left)) ends → AllByRecursion (λ (w : Pending). is_open ends w ≡ true) left
all_open [] left all = none_closed left
all_open (r ∷ ends) left all = one_more r ends left all.0.ends all.0.others (all_open ends left all.1)

pub ends_leave : (n m : ℕ) (records written ends front back : List Rec) → Rises records → AllByRecursion (λ (r : Rec). r.lsn < n) records → n ≤ m
    → AllByRecursion (λ (r : Rec). r.lsn < m) written → AllByRecursion (λ (r : Rec). r.lsn < m) ends → AllByRecursion (EndsNoneOf back) ends
    → compensation n records ≡ front ++ back → map unnumbered written ≡ front → compensation m (records ++ written ++ ends) ≡ back
ends_leave n m records written ends front back rises low order more later done is same =
    let log : List Rec = records ++ written in
    let left : List Pending = reverse (pending log) in
    let high : AllByRecursion (λ (r : Rec). r.lsn < m) log = all_joined (λ (r : Rec). r.lsn < m) records written (lower n m records order low) more in
    let rest : map compensation_of left ≡ back =
    ap (λ (rs : List Rec). map compensation_of (reverse (pending rs))) (sym (all_below m log high)) ∙ rest_part n m records written front back rises low order more is same in
    let Ends : List Rec → Type 0 = λ rs. AllByRecursion (EndsNoneOf rs) ends in
    let opened : AllByRecursion (λ (w : Pending). is_open ends w ≡ true) left = all_open ends left (subst Ends (sym rest) done) in
    ap (λ (rs : List Rec). map compensation_of (reverse (pending rs))) (all_below m (log ++ ends) (all_joined (λ (r : Rec). r.lsn < m) log ends high later))
    ∙ ap (λ (ws : List Pending). map compensation_of (reverse ws)) (closing_leaves log ends (all_mapped (EndsNoneOf back) (λ (r : Rec). writes r ≡ []) (end_writes back) ends done))
    ∙ ap (map compensation_of) (filter-reverse (is_open ends) (pending log) ∙ filter_every (is_open ends) left opened)
    ∙ rest
