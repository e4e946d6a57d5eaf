-- Undoing again: where a front of what undoes all that is pending is logged, what undoes the rest is just the rest.
use Rattle.std.proofs.Common.{◌≡◌, ◌<◌, ℕ, ◌+◌, List, [], ◌∷◌, ◌++◌, length, reverse, sym, ◌∙◌, ap, subst, arith, append_assoc}
use Rattle.std.specs.List.{AllByRecursion}
use Rattle.std.proofs.lemmas.List.{append-nil, reverse-append, reverse-reverse}
use Rattle.bk_world.specs.ReadingLaws.{pending-more}
use Rattle.bk_world.specs.UndoLaws.{filter-undone}
use Rattle.bk_world.specs.Records.{Logged, more, numbered}
use Rattle.bk_world.specs.Pending.{Pending, PendingRise, pending}
use Rattle.bk_world.specs.Says.{settle_said, undoing}

rise-front : (front : List Pending) (back : List Pending) → PendingRise (front ++ back) → PendingRise front
rise-front [] back rise = tt
rise-front (w ∷ front) back rise = (all_front front rise.0, rise-front front back rise.1)
  where
    all_front : (xs : List Pending) → AllByRecursion (λ v. w.lsn < v.lsn) (xs ++ back) → AllByRecursion (λ v. w.lsn < v.lsn) xs
    all_front [] all = tt
    all_front (x ∷ xs) all = (all.0, all_front xs all.1)

-- the first of them, undone: the writes before it are pending
pub undone-one : (rs : List Logged) (n : ℕ) (vs : List Pending) (v : Pending) → PendingRise (pending rs) → reverse (pending rs) ≡ v ∷ vs → reverse (pending (more rs n (undoing (v ∷ [])))) ≡ vs
undone-one rs n vs v rise is =
    let whole : pending rs ≡ reverse vs ++ v ∷ [] = sym (reverse-reverse (pending rs)) ∙ ap reverse is ∙ reverse-append (v ∷ []) vs in
    ap reverse (pending-more rs (numbered n (undoing (v ∷ []))) ∙ ap (λ ws. Rattle.std.specs.List.filter (λ w. Rattle.std.specs.Prelude.not (Rattle.std.specs.Prelude.◌&&◌ (Rattle.std.specs.Prelude.◌==◌ w.begin v.begin) (Rattle.std.specs.Prelude.◌==◌ w.lsn v.lsn))) ws) whole
    ∙ filter-undone (reverse vs) v [] (subst PendingRise whole rise) ∙ append-nil (reverse vs)) ∙ reverse-reverse vs

pub rise-one : (rs : List Logged) (n : ℕ) (vs : List Pending) (v : Pending) → PendingRise (pending rs) → reverse (pending rs) ≡ v ∷ vs → PendingRise (pending (more rs n (undoing (v ∷ []))))
rise-one rs n vs v rise is =
    let whole : pending rs ≡ reverse vs ++ v ∷ [] = sym (reverse-reverse (pending rs)) ∙ ap reverse is ∙ reverse-append (v ∷ []) vs in
    let now : pending (more rs n (undoing (v ∷ []))) ≡ reverse vs = sym (reverse-reverse _) ∙ ap reverse (undone-one rs n vs v rise is) in
    subst PendingRise (sym now) (rise-front (reverse vs) (v ∷ []) (subst PendingRise whole rise))

-- the whole log is the same, however much of it was written before
pub settled-again : (rs : List Logged) (n : ℕ) (vs us : List Pending) → PendingRise (pending rs) → reverse (pending rs) ≡ vs ++ us
    → more (more rs n (undoing vs)) (n + length vs) (settle_said (pending (more rs n (undoing vs)))) ≡ more rs n (settle_said (pending rs))
settled-again rs n [] us rise is =
    let none : List Pending = [] in
    let same : n + length none ≡ n = omega arith in
    ap (λ cs. more cs (n + length none) (settle_said (pending cs))) (append-nil rs) ∙ ap (λ m. more rs m (settle_said (pending rs))) same
settled-again rs n (v ∷ vs) us rise is =
    let one : List Logged = more rs n (undoing (v ∷ [])) in
    let rest : reverse (pending one) ≡ vs ++ us = undone-one rs n (vs ++ us) v rise is in
    let front : more rs n (undoing (v ∷ vs)) ≡ more one (n + 1) (undoing vs) = sym (append_assoc rs (numbered n (undoing (v ∷ []))) (numbered (n + 1) (undoing vs))) in
    let on : n + length (v ∷ vs) ≡ (n + 1) + length vs = omega arith in
    ap (λ cs. more cs (n + length (v ∷ vs)) (settle_said (pending cs))) front
    ∙ ap (λ m. more (more one (n + 1) (undoing vs)) m (settle_said (pending (more one (n + 1) (undoing vs))))) on
    ∙ settled-again one (n + 1) vs us (rise-one rs n (vs ++ us) v rise is) rest
    ∙ ap (λ ws. more one (n + 1) (undoing ws)) rest
    ∙ append_assoc rs (numbered n (undoing (v ∷ []))) (numbered (n + 1) (undoing (vs ++ us)))
    ∙ ap (λ ws. more rs n (undoing ws)) (sym is)
