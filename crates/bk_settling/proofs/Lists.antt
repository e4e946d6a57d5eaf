-- Names in lists, of things that have one each.
use Rattle.std.proofs.Common.{◌≡◌, ◌≢◌, ◌<◌, ℕ, zero, suc, List, [], ◌∷◌, ◌++◌, length, take, drop, map, get_or, Option, Some, None, slice_get, inl, inr, refl, sym, ◌∙◌, ap, arith}
use Rattle.std.specs.Prelude.{true, false, position, is_some, is_err, Result, Ok, Err, OnOk}
use Rattle.std.specs.Str.{bytes_eq}
use Rattle.std.proofs.lemmas.List.Quantifiers.{position-Some}
use Rattle.std.proofs.lemmas.Slice.Eq.{bytes_eq-Decides}
use Rattle.bk_settling.specs.Noted.{IsAmong}

-- behind a list, and at its end
pub among_front : (names : List (List ℕ)) (last name : List ℕ) → IsAmong names name → IsAmong (names ++ last ∷ []) name
among_front [] last name among = absurd among
among_front (first ∷ names) last name among =
    elim among [ inl here ↦ inl here | inr there ↦ inr (among_front names last name there) ]

pub among_last : (names : List (List ℕ)) (last : List ℕ) → IsAmong (names ++ last ∷ []) last
among_last [] last = inl refl
among_last (first ∷ names) last = inr (among_last names last)

-- the name at a place is one of them
pub among_at : (names : List (List ℕ)) (i : ℕ) (name : List ℕ) → slice_get names i ≡ Some name → IsAmong names name
among_at [] i name is = let none : None ≡ Some name = is in cc
among_at (first ∷ names) zero name is = inl (let one : Some first ≡ Some name = is in cc)
among_at (first ∷ names) (suc i) name is = inr (among_at names i name is)

-- a name that isn't the one at a place goes on being one of them when that is taken out
pub among_rest : {X : Type 0} (key : X → List ℕ) (items : List X) (i : ℕ) (name other : List ℕ) → slice_get (map key items) i ≡ Some name → other ≢ name → IsAmong (map key items) other → IsAmong (map key (take i items ++ drop (suc i) items)) other
among_rest key [] i name other is differ among = absurd among
among_rest key (x ∷ items) zero name other is differ among =
    let one : Some (key x) ≡ Some name = is in
    let named : key x ≡ name = cc in
    elim among [ inl here ↦ absurd (differ (sym here ∙ named)) | inr there ↦ there ]
among_rest key (x ∷ items) (suc i) name other is differ among =
    elim among [ inl here ↦ inl here | inr there ↦ inr (among_rest key items i name other is differ there) ]

there : {X : Type 0} (key : X → List ℕ) (items : List X) (i : ℕ) (d : X) → i < length items → slice_get (map key items) i ≡ Some (key (get_or items i d))
there key [] i d inside = absurd (omega arith)
there key (x ∷ items) zero d inside = refl
there key (x ∷ items) (suc i) d inside = there key items i d (omega arith)

-- the place that was found by a name has it
pub found_at : {X : Type 0} (key : X → List ℕ) (items : List X) (name : List ℕ) (i : ℕ) → position (λ x. bytes_eq (key x) name) items ≡ Some i → (i < length items) × (slice_get (map key items) i ≡ Some name)
found_at key [] name i is = let none : None ≡ Some i = is in cc
found_at key (x ∷ items) name i is =
    let at = position-Some (λ y. bytes_eq (key y) name) (x ∷ items) i x is in
    let named : key (get_or (x ∷ items) i x) ≡ name = (bytes_eq-Decides (key (get_or (x ∷ items) i x)) name).0 at.1 in
    (at.0, there key (x ∷ items) i x at.0 ∙ ap (λ (n : List ℕ). Some n) named)

-- a place was found
pub found_in : {X : Type 0} (key : X → List ℕ) (items : List X) (name : List ℕ) (found : Option ℕ) → is_some found ≡ true → found ≡ position (λ x. bytes_eq (key x) name) items → IsAmong (map key items) name
found_in key items name None some is = let no : false ≡ true = some in cc
found_in key items name (Some i) some is = among_at (map key items) i name (found_at key items name i (sym is)).1

-- a name was added
pub added_to : {T E P : Type 0} (result : Result T E) → is_err result ≡ false → OnOk result P → P
added_to (Ok done) none holds = holds
added_to (Err error) some holds = let no : true ≡ false = some in cc
