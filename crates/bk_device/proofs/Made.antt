-- Lists of files, each made from one of the same name.
use Rattle.std.proofs.Common.{◌≡◌, ◌≢◌, ◌⊎◌, ◌<◌, ◌≤◌, ℕ, ◌+◌, List, [], ◌∷◌, ◌++◌, length, take, drop, get_or, set, suc, Option, refl, inl, inr, subst, ap, sym, ◌∙◌, arith}
use Rattle.std.proofs.Math.Path.{fun_ext}
use Rattle.std.proofs.lemmas.Bool.{cases_lt}
use Rattle.std.proofs.lemmas.List.{get_or-set_same, get_or-set_other, get_or_append_left, get_or_push, get_or_default, drop_all, take_all, append-nil}
use Rattle.bk_device.specs.Held.{name_of, begin_of, durable_of, current_of, begin_files, durable_files, current_files}
use Rattle.bk_device.specs.Replay.{look}
use Rattle.bk_device.specs.declared.held.Held.{Held}

-- a file of the same name, which held from the beginning what the source says
pub record IsMadeFrom (source : Held → Option (List ℕ)) (old new : Held) : Type 0 where
  pub name : name_of new ≡ name_of old
  pub begin : begin_of new ≡ source old
  pub durable : durable_of new ≡ source old
  pub current : current_of new ≡ source old

-- those below a place are made
pub record AreMade (source : Held → Option (List ℕ)) (old new : List Held) (n : ℕ) : Type 0 where
  pub below : (k : ℕ) (d : Held) → k < n → IsMadeFrom source (get_or old k d) (get_or new k d)

-- those from a place on are as before
pub record AreSame (old new : List Held) (n : ℕ) : Type 0 where
  pub above : (k : ℕ) (d : Held) → n ≤ k → get_or new k d ≡ get_or old k d

below_or_at : (k n : ℕ) → k < n + 1 → (k < n) ⊎ (k ≡ n)
below_or_at k n below = elim (cases_lt k n) [ inl under ↦ inl under | inr over ↦ inr (omega arith) ]

pub none_made : (source : Held → Option (List ℕ)) (old new : List Held) → AreMade source old new 0
none_made source old new = record { below = λ k d none. absurd (omega arith) }

-- one more is changed in its place
pub made_in_place : (source : Held → Option (List ℕ)) (old items : List Held) (i : ℕ) (e made : Held) → i < length items → AreSame old items i → IsMadeFrom source (get_or items i e) made → AreMade source old items i → AreMade source old (set items i made) (i + 1)
made_in_place source old items i e made inside same one made_below = record {
  below = λ k d under. elim (below_or_at k i under) [
    | inl before ↦
        let differ : k ≢ i = λ (eq : k ≡ i). absurd (omega arith) in
        let Made : Held → Type 0 = λ h. IsMadeFrom source (get_or old k d) h in
        subst Made (sym (get_or-set_other items i k made d differ)) (made_below.below k d before)
    | inr at ↦
        let there : get_or old i d ≡ get_or items i e = sym (same.above i d (omega arith)) ∙ get_or_default items i d e inside in
        let put : get_or (set items i made) i d ≡ made = get_or-set_same items i made d inside in
        let From : Held → Type 0 = λ h. IsMadeFrom source h (get_or (set items i made) i d) in
        let To : Held → Type 0 = λ h. IsMadeFrom source (get_or items i e) h in
        let At : ℕ → Type 0 = λ n. IsMadeFrom source (get_or old n d) (get_or (set items i made) n d) in
        subst At (sym at) (subst From (sym there) (subst To (sym put) one))
  ];
}

pub same_beyond : (old items : List Held) (i : ℕ) (made : Held) → AreSame old items i → AreSame old (set items i made) (i + 1)
same_beyond old items i made same = record {
  above = λ k d over.
      let differ : k ≢ i = λ (eq : k ≡ i). absurd (omega arith) in
      get_or-set_other items i k made d differ ∙ same.above k d (omega arith);
}

-- one more is added
pub made_at_end : (source : Held → Option (List ℕ)) (old items : List Held) (i : ℕ) (e made : Held) → length items ≡ i → i < length old → IsMadeFrom source (get_or old i e) made → AreMade source old items i → AreMade source old (items ++ made ∷ []) (i + 1)
made_at_end source old items i e made size inside one made_below = record {
  below = λ k d under. elim (below_or_at k i under) [
    | inl before ↦
        let Made : Held → Type 0 = λ h. IsMadeFrom source (get_or old k d) h in
        subst Made (sym (get_or_append_left items (made ∷ []) d k (omega arith))) (made_below.below k d before)
    | inr at ↦
        let there : get_or old i d ≡ get_or old i e = get_or_default old i d e inside in
        let put : get_or (items ++ made ∷ []) i d ≡ made = get_or_push items made d i size in
        let From : Held → Type 0 = λ h. IsMadeFrom source h (get_or (items ++ made ∷ []) i d) in
        let To : Held → Type 0 = λ h. IsMadeFrom source (get_or old i e) h in
        let At : ℕ → Type 0 = λ n. IsMadeFrom source (get_or old n d) (get_or (items ++ made ∷ []) n d) in
        subst At (sym at) (subst From (sym there) (subst To (sym put) one))
  ];
}

look_same : {X : Type 0} (key : X → List ℕ) (source made : X → Option (List ℕ)) (old new : List X) → length new ≡ length old → ((k : ℕ) (d : X) → k < length old → (key (get_or new k d) ≡ key (get_or old k d)) × (made (get_or new k d) ≡ source (get_or old k d))) → (name : List ℕ) → look key made new name ≡ look key source old name
look_same key source made [] [] size below name = refl
look_same key source made [] (y ∷ new) size below name = absurd (omega arith)
look_same key source made (x ∷ old) [] size below name = absurd (omega arith)
look_same key source made (x ∷ old) (y ∷ new) size below name =
    let first : (key y ≡ key x) × (made y ≡ source x) = below 0 x (omega arith) in
    let rest : look key made new name ≡ look key source old name = look_same key source made old new (omega arith) (λ k d under. below (suc k) d (omega arith)) name in
    let same_name : key y ≡ key x = first.0 in
    let same_content : made y ≡ source x = first.1 in
    cc

-- all are made

pub made_begin : (source : Held → Option (List ℕ)) (old new : List Held) → length new ≡ length old → AreMade source old new (length old) → begin_files new ≡ look name_of source old
made_begin source old new size made = fun_ext (λ name. look_same name_of source begin_of old new size (λ k d under. ((made.below k d under).name, (made.below k d under).begin)) name)

pub made_durable : (source : Held → Option (List ℕ)) (old new : List Held) → length new ≡ length old → AreMade source old new (length old) → durable_files new ≡ look name_of source old
made_durable source old new size made = fun_ext (λ name. look_same name_of source durable_of old new size (λ k d under. ((made.below k d under).name, (made.below k d under).durable)) name)

pub made_current : (source : Held → Option (List ℕ)) (old new : List Held) → length new ≡ length old → AreMade source old new (length old) → current_files new ≡ look name_of source old
made_current source old new size made = fun_ext (λ name. look_same name_of source current_of old new size (λ k d under. ((made.below k d under).name, (made.below k d under).current)) name)

-- a slice of a whole vector is put back
pub put_back : (n : ℕ) (items old : List Held) → length items ≡ length old → n ≡ length old → take n (items ++ drop (length items) old) ≡ items
put_back n items old same size =
    let none : drop (length items) old ≡ [] = drop_all (length items) old (omega arith) in
    let whole : items ++ drop (length items) old ≡ items = ap (λ (rest : List Held). items ++ rest) none ∙ append-nil items in
    ap (take n) whole ∙ take_all n items (omega arith)
