-- The bits and the places agree after a cell is taken or given back.
use Rattle.std.proofs.Common.{◌≡◌, ℕ, true, false, cond, List, Some, None, sym, ap, subst, ◌∙◌, arith, ⊎_elim, inl, inr, ◌⊎◌}
use Rattle.std.specs.Ordering.{nat_cmp}
use Rattle.std.specs.BTreeMap.{is_at}
use Rattle.std.proofs.lemmas.Bool.{cases_eq, cases_Bool, cond-true, cond-false}
use Rattle.std.proofs.lemmas.Map.Lookups.{exact_pairs, exact_unsigned}
use Rattle.bk_ids.specs.declared.record.Place.{Place}
use Rattle.bk_world.specs.LemmasTests.{equal_from_is_eq}
use Rattle.bk_groups.specs.Groups.{Room, IsCell, row_cmp, place_among}
use Rattle.bk_groups.specs.Sound.{Agrees}

-- two places are one or not
pub cases_place : (a b : Place) → (a ≡ b) ⊎ (a ≡ b → ⊥)
cases_place a b = ⊎_elim
    (λ file. ⊎_elim
    (λ page. ⊎_elim
    (λ slot. inl (λ i. record { file = file i; page = page i; slot = slot i }))
    (λ differ. inr (λ e. differ (ap (λ (p : Place). p.slot) e)))
    (cases_eq a.slot b.slot))
    (λ differ. inr (λ e. differ (ap (λ (p : Place). p.page) e)))
    (cases_eq a.page b.page))
    (λ differ. inr (λ e. differ (ap (λ (p : Place). p.file) e)))
    (cases_eq a.file b.file)

-- rows that compare as equal are equal
pub same_row : (row other : ℕ × ℕ) → is_at (row_cmp row) other ≡ true → row ≡ other
same_row row other e = exact_pairs nat_cmp nat_cmp exact_unsigned exact_unsigned row other (equal_from_is_eq (row_cmp row other) e)

module _ (rooms : List Room) (bit new_bit : Place → ℕ) (places new_places : List ((ℕ × ℕ) × Place)) (row : ℕ × ℕ) (at : Place) where
  -- other cells keep their bits
  abbrev Keeps : Type 0
  Keeps = (other : Place) → IsCell rooms other → (other ≡ at → ⊥) → new_bit other ≡ bit other

  -- a row that had no place gets a free cell
  pub Agrees-taken : Agrees rooms bit places → place_among places row ≡ None → IsCell rooms at → bit at ≡ 1
      → ((q : ℕ × ℕ) → place_among new_places q ≡ cond (is_at (row_cmp row) q) (Some at) (place_among places q))
      → place_among new_places row ≡ Some at → new_bit at ≡ 0
      → ((other : Place) → IsCell rooms other → (other ≡ at → ⊥) → new_bit other ≡ bit other)
      → Agrees rooms new_bit new_places
  Agrees-taken old none inside was_free updates here now_taken others =
      let hit : (q : ℕ × ℕ) → is_at (row_cmp row) q ≡ true → place_among new_places q ≡ Some at = λ q e. updates q ∙ cond-true _ _ _ e in
      let miss : (q : ℕ × ℕ) → is_at (row_cmp row) q ≡ false → place_among new_places q ≡ place_among places q = λ q e. updates q ∙ cond-false _ _ _ e in
      let unused : (q : ℕ × ℕ) → place_among places q ≡ Some at → ⊥ = λ q e. let taken = old.taken q at e in omega arith in
      let same : (q : ℕ × ℕ) (p : Place) → is_at (row_cmp row) q ≡ true → place_among new_places q ≡ Some p → at ≡ p = λ q p e found. let both : Some at ≡ Some p = sym (hit q e) ∙ found in cc in
      record {
        cell = λ q p found. ⊎_elim
            (λ yes. subst (λ c. IsCell rooms c) (same q p yes found) inside)
            (λ no. old.cell q p (sym (miss q no) ∙ found))
            (cases_Bool (is_at (row_cmp row) q));
        taken = λ q p found. ⊎_elim
            (λ yes. ap new_bit (sym (same q p yes found)) ∙ now_taken)
            (λ no.
            let before = sym (miss q no) ∙ found in
            others p (old.cell q p before) (λ e. unused q (before ∙ ap Some e)) ∙ old.taken q p before)
            (cases_Bool (is_at (row_cmp row) q));
        free = λ p cell nobody.
            others p cell (λ e. nobody row (here ∙ ap Some (sym e)))
            ∙ old.free p cell (λ q found. ⊎_elim
            (λ yes. let clash : None ≡ Some p = sym none ∙ ap (place_among places) (same_row row q yes) ∙ found in cc)
            (λ no. nobody q (miss q no ∙ found))
            (cases_Bool (is_at (row_cmp row) q)));
        alone = λ q r p first second. ⊎_elim
            (λ yes. ⊎_elim
            (λ also. sym (same_row row q yes) ∙ same_row row r also)
            (λ no. absurd (unused r (sym (miss r no) ∙ second ∙ ap Some (sym (same q p yes first)))))
            (cases_Bool (is_at (row_cmp row) r)))
            (λ no. ⊎_elim
            (λ yes. absurd (unused q (sym (miss q no) ∙ first ∙ ap Some (sym (same r p yes second)))))
            (λ neither. old.alone q r p (sym (miss q no) ∙ first) (sym (miss r neither) ∙ second))
            (cases_Bool (is_at (row_cmp row) r)))
            (cases_Bool (is_at (row_cmp row) q));
      }

  -- a row gives its cell back
  pub Agrees-freed : Agrees rooms bit places → place_among places row ≡ Some at → place_among new_places row ≡ None
      → ((q : ℕ × ℕ) → place_among new_places q ≡ cond (is_at (row_cmp row) q) None (place_among places q))
      → new_bit at ≡ 1
      → ((other : Place) → IsCell rooms other → (other ≡ at → ⊥) → new_bit other ≡ bit other)
      → Agrees rooms new_bit new_places
  Agrees-freed old was ended updates now_free others =
      let miss : (q : ℕ × ℕ) → is_at (row_cmp row) q ≡ false → place_among new_places q ≡ place_among places q = λ q e. updates q ∙ cond-false _ _ _ e in
      let gone : (q : ℕ × ℕ) (p : Place) → is_at (row_cmp row) q ≡ true → place_among new_places q ≡ Some p → ⊥ = λ q p e found. let none : None ≡ Some p = sym (updates q ∙ cond-true _ _ _ e) ∙ found in cc in
      let before : (q : ℕ × ℕ) (p : Place) → place_among new_places q ≡ Some p → place_among places q ≡ Some p = λ q p found. ⊎_elim (λ yes. absurd (gone q p yes found)) (λ no. sym (miss q no) ∙ found) (cases_Bool (is_at (row_cmp row) q)) in
      let other_cell : (q : ℕ × ℕ) (p : Place) → place_among new_places q ≡ Some p → p ≡ at → ⊥ = λ q p found e.
      let same : row ≡ q = old.alone row q at was (before q p found ∙ ap Some e) in
      let clash : None ≡ Some p = sym ended ∙ ap (place_among new_places) same ∙ found in
      cc in
      record {
        cell = λ q p found. old.cell q p (before q p found);
        taken = λ q p found. others p (old.cell q p (before q p found)) (other_cell q p found) ∙ old.taken q p (before q p found);
        free = λ p cell nobody. ⊎_elim
            (λ e. ap new_bit e ∙ now_free)
            (λ differ. others p cell differ ∙ old.free p cell (λ q found. ⊎_elim
            (λ yes. let clash : Some at ≡ Some p = sym was ∙ ap (place_among places) (same_row row q yes) ∙ found in
            let e : at ≡ p = cc in differ (sym e))
            (λ no. nobody q (miss q no ∙ found))
            (cases_Bool (is_at (row_cmp row) q))))
            (cases_place p at);
        alone = λ q r p first second. old.alone q r p (before q p first) (before r p second);
      }
