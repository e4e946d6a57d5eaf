-- Maps from places to frames.
use Rattle.std.proofs.Common.{◌≡◌, ◌≢◌, ◌≤◌, ◌<◌, ℕ, ◌+◌, true, false, cond, List, [], length, get_or, Option, Some, None, ap, ap₂, subst, ◌∙◌, sym, ⊎_elim, arith}
use Rattle.std.specs.Prelude.{◌==◌}
use Rattle.std.specs.Ordering.{nat_cmp, ordering_then, is_eq}
use Rattle.std.specs.Cmp.{nat_cmp_is, Equal-is}
use Rattle.std.specs.declared.cmp.Ordering.{Ordering}
use Rattle.std.specs.declared.cmp.Ordering.TheVariants.{Equal}
use Rattle.std.specs.BTreeMap.{is_at}
use Rattle.std.specs.List.{AllPairs}
use Rattle.std.specs.Map.{lookup}
use Rattle.std.proofs.lemmas.Bool.{cases_lt, cases_eq, cases_order, cases_Bool, and_from, and_parts, eq-eqb, eqb-true, ne_eqb, false_from_ne_true, both_ways, cond-true, cond-false}
use Rattle.std.proofs.lemmas.List.{get_or_default}
use Rattle.std.proofs.lemmas.Map.Lookups.{exact_pairs, exact_unsigned}
use Rattle.bk_ids.specs.declared.record.Place.{Place}
use Rattle.bk_redo.specs.declared.place.PageAt.{PageAt}
use Rattle.bk_redo.specs.Effects.{is_on}
use Rattle.bk_redo.specs.Frames.{page_cmp, IsFrameOf, IsIndex, is_frame}

-- ---- pages that compare as equal

same_page : (a b : PageAt) → is_at (page_cmp a) b ≡ true → a ≡ b
same_page a b e =
    let pairs : (a.file, a.page) ≡ (b.file, b.page) = exact_pairs nat_cmp nat_cmp exact_unsigned exact_unsigned (a.file, a.page) (b.file, b.page) ((Equal-is (page_cmp a b)).0 e) in
    ap (λ (p : ℕ × ℕ). let page : PageAt = record { file = p.0; page = p.1 } in page) pairs

other_page : (a b : PageAt) → is_at (page_cmp a) b ≡ false → a ≢ b
other_page a b differs e =
    let equal : is_at (page_cmp a) b ≡ true =
    ap (λ (o : Ordering). is_eq (ordering_then o (nat_cmp a.page b.page))) (sym (nat_cmp_is a.file b.file Equal (ap (λ (p : PageAt). p.file) e)))
    ∙ ap is_eq (sym (nat_cmp_is a.page b.page Equal (ap (λ (p : PageAt). p.page) e))) in
    both_ways (is_at (page_cmp a) b) differs equal

-- ---- one place more

pub none_indexed : (places : List PageAt) → IsIndex places 0 []
none_indexed places at = λ k nowhere none. absurd (omega arith)

older_frame : (places : List PageAt) (n : ℕ) (at nowhere : PageAt) (o : Option ℕ) → n < length places → get_or places n nowhere ≢ at → IsFrameOf places n at o → IsFrameOf places (n + 1) at o
older_frame places n at nowhere None within apart is = λ k other low. ⊎_elim
    (λ (below : k < n). is k other below)
    (λ (last : n ≤ k).
    let here : k ≡ n = omega arith in
    λ e. apart (get_or_default places n nowhere other within ∙ ap (λ (j : ℕ). get_or places j other) (sym here) ∙ e))
    (cases_lt k n)
older_frame places n at nowhere (Some i) within apart is = (omega (arith, is.0), is.1)

pub one_more_indexed : (places : List PageAt) (n : ℕ) (nowhere : PageAt) (old new : List (PageAt × ℕ)) → n < length places → IsIndex places n old
    → ((at : PageAt) → lookup (is_at (page_cmp at)) new ≡ cond (is_at (page_cmp (get_or places n nowhere)) at) (Some n) (lookup (is_at (page_cmp at)) old))
    → IsIndex places (n + 1) new
one_more_indexed places n nowhere old new within index updates at =
    let key : PageAt = get_or places n nowhere in
    let was : Option ℕ = lookup (is_at (page_cmp at)) old in
    let P : Option ℕ → Type 0 = IsFrameOf places (n + 1) at in
    ⊎_elim
    (λ (equal : is_at (page_cmp key) at ≡ true).
    let found : P (Some n) = (omega arith, λ other. get_or_default places n other nowhere within ∙ same_page key at equal) in
    subst P (sym (updates at ∙ cond-true (is_at (page_cmp key) at) (Some n) was equal)) found)
    (λ (differs : is_at (page_cmp key) at ≡ false).
    let kept : P was = older_frame places n at nowhere was within (other_page key at differs) (index at) in
    subst P (sym (updates at ∙ cond-false (is_at (page_cmp key) at) (Some n) was differs)) kept)
    (cases_Bool (is_at (page_cmp key) at))

-- ---- the frame of a cell's page

-- the page of a cell
abbrev pub page_at : Place → PageAt
page_at place = record { file = place.file; page = place.page }

on_same : (place : Place) (at : PageAt) → at ≡ page_at place → is_on place at ≡ true
on_same place at e = and_from (place.file == at.file) (place.page == at.page) (eq-eqb place.file at.file (ap (λ (p : PageAt). p.file) (sym e))) (eq-eqb place.page at.page (ap (λ (p : PageAt). p.page) (sym e)))

not_on_other : (place : Place) (at : PageAt) → at ≢ page_at place → is_on place at ≡ false
not_on_other place at apart = false_from_ne_true (is_on place at) (λ on.
    let parts = and_parts (place.file == at.file) (place.page == at.page) on in
    apart (ap₂ (λ (f p : ℕ). let page : PageAt = record { file = f; page = p } in page) (sym (eqb-true place.file at.file parts.0)) (sym (eqb-true place.page at.page parts.1))))

-- places differ
apart_at : (places : List PageAt) (i j : ℕ) (nowhere : PageAt) → AllPairs (λ a b. a ≢ b) places → i < length places → j < length places → i ≢ j → get_or places i nowhere ≢ get_or places j nowhere
apart_at places i j nowhere different i_in j_in apart e = ⊎_elim
    (λ (same : i ≡ j). apart same)
    (⊎_elim (λ (less : i < j). different i j nowhere less j_in e) (λ (more : j < i). different j i nowhere more i_in (sym e)))
    (cases_order i j)

-- the cell's page is that of its frame alone
pub on_frame : (places : List PageAt) (place : Place) (found : Option ℕ) → AllPairs (λ a b. a ≢ b) places → IsFrameOf places (length places) (page_at place) found
    → (k : ℕ) (nowhere : PageAt) → k < length places → is_on place (get_or places k nowhere) ≡ is_frame found k
on_frame places place None different none k nowhere low = not_on_other place (get_or places k nowhere) (none k nowhere low)
on_frame places place (Some frame) different is k nowhere low = ⊎_elim
    (λ (same : k ≡ frame). on_same place (get_or places k nowhere) (ap (λ (j : ℕ). get_or places j nowhere) same ∙ is.1 nowhere) ∙ sym (eq-eqb k frame same))
    (λ (apart : k ≢ frame).
    not_on_other place (get_or places k nowhere) (λ e. apart_at places k frame nowhere different low is.0 apart (e ∙ sym (is.1 nowhere)))
    ∙ sym (ne_eqb k frame apart))
    (cases_eq k frame)
