-- Counting the segments below a number.
use Rattle.std.proofs.Common.{◌≡◌, ◌⊎◌, ◌≤◌, ◌<◌, ℕ, ◌+◌, List, length, Some, refl, inl, inr, sym, ap, subst, ◌∙◌, arith}
use Rattle.bk_control.specs.LemmasTests.{equal_or_not}
use Rattle.bk_segments.specs.declared.segments.Segment.{Segment}
use Rattle.bk_segments.specs.Files.{BeginsAt}
use Rattle.bk_segments.specs.SegmentLaws.{Below}

-- a segment begins with one record
pub begins_once : (segments : List Segment) (i m n : ℕ) → BeginsAt segments i m → BeginsAt segments i n → n ≡ m
begins_once segments i m n one two =
    let both : Some one.0 ≡ Some two.0 = sym one.1 ∙ two.1 in
    let same : one.0 ≡ two.0 = cc in
    sym two.2 ∙ ap (λ (s : Segment). s.first) (sym same) ∙ one.2

pub below_none : (segments : List Segment) (to : ℕ) → Below segments to 0 1
below_none segments to = record { low = omega arith; within = λ some. absurd (some refl); first = λ n some. absurd (some refl); rest = λ k n above under. absurd (omega (arith, above, under)) }

pub below_here : (segments : List Segment) (to count i r : ℕ) → 1 ≤ i → i < length segments → Below segments to count i → BeginsAt segments i r → r ≤ to → Below segments to i (i + 1)
below_here segments to count i r least inside below begins within = record {
  low = omega arith;
  within = λ some. inside;
  first = λ n some at. let same : n ≡ r = begins_once segments i r n begins at in omega (arith, same, within);
  rest = λ k n above under. absurd (omega (arith, above, under));
}

pub below_not : (segments : List Segment) (to count i r : ℕ) → Below segments to count i → BeginsAt segments i r → to < r → Below segments to count (i + 1)
below_not segments to count i r below begins past = record {
  low = omega (arith, below.low);
  within = below.within;
  first = below.first;
  rest = λ k n above under at. elim (before_or_at k i (omega (arith, under))) [
    | inl before ↦ below.rest k n above before at
    | inr same ↦
        let here : BeginsAt segments i n = subst (λ (m : ℕ). BeginsAt segments m n) same at in
        let one : n ≡ r = begins_once segments i r n begins here in
        omega (arith, one, past)
  ];
}
  where
    before_or_at : (k i : ℕ) → k ≤ i → (k < i) ⊎ (k ≡ i)
    before_or_at k i within = elim (equal_or_not k i) [ inl same ↦ inr same | inr differ ↦ inl (omega (arith, within, differ)) ]
