-- The batch of the pages in dirty frames.
use Rattle.std.proofs.Common.{◌≡◌, ◌⊎◌, ℕ, ◌+◌, true, false, List, [], ◌∷◌, ◌++◌, length, Option, Some, None, refl, inl, inr, sym, ap, subst, ◌∙◌, arith}
use Rattle.std.specs.Prelude.{slice_get, slice_index_or}
use Rattle.std.proofs.lemmas.Bool.{cases_lt}
use Rattle.bk_lemmas.specs.Tests.{equal_or_not}
use Rattle.bk_page.specs.Changes.{Seals}
use Rattle.bk_page.specs.Laws.{sealed-seals}
use Rattle.bk_page.specs.Page.{sealed}
use Rattle.bk_pool.specs.Pool.{IsIn, Pool}
use Rattle.bk_side.specs.BatchLaws.{batched_last, page_tells, put, put_here, put_other, put_short}
use Rattle.bk_side.specs.Pages.{Entry, batched}
use Rattle.bk_paged.specs.Pooled.{Batches, IsDirtyBelow}

-- no frame was looked at
pub batch_none : (pool : Pool) → Batches pool 0 []
batch_none pool = record {
  size = λ at page. refl;
  puts = λ at i page dirty whole. absurd (omega (arith, dirty.0));
  leaves = λ at page none. refl;
}

-- a frame below n + 1 is one below n, or the last one
below_more : (pool : Pool) (n : ℕ) (at : ℕ × ℕ) (i : ℕ) → IsDirtyBelow pool (n + 1) at i → IsDirtyBelow pool n at i ⊎ (i ≡ n)
below_more pool n at i dirty = elim (cases_lt i n) [
  | inl less ↦ inl (less, dirty.1, dirty.2)
  | inr least ↦ inr (omega (arith, dirty.0, least))
]

below_on : (pool : Pool) (n : ℕ) (at : ℕ × ℕ) (i : ℕ) → IsDirtyBelow pool n at i → IsDirtyBelow pool (n + 1) at i
below_on pool n at i dirty = (omega (arith, dirty.0), dirty.1, dirty.2)

-- the next frame isn't dirty, or no page lies there
pub batch_skip : (pool : Pool) (n : ℕ) (entries : List Entry) → ((at : ℕ × ℕ) → slice_get pool.dirty n ≡ Some true → IsIn pool.pages n at.0 at.1 → ⊥) → Batches pool n entries → Batches pool (n + 1) entries
batch_skip pool n entries none is = record {
  size = is.size;
  puts = λ at i page dirty whole. elim (below_more pool n at i dirty) [
    | inl less ↦ let put_there = is.puts at i page less whole in (put_there.0, below_on pool n at put_there.0 put_there.1, put_there.2)
    | inr last ↦ absurd (none at (subst (λ (k : ℕ). slice_get pool.dirty k ≡ Some true) last dirty.1) (subst (λ (k : ℕ). IsIn pool.pages k at.0 at.1) last dirty.2))
  ];
  leaves = λ at page free. is.leaves at page (λ i dirty. free i (below_on pool n at i dirty));
}

-- one entry more keeps the length of a page
put_size : (e : Entry) (at : ℕ × ℕ) (page : List ℕ) → length e.1 ≡ 8192 → length (put e at page) ≡ length page
put_size e at page whole = elim (page_tells e.0 at) [
  | inl same ↦ by (length page) refl same.1
  | inr other ↦ ap length (put_other e at page other.1)
]
  where
    by : (n : ℕ) → length page ≡ n → e.0 ≡ at → length (put e at page) ≡ length page
    by n is same = elim (equal_or_not n 8192) [
      | inl here ↦ ap length (put_here e at page same (is ∙ here)) ∙ whole ∙ sym (is ∙ here)
      | inr differs ↦ ap length (put_short e at page (λ eight. differs (sym is ∙ eight)))
    ]

-- the next frame is dirty, and its page is added with its digest
pub batch_more : (pool : Pool) (n file page : ℕ) (entries : List Entry) → slice_get pool.dirty n ≡ Some true → IsIn pool.pages n file page → length (slice_index_or pool.frames n []) ≡ 8192 → Batches pool n entries
    → Batches pool (n + 1) (entries ++ ((file, page), sealed (slice_index_or pool.frames n [])) ∷ [])
batch_more pool n file page entries dirty here whole is =
    let e : Entry = ((file, page), sealed (slice_index_or pool.frames n [])) in
    let seals : Seals (slice_index_or pool.frames n []) e.1 = sealed-seals (slice_index_or pool.frames n []) whole in
    let last : (at : ℕ × ℕ) (p : List ℕ) → batched (entries ++ e ∷ []) at p ≡ put e at (batched entries at p) = batched_last entries e in
    record {
      size = λ at p. ap length (last at p) ∙ put_size e at (batched entries at p) seals.size ∙ is.size at p;
      puts = λ at i p below eight. elim (page_tells e.0 at) [
        | inl same ↦ (
          n,
          (omega arith, dirty, subst (λ (q : ℕ × ℕ). IsIn pool.pages n q.0 q.1) same.1 here),
          last at p ∙ put_here e at (batched entries at p) same.1 (is.size at p ∙ eight),
        )
        | inr other ↦ elim (below_more pool n at i below) [
          | inl less ↦ let there = is.puts at i p less eight in (there.0, below_on pool n at there.0 there.1, last at p ∙ put_other e at (batched entries at p) other.1 ∙ there.2)
          | inr same ↦ absurd (other.1 (one_page n (file, page) at here (subst (λ (k : ℕ). IsIn pool.pages k at.0 at.1) same below.2)))
        ]
      ];
      leaves = λ at p free. last at p
          ∙ put_other e at (batched entries at p) (λ same. free n (omega arith, dirty, subst (λ (q : ℕ × ℕ). IsIn pool.pages n q.0 q.1) same here))
          ∙ is.leaves at p (λ i below. free i (below_on pool n at i below));
    }
  where
    one_page : (k : ℕ) (a b : ℕ × ℕ) → IsIn pool.pages k a.0 a.1 → IsIn pool.pages k b.0 b.1 → a ≡ b
    one_page k a b first second = let both : ◌≡◌ {A = Option (Option (ℕ × ℕ))} (Some (Some (a.0, a.1))) (Some (Some (b.0, b.1))) = sym first ∙ second in cc

-- the frame isn't dirty
pub skip_clean : (pool : Pool) (n : ℕ) (entries : List Entry) → slice_get pool.dirty n ≡ Some false → Batches pool n entries → Batches pool (n + 1) entries
skip_clean pool n entries clean is = batch_skip pool n entries (λ at dirty here. let both : Some false ≡ Some true = sym clean ∙ dirty in absurd cc) is

-- no page lies there
pub skip_empty : (pool : Pool) (n : ℕ) (entries : List Entry) → slice_get pool.pages n ≡ Some None → Batches pool n entries → Batches pool (n + 1) entries
skip_empty pool n entries empty is =
    batch_skip pool n entries (λ at dirty here. let both : ◌≡◌ {A = Option (Option (ℕ × ℕ))} (Some None) (Some (Some (at.0, at.1))) = sym empty ∙ here in absurd cc) is
