-- The marks after a list of calls.
use Rattle.std.proofs.Common.{◌≡◌, ℕ, ◌-◌, List, [], ◌∷◌, refl, sym, ap, ◌∙◌, subst, arith, ⊎_elim, inl, inr, ◌⊎◌}
use Rattle.std.specs.Prelude.{◌↔◌, slice_index_or, replicate}
use Rattle.std.proofs.Math.ListN.{get_or-map}
use Rattle.std.proofs.lemmas.Bool.{cases_lt}
use Rattle.std.proofs.lemmas.List.{get_or-replicate, get_or_past, length-replicate}
use Rattle.bk_maps.specs.declared.file_marks.Marks.{Marks}
use Rattle.bk_maps.specs.Marks.{unmarked, IsMarkFrom}
use Rattle.bk_maps.specs.Maps.{ChangeMaps, HasExtent, InDifferential, InBulk, marks_of, new_maps}
use Rattle.bk_maps.specs.Calls.{Call, called, after, IsCallOn, AreCallsOn, SomeCall, SetsPage, SetsBulk, base_after, archive_after}
use Rattle.bk_maps.specs.Calls.Call.{set, rebase, clear_bulk}
use Rattle.bk_maps.proofs.Lsns.{HasExtent-called, page-to, page-from, bulk-to, bulk-from}

module _ (f e : ℕ) (Marked : ChangeMaps → Type 0) (P : Call → Type 0)
    (to : (maps : ChangeMaps) (call : Call) → IsCallOn maps call → HasExtent maps f e → Marked (called maps call) → Marked maps ⊎ P call)
    (back : (maps : ChangeMaps) (call : Call) → IsCallOn maps call → HasExtent maps f e → Marked maps ⊎ P call → Marked (called maps call)) where
  pub after-to : (calls : List Call) (maps : ChangeMaps) → AreCallsOn maps calls → HasExtent maps f e → Marked (after maps calls) → Marked maps ⊎ SomeCall P calls
  after-to [] maps on has h = inl h
  after-to (call ∷ calls) maps on has h = ⊎_elim
      (λ marked. ⊎_elim (λ old. inl old) (λ p. inr (inl p)) (to maps call on.0 has marked))
      (λ some. inr (inr some))
      (after-to calls (called maps call) on.1 (HasExtent-called maps call f e on.0 has) h)

  pub after-from : (calls : List Call) (maps : ChangeMaps) → AreCallsOn maps calls → HasExtent maps f e → Marked maps ⊎ SomeCall P calls → Marked (after maps calls)
  after-from [] maps on has h = ⊎_elim (λ old. old) (λ none. absurd none) h
  after-from (call ∷ calls) maps on has h =
      after-from calls (called maps call) on.1 (HasExtent-called maps call f e on.0 has)
      (⊎_elim (λ old. inl (back maps call on.0 has (inl old))) (λ some. ⊎_elim (λ p. inl (back maps call on.0 has (inr p))) (λ later. inr later) some) h)

base-after : (calls : List Call) (maps : ChangeMaps) → (after maps calls).base ≡ base_after maps.base calls
base-after [] maps = refl
base-after (set file extent lsn bulk ∷ calls) maps = base-after calls (called maps (set file extent lsn bulk))
base-after (rebase base ∷ calls) maps = base-after calls (called maps (rebase base))
base-after (clear_bulk archive ∷ calls) maps = base-after calls (called maps (clear_bulk archive))

archive-after : (calls : List Call) (maps : ChangeMaps) → (after maps calls).archive ≡ archive_after maps.archive calls
archive-after [] maps = refl
archive-after (set file extent lsn bulk ∷ calls) maps = archive-after calls (called maps (set file extent lsn bulk))
archive-after (rebase base ∷ calls) maps = archive-after calls (called maps (rebase base))
archive-after (clear_bulk archive ∷ calls) maps = archive-after calls (called maps (clear_bulk archive))

-- nothing was set in new maps
marks_of-new : (sizes : List ℕ) (f e : ℕ) → marks_of (new_maps sizes) f e ≡ unmarked
marks_of-new sizes f e =
    let fresh : ℕ → List Marks = λ n. replicate n unmarked in
    let n = slice_index_or sizes (f - 1) 0 in
    ap (λ l. slice_index_or l (e - 1) unmarked) (get_or-map fresh sizes (f - 1) 0) ∙ ⊎_elim
    (λ lt. get_or-replicate n (e - 1) unmarked unmarked lt)
    (λ ge. get_or_past (replicate n unmarked) (e - 1) unmarked (omega (arith, length-replicate {A = Marks} n unmarked)))
    (cases_lt (e - 1) n)

pub differential-after : (sizes : List ℕ) (calls : List Call) (f e : ℕ) → AreCallsOn (new_maps sizes) calls → HasExtent (new_maps sizes) f e
    → (InDifferential (after (new_maps sizes) calls) f e ↔ SomeCall (SetsPage f e (base_after 1 calls)) calls)
differential-after sizes calls f e on has =
    let maps = new_maps sizes in
    let from = base_after 1 calls in
    let base : (after maps calls).base ≡ from = base-after calls maps in
    let Marked : ChangeMaps → Type 0 = λ m. IsMarkFrom from ((marks_of m f e).page) in (
      (λ h. ⊎_elim
          (λ old. absurd (subst (λ (m : Marks). IsMarkFrom from m.page) (marks_of-new sizes f e) old))
          (λ some. some)
          (after-to f e Marked (SetsPage f e from) (page-to f e from) (page-from f e from) calls maps on has
          (subst (λ b. IsMarkFrom b ((marks_of (after maps calls) f e).page)) base h))),
      λ some. subst (λ b. IsMarkFrom b ((marks_of (after maps calls) f e).page)) (sym base)
          (after-from f e Marked (SetsPage f e from) (page-to f e from) (page-from f e from) calls maps on has (inr some)),
    )

pub bulk-after : (sizes : List ℕ) (calls : List Call) (f e : ℕ) → AreCallsOn (new_maps sizes) calls → HasExtent (new_maps sizes) f e
    → (InBulk (after (new_maps sizes) calls) f e ↔ SomeCall (SetsBulk f e (archive_after 1 calls)) calls)
bulk-after sizes calls f e on has =
    let maps = new_maps sizes in
    let from = archive_after 1 calls in
    let archive : (after maps calls).archive ≡ from = archive-after calls maps in
    let Marked : ChangeMaps → Type 0 = λ m. IsMarkFrom from ((marks_of m f e).bulk) in (
      (λ h. ⊎_elim
          (λ old. absurd (subst (λ (m : Marks). IsMarkFrom from m.bulk) (marks_of-new sizes f e) old))
          (λ some. some)
          (after-to f e Marked (SetsBulk f e from) (bulk-to f e from) (bulk-from f e from) calls maps on has
          (subst (λ b. IsMarkFrom b ((marks_of (after maps calls) f e).bulk)) archive h))),
      λ some. subst (λ b. IsMarkFrom b ((marks_of (after maps calls) f e).bulk)) (sym archive)
          (after-from f e Marked (SetsBulk f e from) (bulk-to f e from) (bulk-from f e from) calls maps on has (inr some)),
    )
