-- Data extents that are listed one behind the other.
use Rattle.std.proofs.Common.{◌≡◌, ◌+◌, ℕ, List, [], ◌∷◌, ◌++◌, add-one, append_assoc, sym, ap, ◌∙◌}
use Rattle.bk_facts.specs.declared.facts.DataFile.{DataFile}
use Rattle.bk_ids.specs.declared.record.ExtentId.{ExtentId}
use Rattle.bk_paged.specs.Names.{pages_in}
use Rattle.bk_copying.specs.Extents.{extent_count, extents_below, extents_to}

pub to-more : (before now more : List ExtentId) (file i : ℕ) → now ≡ before ++ extents_to file i → more ≡ now ++ (record { file = file; extent = i + 1 }) ∷ [] → more ≡ before ++ extents_to file (i + 1)
to-more before now more file i is added =
    let last : List ExtentId = (record { file = file; extent = i + 1 }) ∷ [] in
    added ∙ ap (λ (xs : List ExtentId). xs ++ last) is ∙ append_assoc before (extents_to file i) last ∙ ap (λ (k : ℕ). before ++ extents_to file k) (sym (add-one i))

pub below-more : (files : List DataFile) (now more : List ExtentId) (i : ℕ) → now ≡ extents_below files i → more ≡ now ++ extents_to (i + 1) (extent_count (pages_in files (i + 1))) → more ≡ extents_below files (i + 1)
below-more files now more i is added =
    let next : List ExtentId = extents_to (i + 1) (extent_count (pages_in files (i + 1))) in
    added ∙ ap (λ (xs : List ExtentId). xs ++ next) is ∙ ap (extents_below files) (sym (add-one i))
