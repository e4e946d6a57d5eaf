use Rattle.std.proofs.Common.{◌≡◌, ◌⊎◌, ◌≤◌, ◌+◌, ℕ, Bool, true, false, List, [], ◌∷◌, refl, inl, inr, arith, ltb, leb, eqb}
use Rattle.std.specs.Prelude.{◌||◌, ◌&&◌}
use Rattle.std.proofs.lemmas.Bool.{and_parts, leb-true}
use Rattle.std.proofs.lemmas.List.Sums.{sum_by-cons}
use Rattle.bk_header.specs.Conditions.{total_extents}
use Rattle.bk_world.specs.declared.header.HeaderFile.{HeaderFile}
use Rattle.bk_body.specs.Conditions.{is_in_file, holds_extent}
use Rattle.bk_body.proofs.extents.keeps_extent.Goals as goal

or_either : (a b : Bool) → (a || b) ≡ true → (a ≡ true) ⊎ (b ≡ true)
or_either true b e = inl refl
or_either false b e = inr e

-- an extent that a file has isn't above the number of all extents
in_file : (f : HeaderFile) (file extent : ℕ) → (f.in_set && is_in_file file extent f) ≡ true → extent ≤ f.spec.extents
in_file f file extent e =
    let p = and_parts f.in_set (is_in_file file extent f) e in
    let q = and_parts (eqb f.spec.number file && ltb 0 extent) (leb extent f.spec.extents) p.1 in
    leb-true _ _ q.1

within : (files : List HeaderFile) (file extent : ℕ) → holds_extent files file extent ≡ true → extent ≤ total_extents files
within [] file extent e = absurd cc
within (f ∷ files) file extent e =
    let sum : total_extents (f ∷ files) ≡ f.spec.extents + total_extents files = sum_by-cons (λ (g : HeaderFile). g.spec.extents) f files in
    elim (or_either (f.in_set && is_in_file file extent f) (holds_extent files file extent) e) [
      | inl here ↦ omega (arith, in_file f file extent here)
      | inr later ↦ omega (arith, within files file extent later)
    ]

pub overflow_mul-extent : goal.overflow_mul-extent
overflow_mul-extent c =
    let there : holds_extent c.args.files.now c.args.file c.args.extent ≡ true = cc in
    omega (arith, within c.args.files.now c.args.file c.args.extent there)

pub are_pages-requires-clause-small : goal.are_pages-requires-clause-small
are_pages-requires-clause-small c =
    let there : holds_extent c.args.files.now c.args.file c.args.extent ≡ true = cc in
    omega (arith, within c.args.files.now c.args.file c.args.extent there)
