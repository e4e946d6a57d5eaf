-- Whether there are too many files, filegroups or extents, as it is looked for before a new database's files are made.
use Rattle.std.proofs.Common.{◌≡◌, ◌<◌, ◌≤◌, ℕ, ◌+◌, max, Bool, true, false, List, length, map, Option, Ok, refl, sym, ◌∙◌, ap, subst, arith}
use Rattle.std.specs.Prelude.{nat_le, nat_lt}
use Rattle.std.specs.List.{sum_by}
use Rattle.std.proofs.lemmas.Bool.{leb-true}
use Rattle.std.proofs.lemmas.Bool.Decides.{nat_tests}
use Rattle.std.proofs.lemmas.List.{length-map}
use Rattle.bk_items.specs.declared.item.NewFile.{NewFile}
use Rattle.bk_items.specs.declared.item.NewGroup.{NewGroup}
use Rattle.bk_machine.specs.Checks.{Checked, ◌>>=◌, refuse_if}
use Rattle.bk_machine.specs.Files.{extents_in, most_extents, most_files}
use Rattle.bk_machine.specs.statements.CreateDatabase.{check_limits, new_files, new_groups, new_storage}
use Rattle.bk_machine.specs.statements.CreateTable.{most_groups}
use Rattle.bk_world.specs.declared.database.FileSpec.{FileSpec}
use Rattle.bk_world.specs.declared.database.Storage.{Storage}
use Rattle.bk_world.specs.declared.rule.Limit.TheVariants as which
use Rattle.bk_world.specs.declared.rule.Rule.TheVariants.{LimitReached}
use Rattle.bk_plans.specs.declared.refusal.Refusal.{Refusal}
use Rattle.bk_plans.specs.Checking.{IsRefused}
use Rattle.bk_plans.specs.CheckingLaws.{refused-first}
use Rattle.bk_new_plans.specs.NewFiles.{capped}
use Rattle.bk_new_plans.proofs.NewFiles.{cap-low, cap-test, groups-length, new-length}

-- ---- the three tests

abbrev chain : Bool → Bool → Bool → Checked (Unit {0})
chain files groups extents =
    refuse_if files (LimitReached which.Files) >>= λ _. (refuse_if groups (LimitReached which.Groups) >>= λ _. refuse_if extents (LimitReached which.Extents))

chain-is : (s : Storage) (files groups extents : Bool) → files ≡ nat_lt most_files (length s.files) → groups ≡ nat_lt most_groups (length s.groups) → extents ≡ nat_lt most_extents (extents_in s.files)
    → check_limits s ≡ chain files groups extents
unfolding check_limits
chain-is s files groups extents one two three =
    ap (λ t. chain t (nat_lt most_groups (length s.groups)) (nat_lt most_extents (extents_in s.files))) (sym one)
    ∙ ap (λ t. chain files t (nat_lt most_extents (extents_in s.files))) (sym two)
    ∙ ap (λ t. chain files groups t) (sym three)

-- a check that is refused, whatever comes next
-- ---- as they are made

one-more : (n m : ℕ) → m ≡ n + 1 → nat_le 8 n ≡ nat_lt 8 m
one-more n m is = by (nat_le 8 n) refl
  where
    by : (t : Bool) → nat_le 8 n ≡ t → nat_le 8 n ≡ nat_lt 8 m
    by true e = let le : 8 ≤ n = leb-true 8 n e in grind (arith, nat_tests, le, is)
    by false e = grind (arith, nat_tests, e, is)

module _ (name : List ℕ) (primary : List NewFile) (groups : List NewGroup) (log : Option NewFile) (many : Bool)
    (many-is : many ≡ nat_lt 16 (max 1 (length primary) + sum_by (λ (g : NewGroup). length g.files) groups)) where
  files-test : many ≡ nat_lt most_files (length (new_files name primary groups))
  files-test = many-is ∙ ap (nat_lt 16) (sym (new-length name primary groups))

  groups-test : nat_le 8 (length groups) ≡ nat_lt most_groups (length (new_groups groups))
  groups-test = one-more (length groups) (length (new_groups groups)) (groups-length groups)

  pub at-files : (refusal : Refusal) → IsRefused refusal (refuse_if many (LimitReached which.Files)) → IsRefused refusal (check_limits (new_storage name primary groups log))
  at-files refusal is =
      subst (IsRefused refusal) (sym (chain-is (new_storage name primary groups log) many (nat_le 8 (length groups)) (nat_lt most_extents (extents_in (new_files name primary groups))) files-test groups-test refl))
      (refused-first refusal (refuse_if many (LimitReached which.Files)) _ is)

  module _ (few : many ≡ false) where
    pub few-files : length (new_files name primary groups) ≤ 16
    few-files = let e : nat_lt 16 (length (new_files name primary groups)) ≡ false = sym files-test ∙ few in grind (arith, nat_tests, e)

    pub at-groups : (refusal : Refusal) → IsRefused refusal (refuse_if (nat_le 8 (length groups)) (LimitReached which.Groups)) → IsRefused refusal (check_limits (new_storage name primary groups log))
    at-groups refusal is =
        subst (IsRefused refusal)
        (sym (chain-is (new_storage name primary groups log) false (nat_le 8 (length groups)) (nat_lt most_extents (extents_in (new_files name primary groups))) (sym few ∙ files-test) groups-test refl))
        (refused-first refusal (refuse_if (nat_le 8 (length groups)) (LimitReached which.Groups)) _ is)

    module _ (few_groups : nat_le 8 (length groups) ≡ false) (made : List FileSpec) (made-is : made ≡ map capped (new_files name primary groups)) where
      pub few-made : length made ≤ 16
      few-made = omega (arith, ap length made-is, length-map (new_files name primary groups) capped, few-files)

      pub few-groups : length groups < 8
      few-groups = grind (arith, nat_tests, few_groups)

      extents-test : nat_lt 4096 (extents_in made) ≡ nat_lt most_extents (extents_in (new_files name primary groups))
      extents-test = ap (λ (fs : List FileSpec). nat_lt 4096 (extents_in fs)) made-is ∙ cap-test (new_files name primary groups)

      limits-are : check_limits (new_storage name primary groups log) ≡ refuse_if (nat_lt 4096 (extents_in made)) (LimitReached which.Extents)
      limits-are = chain-is (new_storage name primary groups log) false false (nat_lt 4096 (extents_in made)) (sym few ∙ files-test) (sym few_groups ∙ groups-test) extents-test

      pub at-extents : (refusal : Refusal) → IsRefused refusal (refuse_if (nat_lt 4096 (extents_in made)) (LimitReached which.Extents)) → IsRefused refusal (check_limits (new_storage name primary groups log))
      at-extents refusal is = subst (IsRefused refusal) (sym limits-are) is

      pub within : nat_lt 4096 (extents_in made) ≡ false → check_limits (new_storage name primary groups log) ≡ Ok tt
      within e = limits-are ∙ ap (λ t. refuse_if t (LimitReached which.Extents)) e

      pub made-new : nat_lt 4096 (extents_in made) ≡ false → made ≡ new_files name primary groups
      made-new e =
          let low : extents_in (map capped (new_files name primary groups)) ≤ 4096 = let f : nat_lt 4096 (extents_in (map capped (new_files name primary groups))) ≡ false = ap (λ (fs : List FileSpec). nat_lt 4096 (extents_in fs)) (sym made-is) ∙ e in
          grind (arith, nat_tests, f) in
          made-is ∙ cap-low (new_files name primary groups) low

      pub small-files : nat_lt 4096 (extents_in made) ≡ false → extents_in (new_files name primary groups) ≤ 4096
      small-files e =
          let low : nat_lt 4096 (extents_in (new_files name primary groups)) ≡ false = sym extents-test ∙ e in
          grind (arith, nat_tests, low)
