-- Files by name, one of them replaced.
use Rattle.std.proofs.Common.{◌≡◌, ◌≢◌, ◌⊎◌, ℕ, List, Option, Bool, true, false, refl, inl, inr, sym, ◌∙◌}
use Rattle.std.specs.Prelude.{if◌then◌else◌}
use Rattle.std.specs.Str.{bytes_eq}
use Rattle.std.proofs.lemmas.Slice.Eq.{bytes_eq-Decides}
use Rattle.bk_device.specs.Disk.{Files, replaced}

pub true_or_false : (b : Bool) → (b ≡ true) ⊎ (b ≡ false)
true_or_false true = inl refl
true_or_false false = inr refl

pub unequal : (name other : List ℕ) → bytes_eq name other ≡ false → other ≢ name
unequal name other test same =
    let tested : bytes_eq name other ≡ true = (bytes_eq-Decides name other).1 (sym same) in
    let both : true ≡ false = sym tested ∙ test in
    cc

-- two names are the same or not
pub same_or_other : (name other : List ℕ) → (other ≡ name) ⊎ (other ≢ name)
same_or_other name other =
    elim (true_or_false (bytes_eq name other)) [
      | inl test ↦ inl (sym ((bytes_eq-Decides name other).0 test))
      | inr test ↦ inr (unequal name other test)
    ]

pub replaced-same : (files : Files) (name : List ℕ) (content : Option (List ℕ)) → replaced files name content name ≡ content
replaced-same files name content =
    let tested : bytes_eq name name ≡ true = (bytes_eq-Decides name name).1 refl in
    rw tested refl

tested_other : (files : Files) (name : List ℕ) (content : Option (List ℕ)) (other : List ℕ) → (test : Bool) → bytes_eq name other ≡ test → other ≢ name → (if test then content else files other) ≡ files other
tested_other files name content other true is differ = absurd (differ (sym ((bytes_eq-Decides name other).0 is)))
tested_other files name content other false is differ = refl

pub replaced-other : (files : Files) (name : List ℕ) (content : Option (List ℕ)) (other : List ℕ) → other ≢ name → replaced files name content other ≡ files other
replaced-other files name content other differ = tested_other files name content other (bytes_eq name other) refl differ
