-- The files of an instance's stores, of media, of sets that are being written, and of the rows of msdb have different names.
use Rattle.std.proofs.Common.{◌≡◌, ◌⊎◌, inl, inr, ℕ, List, refl, sym, ap, ◌∙◌, arith}
use Rattle.std.specs.Prelude.{get_or}
use Rattle.bk_paged.specs.Laws.{log_letter, own_letter}
use Rattle.bk_stores.specs.Stores.{IsOurs as IsOfStores}
use Rattle.bk_msdb.specs.Msdb.{msdb_file}
use Rattle.bk_volume.specs.Laws.{medium_letter, staging_letter}
use Rattle.bk_volume.specs.Names.{letter, medium_file}
use Rattle.bk_archive.specs.Media.{IsMediumFile}
use Rattle.bk_device.specs.Effects.{IsName}
use Rattle.bk_engine.specs.Stands.{IsStagingFile}

-- no name of a store begins with the letter of media or of sets that are being written
store-letter : (name : List ℕ) → IsOfStores name → (letter name ≡ 109) ⊎ (letter name ≡ 116) → ⊥
store-letter name store is = elim is [ inl m ↦ apart 109 m (inl refl) | inr t ↦ apart 116 t (inr refl) ]
  where
    apart : (n : ℕ) → letter name ≡ n → (n ≡ 109) ⊎ (n ≡ 116) → ⊥
    apart n first which = elim store [
      | inl master ↦
          let own : letter name ≡ 115 = elim master [ inl made ↦ ap letter made | inr control ↦ ap letter control ] in
          elim which [ inl m ↦ absurd (omega (arith, first, own, m)) | inr t ↦ absurd (omega (arith, first, own, t)) ]
      | inr its ↦ elim its.2 [
        | inl log ↦ elim (log_letter its.0 name log) [
          | inl c ↦ elim which [ inl m ↦ absurd (omega (arith, first, c, m)) | inr t ↦ absurd (omega (arith, first, c, t)) ]
          | inr g ↦ elim which [ inl m ↦ absurd (omega (arith, first, g, m)) | inr t ↦ absurd (omega (arith, first, g, t)) ]
        ]
        | inr side ↦ elim (own_letter its.0 its.1 name side) [
          | inl b ↦ elim which [ inl m ↦ absurd (omega (arith, first, b, m)) | inr t ↦ absurd (omega (arith, first, b, t)) ]
          | inr p ↦ elim which [ inl m ↦ absurd (omega (arith, first, p, m)) | inr t ↦ absurd (omega (arith, first, p, t)) ]
        ]
      ]
    ]

-- no medium has the name of a store's file
pub store-medium : (path : List ℕ) → IsOfStores (medium_file path) → ⊥
store-medium path store = store-letter (medium_file path) store (inl (medium_letter path))

-- nor has a set that is being written
pub store-staging : (name : List ℕ) → IsStagingFile name → IsOfStores name → ⊥
store-staging name staging store = store-letter name store (inr (ap letter staging.1 ∙ staging_letter staging.0))

-- the file of the rows of msdb begins with the letter of the instance's own files
rows-letter : letter msdb_file ≡ 115
rows-letter = refl

-- it is no store's
pub store-rows : IsOfStores msdb_file → ⊥
store-rows store = elim store [
  | inl master ↦ elim master [ inl made ↦ let at : 115 ≡ 97 = ap (λ (name : List ℕ). get_or name 8 0) made in absurd (omega (arith, at)) | inr control ↦ let at : 109 ≡ 99 = ap (λ (name : List ℕ). get_or name 7 0) control in absurd (omega (arith, at)) ]
  | inr its ↦ elim its.2 [
    | inl log ↦ elim (log_letter its.0 msdb_file log) [
      | inl c ↦ let mine : letter msdb_file ≡ 115 = rows-letter in absurd (omega (arith, c, mine))
      | inr g ↦ let mine : letter msdb_file ≡ 115 = rows-letter in absurd (omega (arith, g, mine))
    ]
    | inr side ↦ elim (own_letter its.0 its.1 msdb_file side) [
      | inl b ↦ let mine : letter msdb_file ≡ 115 = rows-letter in absurd (omega (arith, b, mine))
      | inr p ↦ let mine : letter msdb_file ≡ 115 = rows-letter in absurd (omega (arith, p, mine))
    ]
  ]
]

-- no medium's
pub medium-rows : IsMediumFile msdb_file → ⊥
medium-rows medium =
    let mine : letter msdb_file ≡ 115 = rows-letter in
    let its : letter msdb_file ≡ 109 = ap letter medium.2 ∙ medium_letter medium.0 in
    absurd (omega (arith, mine, its))

-- and that of no set that is being written
pub staging-rows : IsStagingFile msdb_file → ⊥
staging-rows staging =
    let mine : letter msdb_file ≡ 115 = rows-letter in
    let its : letter msdb_file ≡ 116 = ap letter staging.1 ∙ staging_letter staging.0 in
    absurd (omega (arith, mine, its))

-- no medium has the name
pub rows-medium : (path : List ℕ) → IsName msdb_file (medium_file path) → ⊥
rows-medium path same =
    let mine : letter msdb_file ≡ 115 = rows-letter in
    let its : letter msdb_file ≡ 109 = ap letter (sym same) ∙ medium_letter path in
    absurd (omega (arith, mine, its))
