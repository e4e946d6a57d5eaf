-- Names of data files.
use Rattle.std.specs.Prelude.{map, option_map, slice_index}
use Rattle.std.proofs.Common.{◌≡◌, ◌≢◌, ◌<◌, ◌+◌, ℕ, zero, suc, List, drop, Option, Some, None, slice_get, inl, inr, sym, ap, ◌∙◌, arith}
use Rattle.std.proofs.lemmas.Bool.{cases_lt}
use Rattle.std.proofs.lemmas.Option.{slice_get-map}
use Rattle.hex.specs.Hex.{encode_lower, decode_of}
use Rattle.hex.proofs.HexLemmas.{decode_of-encode_lower}
use Rattle.bk_bytes.specs.Field.{AreBytes}
use Rattle.bk_side.specs.Names.{data_file, side_file, name_of, AreDifferent, AreApart, IsBefore}

pub paths_differ : (path other : List ℕ) → AreBytes path → AreBytes other → data_file path ≡ data_file other → path ≡ other
unfolding data_file
paths_differ path other is_path is_other same =
    let digits : encode_lower path ≡ encode_lower other = ap (drop 2) same in
    let decoded : decode_of (encode_lower path) ≡ decode_of (encode_lower other) = ap decode_of digits in
    let one = decode_of-encode_lower path is_path in
    let two = decode_of-encode_lower other is_other in
    cc

pub not_side : (path : List ℕ) (db : ℕ) → data_file path ≡ side_file db → ⊥
unfolding data_file side_file
not_side path db same = let first : 112 ≡ 98 = ap (λ (name : List ℕ). slice_index name 0) same in absurd (omega (arith, first))

-- a data file's name is no side file's

some_mapped : (f : List ℕ → List ℕ) (o : Option (List ℕ)) (name : List ℕ) → option_map f o ≡ Some name → (path : List ℕ) × (name ≡ f path)
some_mapped f None name is = absurd cc
some_mapped f (Some path) name is = (path, cc)

named : (paths : List (List ℕ)) (file : ℕ) (name : List ℕ) → name_of (map data_file paths) file ≡ Some name → (path : List ℕ) × (name ≡ data_file path)
named paths zero name is = absurd cc
named paths (suc i) name is = some_mapped data_file (slice_get paths i) name (sym (slice_get-map data_file paths i) ∙ is)

pub are_apart : (paths : List (List ℕ)) (db : ℕ) → AreDifferent (map data_file paths) → AreApart (side_file db) (map data_file paths)
are_apart paths db different = record {
  different = different;
  from_side = λ file name is same. let path = named paths file name is in not_side path.0 db (sym path.1 ∙ same);
}

-- where no name stands before its place too, all differ
pub all_different : (names : List (List ℕ)) → ((i j : ℕ) (name : List ℕ) → j < i → slice_get names j ≡ Some name → slice_get names i ≡ Some name → ⊥) → AreDifferent names
all_different names none zero other name one two = absurd cc
all_different names none (suc i) zero name one two = absurd cc
all_different names none (suc i) (suc j) name one two = elim (cases_lt j i) [
  | inl less ↦ absurd (none i j name less two one)
  | inr more ↦ elim (cases_lt i j) [
    | inl less ↦ absurd (none j i name less one two)
    | inr least ↦ ap suc (omega (arith, more, least))
  ]
]

-- and where one does they don't
pub not_different : (names : List (List ℕ)) (i : ℕ) → IsBefore names i → AreDifferent names → ⊥
not_different names i before different =
    let same : suc before.0 ≡ suc i = different (suc i) (suc before.0) before.1 before.4 before.3 in
    absurd (omega (arith, before.2, same))

-- one place more before which a name doesn't stand
pub none_more : (names : List (List ℕ)) (i j : ℕ) (a b : List ℕ) → slice_get names j ≡ Some a → slice_get names i ≡ Some b → b ≢ a
    → ((k : ℕ) (name : List ℕ) → k < j → slice_get names k ≡ Some name → slice_get names i ≡ Some name → ⊥)
    → (k : ℕ) (name : List ℕ) → k < j + 1 → slice_get names k ≡ Some name → slice_get names i ≡ Some name → ⊥
none_more names i j a b at_j at_i differ none k name below one two = elim (cases_lt k j) [
  | inl less ↦ none k name less one two
  | inr more ↦
      let last : k ≡ j = omega (arith, below, more) in
      let first : ◌≡◌ {A = Option (List ℕ)} (Some name) (Some a) = sym one ∙ ap (slice_get names) last ∙ at_j in
      let second : ◌≡◌ {A = Option (List ℕ)} (Some name) (Some b) = sym two ∙ at_i in
      let same_a : name ≡ a = cc in
      let same_b : name ≡ b = cc in
      differ (sym same_b ∙ same_a)
]
