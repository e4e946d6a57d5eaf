-- The bytes of blobs, one behind the other.
use Rattle.std.proofs.Common.{◌≡◌, ℕ, ◌+◌, List, [], ◌∷◌, ◌++◌, sym, ap, ◌∙◌, append_assoc, add-one}
use Rattle.std.proofs.lemmas.List.{append-nil}
use Rattle.std.proofs.lemmas.List.Concat.{flat_map-append}
use Rattle.bk_segments.specs.Files.{blobs_from}
use Rattle.bk_segments.specs.Records.{joined}

pub joined_append : (a b : List (List ℕ)) → joined (a ++ b) ≡ joined a ++ joined b
joined_append a b = flat_map-append (λ (blob : List ℕ). blob) a b

pub joined_more : (blobs : List (List ℕ)) (start old blob new : List ℕ) → old ≡ start ++ joined blobs → new ≡ old ++ blob → new ≡ start ++ joined (blobs ++ blob ∷ [])
joined_more blobs start old blob new so_far added =
    let more : joined (blobs ++ blob ∷ []) ≡ joined blobs ++ blob = joined_append blobs (blob ∷ []) ∙ ap (λ (x : List ℕ). joined blobs ++ x) (append-nil blob) in
    added ∙ ap (λ (x : List ℕ). x ++ blob) so_far ∙ append_assoc start (joined blobs) blob ∙ ap (λ (x : List ℕ). start ++ x) (sym more)

pub joined_segment : (blobs : ℕ → List (List ℕ)) (front i : ℕ) (old new : List ℕ) → old ≡ joined (blobs_from blobs front i) → new ≡ old ++ joined (blobs (front + i)) → new ≡ joined (blobs_from blobs front (i + 1))
joined_segment blobs front i old new so_far added =
    added ∙ ap (λ (x : List ℕ). x ++ joined (blobs (front + i))) so_far ∙ sym (joined_append (blobs_from blobs front i) (blobs (front + i))) ∙ ap (λ (n : ℕ). joined (blobs_from blobs front n)) (sym (add-one i))
