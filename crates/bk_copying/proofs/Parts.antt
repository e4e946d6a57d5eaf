-- What a set holds, as more is added.
use Rattle.std.proofs.Common.{◌≡◌, ◌+◌, ℕ, List, [], ◌∷◌, ◌++◌, length, sym, ap, subst, ◌∙◌, append_assoc, length-append, arith}
use Rattle.std.proofs.lemmas.Grind.{flat_map-append}
use Rattle.std.proofs.lemmas.List.{append-nil}
use Rattle.std.specs.List.{flat_map}
use Rattle.bk_body.specs.Body.{Extent}
use Rattle.bk_body.specs.Spelling.{extent_bytes}
use Rattle.bk_bytes.specs.Field.{bytes_of}
use Rattle.bk_bytes.specs.FieldLaws.{length-bytes_of}
use Rattle.bk_device.specs.Disk.{Disk}
use Rattle.bk_volume.specs.Staging.{HoldsParts, IsStaged, Staging, staged}

-- ---- one extent more

extent-parts : (a b : Disk) (set : Staging) (extents : List Extent) (e : Extent) → staged b set ≡ staged a set ++ extent_bytes e → HoldsParts a set extents [] → HoldsParts b (record set { extents = set.extents + 1 }) (extents ++ e ∷ []) []
extent-parts a b set extents e added parts = record {
  count = omega (arith, length-append extents (e ∷ []), parts.count);
  size = parts.size;
  bytes = added
      ∙ ap (λ (bs : List ℕ). bs ++ extent_bytes e) (parts.bytes ∙ append-nil (flat_map extent_bytes extents))
      ∙ ap (λ (bs : List ℕ). flat_map extent_bytes extents ++ bs) (sym (append-nil (extent_bytes e)))
      ∙ sym (flat_map-append extent_bytes extents (e ∷ []))
      ∙ sym (append-nil (flat_map extent_bytes (extents ++ e ∷ [])));
}

abbrev one-of : ℕ → ℕ → List ℕ → Extent
one-of file extent bytes = record { file = file; extent = extent; bytes = bytes }

-- these bytes were added as an extent, and are those of the copy
pub extent-more : (a b : Disk) (set now : Staging) (file extent : ℕ) (bytes copy : List ℕ) (extents : List Extent) → bytes ≡ copy → now ≡ record set { extents = set.extents + 1 } → staged b set ≡ staged a set ++ extent_bytes (record { file = file; extent = extent; bytes = bytes })
    → HoldsParts a set extents [] → HoldsParts b now (extents ++ (record { file = file; extent = extent; bytes = copy }) ∷ []) []
extent-more a b set now file extent bytes copy extents same counted added parts =
    let here : HoldsParts b now (extents ++ one-of file extent bytes ∷ []) [] = subst (λ (s : Staging). HoldsParts b s (extents ++ one-of file extent bytes ∷ []) []) (sym counted) (extent-parts a b set extents (one-of file extent bytes) added parts) in
    subst (λ (bs : List ℕ). HoldsParts b now (extents ++ one-of file extent bs ∷ []) []) same here

-- an extent with its file and number
extent-size : (file extent : ℕ) (bytes : List ℕ) → length bytes ≡ 65536 → length (extent_bytes (one-of file extent bytes)) ≡ 65542
extent-size file extent bytes size =
    omega (arith, length-append (bytes_of 2 file) (bytes_of 4 extent ++ bytes), length-append (bytes_of 4 extent) bytes, length-bytes_of 2 file, length-bytes_of 4 extent, size)

-- the set is longer by one
pub extent-staged : (a b : Disk) (set now : Staging) (file extent : ℕ) (bytes : List ℕ) → length bytes ≡ 65536 → now ≡ record set { extents = set.extents + 1 } → staged b set ≡ staged a set ++ extent_bytes (record { file = file; extent = extent; bytes = bytes }) → IsStaged a set → IsStaged b now
extent-staged a b set now file extent bytes size counted added is =
    let here : IsStaged b (record set { extents = set.extents + 1 }) =
    omega (arith, ap (λ (bs : List ℕ). length bs) added, length-append (staged a set) (extent_bytes (one-of file extent bytes)), extent-size file extent bytes size, is) in
    subst (IsStaged b) (sym counted) here

-- ---- more of the log

log-parts : (a b : Disk) (set : Staging) (extents : List Extent) (before log : List ℕ) → staged b set ≡ staged a set ++ log → HoldsParts a set extents before → HoldsParts b (record set { log = set.log + length log }) extents (before ++ log)
log-parts a b set extents before log added parts = record {
  count = parts.count;
  size = omega (arith, length-append before log, parts.size);
  bytes = added ∙ ap (λ (bs : List ℕ). bs ++ log) parts.bytes ∙ append_assoc (flat_map extent_bytes extents) before log;
}

-- these bytes were added, and are those of the log
pub log-more : (a b : Disk) (set now : Staging) (extents : List Extent) (before bytes log : List ℕ) → bytes ≡ log → now ≡ record set { log = set.log + length bytes } → staged b set ≡ staged a set ++ bytes → HoldsParts a set extents before → HoldsParts b now extents (before ++ log)
log-more a b set now extents before bytes log same counted added parts =
    let here : HoldsParts b now extents (before ++ bytes) = subst (λ (s : Staging). HoldsParts b s extents (before ++ bytes)) (sym counted) (log-parts a b set extents before bytes added parts) in
    subst (λ (bs : List ℕ). HoldsParts b now extents (before ++ bs)) same here

-- the set is longer by so much
pub log-staged : (a b : Disk) (set now : Staging) (bytes : List ℕ) → now ≡ record set { log = set.log + length bytes } → staged b set ≡ staged a set ++ bytes → IsStaged a set → IsStaged b now
log-staged a b set now bytes counted added is =
    let here : IsStaged b (record set { log = set.log + length bytes }) = omega (arith, ap (λ (bs : List ℕ). length bs) added, length-append (staged a set) bytes, is) in
    subst (IsStaged b) (sym counted) here

-- all but the log's length is as it was
pub log-counted : (set now : Staging) (n : ℕ) → now ≡ record set { log = n } → now ≡ record set { log = now.log }
log-counted set now n is = is ∙ ap (λ (k : ℕ). record set { log = k }) (sym (ap (λ (s : Staging). s.log) is))
