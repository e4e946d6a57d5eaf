-- Whether a blob of a file is sealed.
use Rattle.std.proofs.Common.{◌≡◌, ℕ, suc, true, false, nat_eq, List, [], ◌∷◌, length, map, Option, refl, sym, ◌∙◌, ap, arith}
use Rattle.std.proofs.lemmas.Bool.Decides.{nat_tests}
use Rattle.bk_device.specs.Calls.{contents}
use Rattle.bk_gate.specs.Blobs.{IsGateFile, part_of, sealed, spans_of}
use Rattle.bk_gate.specs.BlobLaws.{foreign_blobs, gate_blobs}
use Rattle.bk_archive.specs.Media.{is_begun}

some_spans : (n : ℕ) → nat_eq (suc n) 0 ≡ false
some_spans n = grind (arith, nat_tests)

-- no blob of a gate file is sealed where there are no spans
pub begun-count : (file : Option (List ℕ)) (spans : List (ℕ × ℕ)) → IsGateFile (contents file) → spans ≡ spans_of (contents file) → nat_eq (length spans) 0 ≡ is_begun (sealed file)
begun-count file spans is same = by spans ∙ ap is_begun (ap (map (part_of (contents file))) same ∙ sym (gate_blobs (contents file) is))
  where
    by : (all : List (ℕ × ℕ)) → nat_eq (length all) 0 ≡ is_begun (map (part_of (contents file)) all)
    by [] = refl
    by (span ∷ all) = some_spans (length all)

-- nor where it is none
pub begun-foreign : (file : Option (List ℕ)) → (IsGateFile (contents file) → ⊥) → true ≡ is_begun (sealed file)
begun-foreign file foreign = sym (ap is_begun (foreign_blobs (contents file) foreign))
