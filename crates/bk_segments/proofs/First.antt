-- The first blob of a gate file.
use Rattle.std.proofs.Common.{◌≡◌, ◌≢◌, ℕ, Bool, true, false, List, [], length, Option, Some, None, refl, sym, ap, ◌∙◌, arith}
use Rattle.std.specs.Prelude.{is_some, IfSome, IsNone}
use Rattle.std.specs.Bool.{MatchBool}
use Rattle.bk_device.specs.Calls.{read_at}
use Rattle.bk_gate.specs.Blobs.{blob_at, blobs_in, IsGateFile}
use Rattle.bk_gate.specs.Laws.{up_to_none, up_to_next, up_to_end}

-- whether there is one
pub first_found : {A : Type 0} (file : List ℕ) (now : A → List ℕ) (found : Option A) (is : Bool) → IsGateFile file → is ≡ is_some found → IfSome found (λ b. blob_at file 16 ≡ Some (length (now b))) → IfSome found (λ b. now b ≡ read_at file 25 (length (now b))) → (IsNone found → blob_at file 16 ≡ None)
    → MatchBool is (blobs_in file ≢ []) (blobs_in file ≡ [])
first_found file now None false is_gate test at bytes none = up_to_end file 16 [] is_gate (omega (arith, is_gate.1)) (up_to_none file) (none refl)
first_found file now None true is_gate test at bytes none = absurd cc
first_found file now (Some b) false is_gate test at bytes none = absurd cc
first_found file now (Some b) true is_gate test at bytes none = λ empty.
    let next = up_to_next file 16 [] (now b) is_gate (up_to_none file) at bytes in
    absurd (omega (arith, ap (λ (bs : List (List ℕ)). length bs) (sym next.1 ∙ empty)))
