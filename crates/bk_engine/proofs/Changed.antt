-- Worlds behind acts on one hosted database.
use Rattle.std.proofs.Common.{◌≡◌, ℕ, List, Some, refl, subst, set-set}
use Rattle.std.specs.Prelude.{set, slice_get}
use Rattle.std.specs.List.{position}
use Rattle.bk_hosted.specs.Hosted.{Hosted, Hosts, basing, folding, names}
use Rattle.bk_hosted.specs.PlaceLaws.{same-place}
use Rattle.bk_machine.specs.Acts.{based, done}
use Rattle.bk_machine.specs.Sound.{IsSound}
use Rattle.bk_machine.specs.World.{World}
use Rattle.bk_stores.specs.ListLaws.{got-inside, got-set}
use Rattle.bk_world.specs.declared.header.Header.{Header}

abbrev pub FoldsStay : Type 0
FoldsStay = (w : World) (name : List ℕ) (hosted : List Hosted) (i : ℕ) (h : Hosted) → IsSound w → Hosts w hosted → position (names name) hosted ≡ Some i → slice_get hosted i ≡ Some h → Hosts w (set hosted i (folding h))

abbrev pub BasesFollow : Type 0
BasesFollow = (w : World) (name : List ℕ) (header : Header) (hosted : List Hosted) (i : ℕ) (h : Hosted) → IsSound w → Hosts w hosted → position (names name) hosted ≡ Some i → slice_get hosted i ≡ Some h
    → Hosts (done w (based name header)) (set hosted i (basing header h))

-- one is based on a set once what was noted for a checkpoint is taken in
pub based-hosts : FoldsStay → BasesFollow → (w : World) (name : List ℕ) (header : Header) (hosted : List Hosted) (i : ℕ) (h : Hosted) → IsSound w → Hosts w hosted → position (names name) hosted ≡ Some i → slice_get hosted i ≡ Some h
    → Hosts (done w (based name header)) (set hosted i (basing header (folding h)))
based-hosts folds bases w name header hosted i h sound hosts place there =
    let folded : Hosts w (set hosted i (folding h)) = folds w name hosted i h sound hosts place there in
    let based' : Hosts (done w (based name header)) (set (set hosted i (folding h)) i (basing header (folding h))) =
    bases w name header (set hosted i (folding h)) i (folding h) sound folded (same-place name hosted i h (folding h) refl place there) (got-set hosted i (folding h) (got-inside hosted i h there)) in
    subst (λ (hs : List Hosted). Hosts (done w (based name header)) hs) (set-set hosted i (folding h) (basing header (folding h))) based'
