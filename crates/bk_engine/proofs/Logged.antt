-- A world in which a database says something, and what a crash leaves of it.
use Rattle.std.proofs.Common.{◌≡◌, ℕ, zero, suc, true, List, [], ◌∷◌, take, None, Some, inl, inr, arith}
use Rattle.std.specs.Prelude.{set, slice_get}
use Rattle.std.specs.List.{position}
use Rattle.bk_archive.specs.Media.{KeepsMedia}
use Rattle.bk_archive.specs.MediaLaws.{media-on}
use Rattle.bk_device.specs.Disk.{Disk}
use Rattle.bk_device.specs.Effects.{Effect}
use Rattle.bk_hosted.specs.Hosted.{Hosted, Hosts, SaysNoCheckpoint, is_up, names, saying}
use Rattle.bk_hosting.specs.Hosting.{LeavesSaid}
use Rattle.bk_machine.specs.Acts.{done, logged}
use Rattle.bk_machine.specs.Sound.{IsSound, SetIn}
use Rattle.bk_machine.specs.World.{World}
use Rattle.bk_stores.specs.Stores.{IsOurs as IsOfStores}
use Rattle.bk_world.specs.declared.header.Header.{Header}
use Rattle.bk_world.specs.declared.transaction.Open.{Open}
use Rattle.bk_world.specs.Lines.{Grew, RecordLines, log_below}
use Rattle.bk_world.specs.Records.{Said}
use Rattle.bk_engine.specs.ActLaws.{said-behind, said-media}
use Rattle.bk_engine.specs.Acts.{CutsSaying}
use Rattle.bk_engine.specs.PartLaws.{media-then, stores-wide, world-kept, world-left}
use Rattle.bk_engine.specs.Stands.{IsOurs, IsReady, Kept, StandsFor, own_in}

-- ---- what the laws say

abbrev pub SaysFronts : Type 0
SaysFronts = (w : World) (name : List ℕ) (said : List Said) (ts : List Open) (hosted : List Hosted) (i : ℕ) (h : Hosted) → IsSound w → Hosts w hosted → position (names name) hosted ≡ Some i → slice_get hosted i ≡ Some h → is_up h ≡ true → SaysNoCheckpoint said
    → Hosts (done w (logged name said ts)) (set hosted i (saying said ts h))

abbrev pub SaysGrow : Type 0
SaysGrow = (w : World) (name : List ℕ) (said : List Said) (ts : List Open) (hosted : List Hosted) (i : ℕ) (h : Hosted) → IsSound w → Hosts w hosted → position (names name) hosted ≡ Some i → slice_get hosted i ≡ Some h → is_up h ≡ true
    → Grew w.history (done w (logged name said ts)).history

abbrev pub SetsGrow : Type 0
SetsGrow = (w : World) (path : List ℕ) (header : Header) → IsSound w → SetIn w path header → (history : RecordLines) → Grew w.history history → log_below history header.path header.last ≡ log_below w.history header.path header.last

-- ---- fronts

take-plain : (n : ℕ) (said : List Said) → SaysNoCheckpoint said → SaysNoCheckpoint (take n said)
take-plain zero said plain = tt
take-plain (suc n) [] plain = tt
take-plain (suc n) (s ∷ said) plain = (plain.0, take-plain n said plain.1)

module _ (a : Disk) (e : Kept) (w : World) (name : List ℕ) (said : List Said) (ts : List Open) (i : ℕ) (h : Hosted) (fronts : SaysFronts) (grow : SaysGrow) (sets : SetsGrow) (is : StandsFor a e w)
    (place : position (names name) is.hosted ≡ Some i) (there : slice_get is.hosted i ≡ Some h) (up : is_up h ≡ true) (plain : SaysNoCheckpoint said) where
  -- media are kept behind whatever it says
  pub said-kept : (front : List Said) → KeepsMedia (done w (logged name front ts)) None a.files
  said-kept front =
      media-on w (done w (logged name front ts)) None a.files (said-media w name front ts)
      (λ path header inside. sets w path header is.sound inside (done w (logged name front ts)).history (grow w name front ts is.hosted i h is.sound is.hosts place there up)) is.media

  -- a crash leaves the world before it, or the one behind a front
  pub said-crash : {b : Disk} → IsReady e → Effect IsOfStores (LeavesSaid (own_in e) is.hosted i h said ts) a b → Effect IsOurs (CutsSaying w name said ts) a b
  said-crash ready effect = stores-wide (λ image left others. elim left [
    | inl before ↦ inl (world-kept a e w image ready is before (media-then w None a image is.calm others is.media))
    | inr front ↦ inr (
      front.0,
      front.1,
      world-left a e w (done w (logged name (take (suc front.0) said) ts)) 0 (set is.hosted i (saying (take (suc front.0) said) ts h)) image ready is (said-behind w name (take (suc front.0) said) ts)
          (let low = ready.no_less in omega (arith, low))
          (fronts w name (take (suc front.0) said) ts is.hosted i h is.sound is.hosts place there up (take-plain (suc front.0) said plain))
          front.2 (media-then (done w (logged name (take (suc front.0) said) ts)) None a image is.calm others (said-kept (take (suc front.0) said))),
    )
  ]) effect
