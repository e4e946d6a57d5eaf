-- The end of a run, on the device.
use Rattle.std.proofs.Common.{◌≡◌, ◌⊎◌, inl, inr, ℕ, List, Option, None, refl, sym, subst, ◌∙◌}
use Rattle.bk_archive.specs.Media.{KeepsMedia}
use Rattle.bk_archive.specs.MediaLaws.{media-in}
use Rattle.bk_device.specs.Disk.{Disk, Files}
use Rattle.bk_device.specs.Effects.{Effect}
use Rattle.bk_hosted.specs.Hosted.{Hosts}
use Rattle.bk_hosting.specs.Hosting.{LeavesHosted}
use Rattle.bk_machine.specs.Sound.{AreIdle, IsSound}
use Rattle.bk_machine.specs.World.{World, ended}
use Rattle.bk_master.specs.declared.record.Own.{Own}
use Rattle.bk_stores.specs.Stores.{IsOurs as IsOfStores}
use Rattle.bk_engine.specs.CloseLaws.{ended-stands}
use Rattle.bk_engine.specs.Loading.{Leaves, Stands}
use Rattle.bk_engine.specs.PartLaws.{calm-beside, media-beside, media-then, stores-wide, world-kept}
use Rattle.bk_engine.specs.Rows.{KeepsBeside}
use Rattle.bk_engine.specs.Stands.{Covers, IsOurs, IsReady, Kept, StandsFor, own_in}

module _ (number : ℕ) (a : Disk) (e : Kept) (w : World) (own : Own) (is : StandsFor a e w) (idle : AreIdle w) (ends : IsSound (ended w)) (rest : Hosts (ended w) is.hosted) (same_number : own.number ≡ (own_in e).number) (same_counter : own.counter ≡ e.drawn) (none : own.making ≡ None) where
  -- an image under the own part that reserves no more
  left-ended : (image : Files) → LeavesHosted own is.hosted image → KeepsBeside w w None image → Stands number image (ended w)
  left-ended image left beside =
      ended-stands number w own is.hosted image is.sound ends idle (is.instance ∙ sym same_number) (is.counter ∙ sym same_counter) is.hosts rest none left (subst (λ (making : Option (List ℕ)). KeepsMedia w making image) (sym none) beside.media) beside.rows

  pub closed-crash : (b : Disk) → IsReady e → Effect IsOfStores (λ image. LeavesHosted (own_in e) is.hosted image ⊎ LeavesHosted own is.hosted image) a b → Effect IsOurs (λ image. Covers w image ⊎ Stands number image (ended w)) a b
  closed-crash b ready effect = stores-wide (λ image left others.
      let beside : KeepsBeside w w None image = media-then w None a image is.calm others is.media in
      elim left [
        | inl before ↦ inl (world-kept a e w image ready is before beside)
        | inr after ↦ inr (left-ended image after beside)
      ]) effect

-- whatever is left between two calls stands for the world in which the run has ended, where no GUID is reserved
pub rest-leaves : (number : ℕ) (b c : Disk) (e : Kept) (w : World) → IsReady e → (is : StandsFor b e w) → (own_in e).counter ≡ e.drawn → AreIdle w → IsSound (ended w) → Hosts (ended w) is.hosted → Effect IsOfStores (LeavesHosted (own_in e) is.hosted) b c → Leaves number c (ended w)
rest-leaves number b c e w ready is exact idle ends rest effect = λ image mine.
    left-ended number b e w (own_in e) is idle ends rest refl exact ready.no_medium image (effect.now image (λ name store. mine name (inl store)))
    (media-then w None c image (calm-beside effect is.calm) (λ name off at. mine name at) (media-in w None b.files c.files (media-beside effect) is.media))
