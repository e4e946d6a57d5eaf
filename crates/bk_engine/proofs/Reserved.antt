-- GUIDs are reserved in the record beyond those that were drawn.
use Rattle.std.proofs.Common.{◌≡◌, ◌≤◌, ◌⊎◌, inl, inr, ℕ, ◌+◌, List, length, Option, None, sym, ap, subst, ◌∙◌, arith}
use Rattle.bk_archive.specs.Media.{KeepsMedia}
use Rattle.bk_archive.specs.MediaLaws.{media-in}
use Rattle.bk_device.specs.Disk.{Disk, Files}
use Rattle.bk_device.specs.Effects.{Effect}
use Rattle.bk_hosted.specs.Hosted.{Hosted, Hosts}
use Rattle.bk_hosting.specs.Hosting.{IsHosting, LeavesHosted, own_of, IsReady as AreReady, Kept as KeptHosting}
use Rattle.bk_ids.specs.declared.guid.Guid.{Guid}
use Rattle.bk_machine.specs.World.{World}
use Rattle.bk_master.specs.declared.record.Own.{Own}
use Rattle.bk_stores.specs.Stores.{IsOurs as IsOfStores}
use Rattle.bk_engine.specs.ActLaws.{same-behind}
use Rattle.bk_engine.specs.PartLaws.{calm-beside, copied-beside, media-beside, media-then, stores-wide, world-kept, world-stands}
use Rattle.bk_engine.specs.Rows.{KeepsBeside}
use Rattle.bk_engine.specs.Stands.{Covers, IsOurs, IsReady, Kept, StandsFor, own_in}

-- a world under an own part that reserves no less than are drawn
own-left : (w : World) (own : Own) (hosted : List Hosted) (image : Files) → w.instance ≡ own.number → w.counter ≤ own.counter → own.counter ≤ w.counter + 1024 → own.making ≡ None → Hosts w hosted → LeavesHosted own hosted image → KeepsBeside w w None image → Covers w image
own-left w own hosted image instance no_less no_more none hosts left beside = record {
  own = own;
  instance = instance;
  no_less = no_less;
  no_more = no_more;
  hosted = hosted;
  hosts = hosts;
  left = left;
  media = subst (λ (making : Option (List ℕ)). KeepsMedia w making image) (sym none) beside.media;
  rows = beside.rows;
}

-- the own part stays, or it reserves more
pub reserved-crash : (a b : Disk) (e : Kept) (w : World) (own : Own) → IsReady e → (is : StandsFor a e w) → own.number ≡ (own_in e).number → own.counter ≡ e.drawn + 1024 → own.making ≡ None
    → Effect IsOfStores (λ image. LeavesHosted (own_in e) is.hosted image ⊎ LeavesHosted own is.hosted image) a b → Effect IsOurs (Covers w) a b
reserved-crash a b e w own ready is number counter none effect = stores-wide (λ image left others.
    let beside : KeepsBeside w w None image = media-then w None a image is.calm others is.media in
    let drawn : w.counter ≡ e.drawn = is.counter in
    elim left [
      | inl before ↦ world-kept a e w image ready is before beside
      | inr after ↦ own-left w own is.hosted image (is.instance ∙ sym number) (omega (arith, drawn, counter)) (omega (arith, drawn, counter)) none is.hosts after beside
    ]) effect

pub reserved-stands : {P : Files → Type 0} (a b : Disk) (old new : Kept) (w : World) → (is : StandsFor a old w) → IsHosting b new.hosting is.hosted → (own_in new).number ≡ (own_in old).number → new.drawn ≡ old.drawn → new.session ≡ old.session → new.sessions ≡ old.sessions → Effect IsOfStores P a b → StandsFor b new w
reserved-stands a b old new w is hosting number drawn session sessions effect =
    world-stands a b old new w w 0 is.hosted is (same-behind w) is.sound is.hosts hosting number (omega (arith, drawn)) session sessions (media-in w None a.files b.files (media-beside effect) is.media) (calm-beside effect is.calm) (copied-beside is.hosted effect is.copied)

-- the sets that it names are few enough for another
pub few-copied : (x : KeptHosting) (own : Own) (copy : List Guid) → AreReady x → own ≡ own_of x → copy ≡ own.copying → length copy ≤ 16
few-copied x own copy ready same is = subst (λ (sets : List Guid). length sets ≤ 16) (sym (is ∙ ap (λ (o : Own). o.copying) same)) ready.stores.keeps.own.copying
