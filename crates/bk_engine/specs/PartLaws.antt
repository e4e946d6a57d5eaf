-- What an instance stands for behind what is done to its hosted databases, and what a crash leaves.
use Rattle.std.proofs.Common.{◌≡◌, ◌≤◌, ◌⊎◌, inl, inr, ℕ, ◌+◌, List, map, Option, None, refl, sym, ap, subst, ◌∙◌, arith}
use Rattle.bk_archive.specs.DiskLaws.{media-after}
use Rattle.bk_archive.specs.Media.{KeepsMedia}
use Rattle.bk_archive.specs.MediaLaws.{SameFiles}
use Rattle.bk_device.specs.Compose.{effect_widen}
use Rattle.bk_device.specs.Disk.{Disk, Files}
use Rattle.bk_device.specs.Effects.{Effect}
use Rattle.bk_hosted.specs.Hosted.{Hosted, Hosts}
use Rattle.bk_hosting.specs.Hosting.{IsHosting, LeavesHosted}
use Rattle.bk_kept.specs.Keeps.{session_of}
use Rattle.bk_machine.specs.Acts.{Act, done}
use Rattle.bk_machine.specs.Sound.{IsSound}
use Rattle.bk_machine.specs.World.{World}
use Rattle.bk_stores.specs.Stores.{IsOurs as IsOfStores}
use Rattle.bk_engine.specs.ActLaws.{IsBehind, draws, same-behind}
use Rattle.bk_engine.specs.Acts.{CutsAct}
use Rattle.bk_msdb.specs.Msdb.{Shows}
use Rattle.bk_volume.specs.Names.{staging_file}
use Rattle.bk_engine.specs.Copied.{AreCopied}
use Rattle.bk_engine.specs.CopiedLaws.{copied-by, none-spares}
use Rattle.bk_engine.specs.NameLaws.{store-medium, store-rows, store-staging}
use Rattle.bk_engine.specs.RowLaws.{beside-then, calm-by, calm-on}
use Rattle.bk_engine.specs.Rows.{IsCalm, KeepsBeside}
use Rattle.bk_engine.specs.Stands.{Covers, IsOurs, IsReady, Kept, StandsFor, own_in}

-- ---- media and rows of msdb

-- what is done to stores leaves the files of media
pub media-beside : {P : Files → Type 0} {a b : Disk} → Effect IsOfStores P a b → SameFiles a.files b.files
media-beside {a = a} {b = b} effect = media-after a b store-medium effect

pub calm-beside : {P : Files → Type 0} {a b : Disk} {w : World} → Effect IsOfStores P a b → IsCalm a w → IsCalm b w
calm-beside effect calm = calm-by store-medium store-rows effect calm

-- and the files of sets that are being copied
pub copied-beside : {P : Files → Type 0} {a b : Disk} (hosted : List Hosted) → Effect IsOfStores P a b → AreCopied a hosted → AreCopied b hosted
copied-beside {a = a} {b = b} hosted effect all = copied-by a b hosted (none-spares IsOfStores hosted (λ set store. store-staging (staging_file set) (set, refl) store)) effect all

-- and so does a crash meanwhile
pub media-then : {u : World} (v : World) (making : Option (List ℕ)) (a : Disk) (image : Files) → IsCalm a u → ((name : List ℕ) → (IsOfStores name → ⊥) → IsOurs name → a.may name (image name)) → KeepsMedia v making a.files → KeepsBeside u v making image
media-then {u = u} v making a image calm others media = beside-then store-medium store-rows u v making a image calm others media

-- ---- what stands

-- a world in which so many GUIDs more are drawn
pub world-stands : (a b : Disk) (old new : Kept) (w v : World) (n : ℕ) (hosted : List Hosted) → StandsFor a old w → IsBehind w v n → IsSound v → Hosts v hosted → IsHosting b new.hosting hosted → (own_in new).number ≡ (own_in old).number
    → new.drawn ≡ old.drawn + n → new.session ≡ old.session → new.sessions ≡ old.sessions → KeepsMedia v None b.files → IsCalm b w → AreCopied b hosted → StandsFor b new v
world-stands a b old new w v n hosted is behind sound hosts hosting number drawn session sessions media calm copied = record {
  sound = sound;
  instance = behind.instance ∙ is.instance ∙ sym number;
  counter = behind.counter ∙ ap (λ k. k + n) is.counter ∙ sym drawn;
  session = behind.session ∙ is.session ∙ sym session;
  sessions = behind.sessions ∙ is.sessions ∙ ap (map session_of) (sym sessions);
  hosted = hosted;
  hosts = hosts;
  hosting = hosting;
  media = media;
  calm = calm-on behind.rows calm;
  copied = copied;
}

-- ---- what a crash leaves

-- a world for whose GUIDs numbers were reserved
pub world-left : (a : Disk) (e : Kept) (w v : World) (n : ℕ) (hosted : List Hosted) (image : Files) → IsReady e → StandsFor a e w → IsBehind w v n → e.drawn + n ≤ (own_in e).counter → Hosts v hosted → LeavesHosted (own_in e) hosted image
    → KeepsBeside w v None image → Covers v image
world-left a e w v n hosted image ready is behind reserved hosts left beside = record {
  own = own_in e;
  instance = behind.instance ∙ is.instance;
  no_less = let count = behind.counter in let same = is.counter in omega (arith, count, same, reserved);
  no_more = let count = behind.counter in let same = is.counter in let high = ready.no_more in omega (arith, count, same, high);
  hosted = hosted;
  hosts = hosts;
  left = left;
  media = subst (λ (making : Option (List ℕ)). KeepsMedia v making image) (sym ready.no_medium) beside.media;
  rows = subst (Shows image) (sym behind.rows) beside.rows;
}

-- the one for which it stands
pub world-kept : (a : Disk) (e : Kept) (w : World) (image : Files) → IsReady e → (is : StandsFor a e w) → LeavesHosted (own_in e) is.hosted image → KeepsBeside w w None image → Covers w image
world-kept a e w image ready is left beside = world-left a e w w 0 is.hosted image ready is (same-behind w) (let low = ready.no_less in omega (arith, low)) is.hosts left beside

-- what is done to stores alone, as what is done to the instance
pub stores-wide : {P Q : Files → Type 0} {a b : Disk} → ((image : Files) → P image → ((name : List ℕ) → (IsOfStores name → ⊥) → IsOurs name → a.may name (image name)) → Q image) → Effect IsOfStores P a b → Effect IsOurs Q a b
stores-wide then effect = effect_widen (λ name own. inl own) then effect

-- nothing is done but that some of what waited became durable
pub rest-crash : (a b : Disk) (e : Kept) (w : World) → IsReady e → (is : StandsFor a e w) → Effect IsOfStores (LeavesHosted (own_in e) is.hosted) a b → Effect IsOurs (Covers w) a b
rest-crash a b e w ready is effect = stores-wide (λ image left others. world-kept a e w image ready is left (media-then w None a image is.calm others is.media)) effect

-- what comes to another world without a write to a medium: a crash leaves the one or the other
pub world-crash : {P : Files → Type 0} (a b : Disk) (e : Kept) (w v : World) (n : ℕ) (hosted : List Hosted) → IsReady e → (is : StandsFor a e w) → IsBehind w v n → e.drawn + n ≤ (own_in e).counter → Hosts v hosted
    → KeepsMedia v None a.files → ((image : Files) → P image → LeavesHosted (own_in e) is.hosted image ⊎ LeavesHosted (own_in e) hosted image) → Effect IsOfStores P a b → Effect IsOurs (λ image. Covers w image ⊎ Covers v image) a b
world-crash a b e w v n hosted ready is behind reserved hosts media leaves effect = stores-wide (λ image left others. elim (leaves image left) [
  | inl before ↦ inl (world-kept a e w image ready is before (media-then w None a image is.calm others is.media))
  | inr after ↦ inr (world-left a e w v n hosted image ready is behind reserved hosts after (media-then v None a image is.calm others media))
]) effect

-- an act
pub act-crash : {P : Files → Type 0} (a b : Disk) (e : Kept) (w : World) (act : Act) (hosted : List Hosted) → IsReady e → (is : StandsFor a e w) → IsBehind w (done w act) (draws act) → e.drawn + draws act ≤ (own_in e).counter → Hosts (done w act) hosted
    → KeepsMedia (done w act) None a.files → ((image : Files) → P image → LeavesHosted (own_in e) is.hosted image ⊎ LeavesHosted (own_in e) hosted image) → Effect IsOfStores P a b → Effect IsOurs (CutsAct w act) a b
act-crash a b e w act hosted ready is behind reserved hosts media leaves effect = world-crash a b e w (done w act) (draws act) hosted ready is behind reserved hosts media leaves effect
