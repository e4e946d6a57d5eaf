-- Within a call the record names what is being made, and a medium is made.
use Rattle.std.proofs.Common.{◌≡◌, ◌≤◌, ◌⊎◌, inl, inr, ℕ, ◌+◌, List, [], ◌∷◌, map, Option, Some, None, refl, sym, ap, subst, ◌∙◌, arith}
use Rattle.bk_archive.specs.DiskLaws.{media-after}
use Rattle.bk_archive.specs.Media.{IsMediumFile, KeepsMedia, MediaAreDurable}
use Rattle.bk_archive.specs.MediaLaws.{media-in}
use Rattle.bk_device.specs.Compose.{effect_widen}
use Rattle.bk_device.specs.Disk.{Disk, Files}
use Rattle.bk_device.specs.Effects.{Effect, IsName, MayLeaveOwn}
use Rattle.bk_hosted.specs.Hosted.{Hosted, Hosts}
use Rattle.bk_hosting.specs.Copying.{CopyLeaves, IsOursOr}
use Rattle.bk_hosting.specs.Hosting.{IsHosting, Kept, LeavesHosted, own_of}
use Rattle.bk_kept.specs.Keeps.{session_of}
use Rattle.bk_machine.specs.Acts.{Act, done}
use Rattle.bk_machine.specs.Sound.{IsSound}
use Rattle.bk_machine.specs.World.{World}
use Rattle.bk_master.specs.declared.record.Own.{Own}
use Rattle.bk_stores.specs.Stores.{IsOurs as IsOfStores}
use Rattle.bk_engine.specs.Acts.{CutsAct}
use Rattle.bk_engine.specs.Amid.{Amid, AmidBare}
use Rattle.bk_volume.specs.Names.{medium_file, staging_file}
use Rattle.bk_volume.specs.Staging.{Staging}
use Rattle.bk_engine.specs.BesideLaws.{beside-store, hosting-stays, medium-apart, stores-keep}
use Rattle.bk_msdb.specs.Msdb.{Shows, msdb_file}
use Rattle.bk_fields.specs.Guids.{IsGuid}
use Rattle.bk_ids.specs.declared.guid.Guid.{Guid}
use Rattle.bk_machine.specs.declared.job.Job.{Job}
use Rattle.bk_machine.specs.Sound.{JobIs}
use Rattle.bk_engine.specs.Copied.{SparesSets}
use Rattle.bk_engine.specs.CopiedLaws.{copied-by, none-spares}
use Rattle.bk_engine.specs.NameLaws.{staging-rows, store-medium, store-rows, store-staging}
use Rattle.bk_engine.specs.RowLaws.{beside-then, calm-by, calm-media, rows-then}
use Rattle.bk_engine.specs.Rows.{KeepsBeside, rows_in}
use Rattle.bk_engine.specs.PartLaws.{calm-beside, copied-beside, media-beside, media-then, stores-wide}
use Rattle.bk_engine.specs.Stands.{Covers, IsOurs, IsReady, IsStagingFile, Kept as KeptEngine, StandsFor, own_in}

-- ---- into a call and out of it

unfoldable pub stands-amid : (disk : Disk) (e : KeptEngine) (w : World) → IsReady e → StandsFor disk e w → Amid disk e.hosting w
stands-amid disk e w ready is = record {
  instance = is.instance;
  no_less = let drawn = is.counter in let low = ready.no_less in omega (arith, drawn, low);
  no_more = let drawn = is.counter in let high = ready.no_more in omega (arith, drawn, high);
  hosted = is.hosted;
  hosts = is.hosts;
  hosting = is.hosting;
  media = subst (λ making. KeepsMedia w making disk.files) (sym ready.no_medium) is.media;
  calm = is.calm;
  copied = is.copied;
}

pub amid-stands : (disk : Disk) (e : KeptEngine) (w : World) → Amid disk e.hosting w → IsSound w → (own_in e).making ≡ None → w.counter ≡ e.drawn → w.session ≡ e.session → w.sessions ≡ map session_of e.sessions → StandsFor disk e w
amid-stands disk e w is sound none drawn session sessions = record {
  sound = sound;
  instance = is.instance;
  counter = drawn;
  session = session;
  sessions = sessions;
  hosted = is.hosted;
  hosts = is.hosts;
  hosting = is.hosting;
  media = subst (λ making. KeepsMedia w making disk.files) none is.media;
  calm = is.calm;
  copied = is.copied;
}

-- ---- what a crash leaves

abbrev pub bare : {disk : Disk} {x : Kept} {w : World} → Amid disk x w → AmidBare disk x w
bare is = record { instance = is.instance; no_less = is.no_less; no_more = is.no_more; hosted = is.hosted; hosts = is.hosts; hosting = is.hosting; media = is.media; calm = is.calm }

-- the world under an own part with the same number and counter
own-covers : (disk : Disk) (x : Kept) (w : World) (own : Own) (image : Files) → (is : AmidBare disk x w) → own.number ≡ (own_of x).number → own.counter ≡ (own_of x).counter → LeavesHosted own is.hosted image → KeepsBeside w w own.making image → Covers w image
own-covers disk x w own image is number counter left beside = record {
  own = own;
  instance = is.instance ∙ sym number;
  no_less = let low = is.no_less in omega (arith, counter, low);
  no_more = let high = is.no_more in omega (arith, counter, high);
  hosted = is.hosted;
  hosts = is.hosts;
  left = left;
  media = beside.media;
  rows = beside.rows;
}

-- ---- the record names another medium, or none

pub bare-crash : (a b : Disk) (x : Kept) (w : World) (own : Own) → (is : AmidBare a x w) → own.number ≡ (own_of x).number → own.counter ≡ (own_of x).counter → KeepsMedia w own.making a.files → Effect IsOfStores (λ image. LeavesHosted (own_of x) is.hosted image ⊎ LeavesHosted own is.hosted image) a b → Effect IsOurs (Covers w) a b
bare-crash a b x w own is number counter media effect = stores-wide (λ image left others. elim left [
  | inl before ↦ own-covers a x w (own_of x) image is refl refl before (media-then w (own_of x).making a image is.calm others is.media)
  | inr after ↦ own-covers a x w own image is number counter after (media-then w own.making a image is.calm others media)
]) effect

pub named-crash : (a b : Disk) (x : Kept) (w : World) (own : Own) → (is : Amid a x w) → own.number ≡ (own_of x).number → own.counter ≡ (own_of x).counter → KeepsMedia w own.making a.files → Effect IsOfStores (λ image. LeavesHosted (own_of x) is.hosted image ⊎ LeavesHosted own is.hosted image) a b → Effect IsOurs (Covers w) a b
named-crash a b x w own is number counter media effect = bare-crash a b x w own (bare is) number counter media effect

pub named-amid : {P : Files → Type 0} (a b : Disk) (x y : Kept) (w : World) (own : Own) → (is : Amid a x w) → own.number ≡ (own_of x).number → own.counter ≡ (own_of x).counter → KeepsMedia w own.making a.files → own_of y ≡ own → IsHosting b y is.hosted → Effect IsOfStores P a b → Amid b y w
named-amid a b x y w own is number counter media same hosting effect = record {
  instance = is.instance ∙ sym number ∙ ap (λ (o : Own). o.number) (sym same);
  no_less = let low = is.no_less in let own_counter = ap (λ (o : Own). o.counter) same in omega (arith, own_counter, counter, low);
  no_more = let high = is.no_more in let own_counter = ap (λ (o : Own). o.counter) same in omega (arith, own_counter, counter, high);
  hosted = is.hosted;
  hosts = is.hosts;
  hosting = hosting;
  media = subst (λ (o : Own). KeepsMedia w o.making b.files) (sym same) (media-in w own.making a.files b.files (media-beside effect) media);
  calm = calm-beside effect is.calm;
  copied = copied-beside is.hosted effect is.copied;
}

-- ---- something is done to media

-- no set that is being written lies in the file of one
medium-no-set : (set : Guid) → IsMediumFile (staging_file set) → ⊥
medium-no-set set medium = medium-apart medium.0 (set, sym medium.2)

-- a world with the same rows of msdb that hosts the same databases, with some GUIDs more, for which numbers are reserved
pub record MayCome (disk : Disk) (x : Kept) (w v : World) (is : Amid disk x w) : Type 0 where
  pub instance : v.instance ≡ w.instance
  pub no_less : v.counter ≤ (own_of x).counter
  pub no_more : w.counter ≤ v.counter
  pub hosts : Hosts v is.hosted
  pub rows : rows_in v ≡ rows_in w

behind-covers : (a : Disk) (x : Kept) (w v : World) (image : Files) → (is : Amid a x w) → MayCome a x w v is → LeavesHosted (own_of x) is.hosted image → KeepsBeside w v (own_of x).making image → Covers v image
behind-covers a x w v image is may left beside = record {
  own = own_of x;
  instance = may.instance ∙ is.instance;
  no_less = may.no_less;
  no_more = let high = is.no_more in let rises = may.no_more in omega (arith, high, rises);
  hosted = is.hosted;
  hosts = may.hosts;
  left = left;
  media = beside.media;
  rows = subst (Shows image) (sym may.rows) beside.rows;
}

-- a crash leaves the world before it, or the one behind it
pub media-crash : {P : Files → Type 0} (a b : Disk) (x : Kept) (w : World) (act : Act) → (is : Amid a x w) → MayCome a x w (done w act) is → ((image : Files) → MayLeaveOwn IsOfStores a image → LeavesHosted (own_of x) is.hosted image)
    → ((image : Files) → P image → KeepsMedia w (own_of x).making image ⊎ KeepsMedia (done w act) (own_of x).making image) → Effect IsMediumFile P a b → Effect IsOurs (CutsAct w act) a b
media-crash a b x w act is may left media effect = effect_widen (λ name at. inr (inl at)) (λ image its others.
    let here : LeavesHosted (own_of x) is.hosted image = left image (λ name store. others name (λ at. beside-store name (inl at) store) (inl store)) in
    let rows : Shows image (rows_in w) = rows-then a image is.calm others in
    elim (media image its) [
      | inl before ↦ inl (own-covers a x w (own_of x) image (bare is) refl refl here (record { media = before; rows = rows }))
      | inr after ↦ inr (behind-covers a x w (done w act) image is may here (record { media = after; rows = rows }))
    ]) effect

pub media-amid : {P : Files → Type 0} (a b : Disk) (x : Kept) (w v : World) → (is : Amid a x w) → MayCome a x w v is → KeepsMedia v (own_of x).making b.files → MediaAreDurable b → Effect IsMediumFile P a b → Amid b x v
media-amid a b x w v is may media calm effect = record {
  instance = may.instance ∙ is.instance;
  no_less = may.no_less;
  no_more = let high = is.no_more in let rises = may.no_more in omega (arith, high, rises);
  hosted = is.hosted;
  hosts = may.hosts;
  hosting = hosting-stays x is.hosted (stores-keep (λ name at. inl at) effect) is.hosting;
  media = media;
  calm = calm-media may.rows calm effect is.calm;
  copied = copied-by a b is.hosted (none-spares IsMediumFile is.hosted (λ set medium. medium-no-set set medium)) effect is.copied;
}

-- ---- something is done to the file of a set that is being written

-- it leaves the world
pub staging-crash : {own : List ℕ → Type 0} {P : Files → Type 0} (a b : Disk) (x : Kept) (w : World) → (is : Amid a x w) → ((name : List ℕ) → own name → IsStagingFile name) → ((image : Files) → MayLeaveOwn IsOfStores a image → LeavesHosted (own_of x) is.hosted image) → Effect own P a b → Effect IsOurs (Covers w) a b
staging-crash a b x w is within left effect = effect_widen (λ name at. inr (inr (inl (within name at)))) (λ image its others.
    own-covers a x w (own_of x) image (bare is) refl refl (left image (λ name store. others name (λ at. beside-store name (inr (within name at)) store) (inl store)))
    (beside-then (λ path at. medium-apart path (within (medium_file path) at)) (λ at. staging-rows (within msdb_file at)) w w (own_of x).making a image is.calm others is.media)) effect

pub staging-amid : {own : List ℕ → Type 0} {P : Files → Type 0} (a b : Disk) (x : Kept) (w : World) → (is : Amid a x w) → ((name : List ℕ) → own name → IsStagingFile name) → SparesSets own is.hosted → Effect own P a b → Amid b x w
staging-amid a b x w is within spares effect = record {
  instance = is.instance;
  no_less = is.no_less;
  no_more = is.no_more;
  hosted = is.hosted;
  hosts = is.hosts;
  hosting = hosting-stays x is.hosted (stores-keep (λ name at. inr (within name at)) effect) is.hosting;
  media = media-in w (own_of x).making a.files b.files (media-after a b (λ path at. medium-apart path (within (medium_file path) at)) effect) is.media;
  calm = calm-by (λ path at. medium-apart path (within (medium_file path) at)) (λ at. staging-rows (within msdb_file at)) effect is.calm;
  copied = copied-by a b is.hosted spares effect is.copied;
}

-- whether or not it is that of a backup that runs
pub staging-bare : {own : List ℕ → Type 0} {P : Files → Type 0} (a b : Disk) (x : Kept) (w : World) → Amid a x w → ((name : List ℕ) → own name → IsStagingFile name) → Effect own P a b → AmidBare b x w
staging-bare a b x w is within effect = record {
  instance = is.instance;
  no_less = is.no_less;
  no_more = is.no_more;
  hosted = is.hosted;
  hosts = is.hosts;
  hosting = hosting-stays x is.hosted (stores-keep (λ name at. inr (within name at)) effect) is.hosting;
  media = media-in w (own_of x).making a.files b.files (media-after a b (λ path at. medium-apart path (within (medium_file path) at)) effect) is.media;
  calm = calm-by (λ path at. medium-apart path (within (medium_file path) at)) (λ at. staging-rows (within msdb_file at)) effect is.calm;
}

-- ---- a database is copied into a set

copied-apart : (into : Staging) → IsStagingFile into.name → (path : List ℕ) → IsOursOr into (medium_file path) → ⊥
copied-apart into named path (inl store) = store-medium path store
copied-apart into named path (inr its) = medium-apart path (subst IsStagingFile (sym its) named)

-- but for its own file, those of sets that are being copied
spares-job : (into : Staging) (o : Option Job) → JobIs (λ (job : Job). IsGuid job.set → IsName into.name (staging_file job.set) → ⊥) o → JobIs (λ (job : Job). IsGuid job.set → IsOursOr into (staging_file job.set) → ⊥) o
spares-job into None spares = tt
spares-job into (Some job) spares = λ guid at. elim at [ inl store ↦ store-staging (staging_file job.set) (job.set, refl) store | inr its ↦ spares guid its ]

spares-both : (into : Staging) (hosted : List Hosted) → SparesSets (IsName into.name) hosted → SparesSets (IsOursOr into) hosted
spares-both into [] spares = tt
spares-both into (h ∷ hosted) spares = (spares-job into h.job spares.0, spares-both into hosted spares.1)

copied-rows : (into : Staging) → IsStagingFile into.name → IsOursOr into msdb_file → ⊥
copied-rows into named (inl store) = store-rows store
copied-rows into named (inr its) = staging-rows (subst IsStagingFile (sym its) named)

-- it leaves the world
pub copied-crash : (a b : Disk) (x : Kept) (w : World) (into : Staging) → (is : Amid a x w) → IsStagingFile into.name → CopyLeaves (own_of x) is.hosted into a b → Effect IsOurs (Covers w) a b
copied-crash a b x w into is named effect = effect_widen (λ name at. elim at [ inl store ↦ inl store | inr its ↦ inr (inr (inl (subst IsStagingFile (sym its) named))) ]) (λ image left others.
    own-covers a x w (own_of x) image (bare is) refl refl left
    (beside-then (copied-apart into named) (copied-rows into named) w w (own_of x).making a image is.calm others is.media)) effect

pub copied-amid : (a b : Disk) (x y : Kept) (w : World) (into : Staging) → (is : Amid a x w) → IsStagingFile into.name → own_of y ≡ own_of x → IsHosting b y is.hosted → SparesSets (IsName into.name) is.hosted → CopyLeaves (own_of x) is.hosted into a b → Amid b y w
copied-amid a b x y w into is named same hosting spares effect = record {
  instance = is.instance ∙ ap (λ (o : Own). o.number) (sym same);
  no_less = subst (λ (o : Own). w.counter ≤ o.counter) (sym same) is.no_less;
  no_more = subst (λ (o : Own). o.counter ≤ w.counter + 1024) (sym same) is.no_more;
  hosted = is.hosted;
  hosts = is.hosts;
  hosting = hosting;
  media = subst (λ (o : Own). KeepsMedia w o.making b.files) (sym same) (media-in w (own_of x).making a.files b.files (media-after a b (copied-apart into named) effect) is.media);
  calm = calm-by (copied-apart into named) (copied-rows into named) effect is.calm;
  copied = copied-by a b is.hosted (spares-both into is.hosted spares) effect is.copied;
}
