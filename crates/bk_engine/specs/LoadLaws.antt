-- What an instance stands for while it is loaded, and what a crash leaves meanwhile.
use Rattle.std.proofs.Common.{◌≡◌, ◌⊎◌, inl, inr, ℕ, true, List, [], ◌∷◌, ◌++◌, map, Option, None, refl, sym, ap, subst, ◌∙◌}
use Rattle.std.proofs.lemmas.List.{append-nil}
use Rattle.std.specs.List.{AllByRecursion, AllZip}
use Rattle.bk_archive.specs.DiskLaws.{media-after}
use Rattle.bk_archive.specs.Media.{IsMediumFile, KeepsMedia, MediaAreDurable}
use Rattle.bk_archive.specs.MediaLaws.{SameFiles, media-in, media-on}
use Rattle.bk_device.specs.Compose.{effect_widen}
use Rattle.bk_device.specs.Disk.{Disk, Files, IsSettled}
use Rattle.bk_device.specs.Effects.{Effect, MayLeaveOwn}
use Rattle.bk_hosted.specs.Fronts.{Waits, settling}
use Rattle.bk_hosted.specs.Hosted.{Hosted, Hosts}
use Rattle.bk_hosting.specs.Hosting.{HoldsHosted, IsHosting, Kept, LeavesHosted, LosesWaiting, own_of}
use Rattle.bk_hosting.specs.Loading.{LeavesUndoing}
use Rattle.bk_kept.specs.Keeps.{session_of}
use Rattle.bk_machine.specs.Sound.{IsSound, has_begin}
use Rattle.bk_machine.specs.World.{World, opened}
use Rattle.bk_master.specs.declared.record.Own.{Own}
use Rattle.bk_stores.specs.Stores.{IsOurs as IsOfStores}
use Rattle.bk_volume.specs.Names.{medium_file}
use Rattle.bk_world.specs.declared.transaction.Open.{Open}
use Rattle.bk_world.specs.Records.{Logged}
use Rattle.bk_msdb.specs.Laws.{shows_same}
use Rattle.bk_msdb.specs.Msdb.{Shows, msdb_file}
use Rattle.bk_engine.specs.NameLaws.{staging-rows}
use Rattle.bk_engine.specs.CopiedLaws.{copied-settled}
use Rattle.bk_engine.specs.RowLaws.{calm-by, calm-media, calm-on}
use Rattle.bk_engine.specs.Rows.{IsCalm, KeepsBeside, rows_in}
use Rattle.bk_engine.specs.BesideLaws.{IsBeside, beside-rows, beside-store, hosting-stays, medium-apart, stores-keep}
use Rattle.bk_engine.specs.Loading.{HasFinishedAny, Opened, Stands}
use Rattle.bk_engine.specs.PartLaws.{calm-beside, media-beside, media-then, stores-wide}
use Rattle.bk_engine.specs.SettleLaws.{all-pend, all-settle, settled-pend, settled-settle}
use Rattle.bk_engine.specs.Stands.{IsOurs, IsStagingFile, Kept as KeptEngine, StandsFor}

-- ---- nothing waits where nothing is open

pub none-open : (n : ℕ) → has_begin [] n ≡ true → ⊥
none-open n is = cc

nothing-lost : (h front : Hosted) → h.transactions ≡ [] → LosesWaiting h front → front ≡ h
nothing-lost h front idle loses = by loses.lost loses.splits loses.waits
  where
    by : (lost : List Logged) → h.records ≡ front.records ++ lost → AllByRecursion (Waits h.transactions) lost → front ≡ h
    by [] splits waits = loses.same ∙ ap (λ (rs : List Logged). record h { records = rs }) (sym (splits ∙ append-nil front.records))
    by (r ∷ lost) splits waits = absurd (none-open r.begin (subst (λ (ts : List Open). has_begin ts r.begin ≡ true) idle waits.0.of_open))

pub none-lost : (hosted fronts : List Hosted) → AllByRecursion (λ (h : Hosted). h.transactions ≡ []) hosted → AllZip LosesWaiting hosted fronts → fronts ≡ hosted
none-lost [] [] idle lose = refl
none-lost [] (front ∷ fronts) idle lose = absurd lose
none-lost (h ∷ hosted) [] idle lose = absurd lose
none-lost (h ∷ hosted) (front ∷ fronts) idle lose =
    ap (λ (x : Hosted). x ∷ fronts) (nothing-lost h front idle.0 lose.0) ∙ ap (λ (xs : List Hosted). h ∷ xs) (none-lost hosted fronts idle.1 lose.1)

settled-idle : (hosted : List Hosted) → AllByRecursion (λ (h : Hosted). h.transactions ≡ []) (map settling hosted)
settled-idle [] = tt
settled-idle (h ∷ hosted) = (refl, settled-idle hosted)

-- ---- databases are opened

-- a crash meanwhile leaves files that stand for the same world
pub undoing-stands : (number : ℕ) (files image : Files) (w : World) → (is : Stands number files w) → LeavesUndoing number is.own is.hosted image → KeepsBeside w w is.own.making image → Stands number image w
undoing-stands number files image w is left beside = record {
  sound = is.sound;
  own = is.own;
  instance = is.instance;
  counter = is.counter;
  hosted = left.0;
  pends = all-pend is.hosted left.0 is.pends left.1;
  hosts = subst (Hosts w) (sym (all-settle is.hosted left.0 is.pends left.1)) is.hosts;
  holds = left.2;
  media = beside.media;
  rows = beside.rows;
  finished = is.finished;
}

all-calm : (a : Disk) (w : World) → IsSettled a → Shows a.files (rows_in w) → IsCalm a w
all-calm a w settled rows = record { media = λ path bytes. settled (medium_file path); rows = rows; durable = settled msdb_file }

pub load-crash : (number : ℕ) (a b : Disk) (w : World) → IsSettled a → (is : Stands number a.files w) → Effect IsOfStores (LeavesUndoing number is.own is.hosted) a b → Effect IsOurs (λ image. Stands number image w) a b
load-crash number a b w settled is effect =
    stores-wide (λ image left others. undoing-stands number a.files image w is left (media-then w is.own.making a image (all-calm a w settled is.rows) others is.media)) effect

-- once they are, they stand for it
pub load-opens : {P : Files → Type 0} (number : ℕ) (a b : Disk) (x : Kept) (w : World) → IsSettled a → (is : Stands number a.files w) → IsHosting b x (map settling is.hosted) → own_of x ≡ is.own → Effect IsOfStores P a b → Opened b x w
load-opens number a b x w settled is hosting own effect = record {
  sound = is.sound;
  instance = is.instance ∙ ap (λ (o : Own). o.number) (sym own);
  counter = is.counter ∙ ap (λ (o : Own). o.counter) (sym own);
  hosted = is.hosted;
  pends = is.pends;
  hosts = is.hosts;
  hosting = hosting;
  media = subst (λ (o : Own). KeepsMedia w o.making b.files) (sym own) (media-in w is.own.making a.files b.files (media-beside effect) is.media);
  finished = λ closed. ap (λ (o : Own). o.making) own ∙ is.finished closed;
  calm = calm-beside effect (all-calm a w settled is.rows);
}

-- ---- what was being made is finished or removed

-- a crash between two steps leaves files that stand for the world
pub opened-left : (number : ℕ) (a : Disk) (x : Kept) (w : World) (own : Own) (image : Files) → (is : Opened a x w) → own.number ≡ (own_of x).number → own.counter ≡ (own_of x).counter → (w.closed ≡ true → own.making ≡ None) → LeavesHosted own (map settling is.hosted) image → KeepsBeside w w own.making image → Stands number image w
opened-left number a x w own image is same_number same_counter finished left beside = record {
  sound = is.sound;
  own = own;
  instance = is.instance ∙ sym same_number;
  counter = is.counter ∙ sym same_counter;
  hosted = map settling is.hosted;
  pends = settled-pend is.hosted is.pends;
  hosts = subst (Hosts w) (sym (settled-settle is.hosted is.pends)) is.hosts;
  holds = inr (subst (HoldsHosted own image) (none-lost (map settling is.hosted) left.0 (settled-idle is.hosted) left.1) left.2);
  media = beside.media;
  rows = beside.rows;
  finished = finished;
}

-- so between two calls, and while what is done is done to stores
pub opened-crash : (number : ℕ) (a b : Disk) (x : Kept) (w : World) → (is : Opened a x w) → Effect IsOfStores (LeavesHosted (own_of x) (map settling is.hosted)) a b → Effect IsOurs (λ image. Stands number image w) a b
opened-crash number a b x w is effect = stores-wide (λ image left others. opened-left number a x w (own_of x) image is refl refl is.finished left (media-then w (own_of x).making a image is.calm others is.media)) effect

-- and while it is done to media or sets that are being written
pub beside-crash : {own : List ℕ → Type 0} {P : Files → Type 0} (number : ℕ) (a b : Disk) (x : Kept) (w : World) → (is : Opened a x w) → ((name : List ℕ) → own name → IsBeside name) → ((image : Files) → MayLeaveOwn IsOfStores a image → LeavesHosted (own_of x) (map settling is.hosted) image)
    → ((image : Files) → P image → ((name : List ℕ) → (own name → ⊥) → IsOurs name → a.may name (image name)) → KeepsMedia w (own_of x).making image) → Effect own P a b → Effect IsOurs (λ image. Stands number image w) a b
beside-crash number a b x w is within left media effect =
    effect_widen (λ name at. elim (within name at) [ inl medium ↦ inr (inl medium) | inr staging ↦ inr (inr (inl staging)) ]) (λ image done others.
    opened-left number a x w (own_of x) image is refl refl is.finished (left image (λ name store. others name (λ at. beside-store name (within name at) store) (inl store))) (record {
      media = media image done others;
      rows = shows_same a.files image (rows_in w) (is.calm.durable (image msdb_file) (others msdb_file (λ at. beside-rows (within msdb_file at)) (inr (inr (inr refl))))) is.calm.rows;
    })) effect

-- the media behind it, as the record names them and as one that names none does
pub record Cleared (disk : Disk) (x : Kept) (w : World) : Type 0 where
  pub opened : Opened disk x w
  pub media : KeepsMedia w None disk.files

-- a medium is finished
pub finished-opens : {P : Files → Type 0} (a b : Disk) (x : Kept) (w : World) → Opened a x w → HasFinishedAny (own_of x).making a.files b.files → MediaAreDurable b → Effect IsMediumFile P a b → Cleared b x w
finished-opens a b x w is finished calm effect = record {
  opened = record {
    sound = is.sound;
    instance = is.instance;
    counter = is.counter;
    hosted = is.hosted;
    pends = is.pends;
    hosts = is.hosts;
    hosting = hosting-stays x (map settling is.hosted) (stores-keep (λ name at. inl at) effect) is.hosting;
    media = (finished w is.media).0;
    finished = is.finished;
    calm = calm-media refl calm effect is.calm;
  };
  media = (finished w is.media).1;
}

-- a set that was being written is removed
pub removed-opens : {P : Files → Type 0} (a b : Disk) (x : Kept) (w : World) → Cleared a x w → Effect IsStagingFile P a b → Cleared b x w
removed-opens a b x w cleared effect =
    let is : Opened a x w = cleared.opened in
    let same : SameFiles a.files b.files = media-after a b medium-apart effect in
    record {
      opened = record {
        sound = is.sound;
        instance = is.instance;
        counter = is.counter;
        hosted = is.hosted;
        pends = is.pends;
        hosts = is.hosts;
        hosting = hosting-stays x (map settling is.hosted) (stores-keep (λ name at. inr at) effect) is.hosting;
        media = media-in w (own_of x).making a.files b.files same is.media;
        finished = is.finished;
        calm = calm-by medium-apart staging-rows effect is.calm;
      };
      media = media-in w None a.files b.files same cleared.media;
    }

pub removed-media : (a : Disk) (x : Kept) (w : World) (image : Files) → Opened a x w → ((name : List ℕ) → (IsStagingFile name → ⊥) → IsOurs name → a.may name (image name)) → KeepsMedia w (own_of x).making image
removed-media a x w image is others =
    media-in w (own_of x).making a.files image (λ path bytes. is.calm.media path bytes (image (medium_file path)) (others (medium_file path) (medium-apart path) (inr (inl (path, bytes, refl))))) is.media

-- ---- the record names none

pub cleared-opens : {P : Files → Type 0} (a b : Disk) (x y : Kept) (w : World) → (cleared : Cleared a x w) → (own_of y).number ≡ (own_of x).number → (own_of y).counter ≡ (own_of x).counter → (own_of y).making ≡ None → IsHosting b y (map settling cleared.opened.hosted) → Effect IsOfStores P a b → Opened b y w
cleared-opens a b x y w cleared number counter none hosting effect =
    let is : Opened a x w = cleared.opened in
    record {
      sound = is.sound;
      instance = is.instance ∙ sym number;
      counter = is.counter ∙ sym counter;
      hosted = is.hosted;
      pends = is.pends;
      hosts = is.hosts;
      hosting = hosting;
      media = subst (λ (making : Option (List ℕ)). KeepsMedia w making b.files) (sym none) (media-in w None a.files b.files (media-beside effect) cleared.media);
      finished = λ closed. none;
      calm = calm-beside effect is.calm;
    }

pub cleared-crash : (number : ℕ) (a b : Disk) (x : Kept) (w : World) (own : Own) → (cleared : Cleared a x w) → own.number ≡ (own_of x).number → own.counter ≡ (own_of x).counter → own.making ≡ None
    → Effect IsOfStores (λ image. LeavesHosted (own_of x) (map settling cleared.opened.hosted) image ⊎ LeavesHosted own (map settling cleared.opened.hosted) image) a b → Effect IsOurs (λ image. Stands number image w) a b
cleared-crash number a b x w own cleared same_number same_counter none effect =
    let is : Opened a x w = cleared.opened in
    stores-wide (λ image left others. elim left [
      | inl before ↦ opened-left number a x w (own_of x) image is refl refl is.finished before (media-then w (own_of x).making a image is.calm others is.media)
      | inr after ↦ opened-left number a x w own image is same_number same_counter (λ closed. none) after
          (subst (λ (making : Option (List ℕ)). KeepsBeside w w making image) (sym none) (media-then w None a image is.calm others cleared.media))
    ]) effect

-- ---- a run begins

-- what was opened, with no medium and no set in the making, stands for the world in which a run has begun
pub run-begins : (disk : Disk) (e : KeptEngine) (w : World) → (is : Opened disk e.hosting w) → IsSound (opened w) → Hosts (opened w) (map settling is.hosted) → (own_of e.hosting).making ≡ None → e.drawn ≡ (own_of e.hosting).counter → e.session ≡ 1 → e.sessions ≡ [] → StandsFor disk e (opened w)
unfolding opened rows_in
run-begins disk e w is sound hosts none drawn session sessions = record {
  sound = sound;
  instance = is.instance;
  counter = is.counter ∙ sym drawn;
  session = sym session;
  sessions = ap (map session_of) (sym sessions);
  hosted = map settling is.hosted;
  hosts = hosts;
  hosting = is.hosting;
  media = media-on w (opened w) None disk.files refl (λ path header in_it. refl) (subst (λ (making : Option (List ℕ)). KeepsMedia w making disk.files) none is.media);
  calm = calm-on refl is.calm;
  copied = copied-settled disk is.hosted;
}
