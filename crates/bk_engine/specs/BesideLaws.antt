-- What is done to media, and to sets that are being written, leaves the hosted databases.
use Rattle.std.proofs.Common.{◌⊎◌, inl, inr, ℕ, List, sym, subst}
use Rattle.bk_archive.specs.Media.{IsMediumFile}
use Rattle.bk_device.specs.Compose.{keeps_by_effect}
use Rattle.bk_device.specs.Disk.{Disk, Files}
use Rattle.bk_device.specs.Effects.{Effect, KeepsFiles}
use Rattle.bk_hosted.specs.Hosted.{Hosted}
use Rattle.bk_hosting.specs.Hosting.{IsHosting, Kept}
use Rattle.bk_master.specs.Laws.{master_kept}
use Rattle.bk_stores.specs.StandLaws.{standing-kept}
use Rattle.bk_stores.specs.Standing.{AreStanding}
use Rattle.bk_stores.specs.StoreLaws.{physical-kept}
use Rattle.bk_stores.specs.Stores.{IsOurs as IsOfStores, Kept as KeptStores}
use Rattle.bk_volume.specs.Laws.{staging_apart}
use Rattle.bk_volume.specs.Names.{medium_file}
use Rattle.bk_msdb.specs.Msdb.{msdb_file}
use Rattle.bk_engine.specs.NameLaws.{medium-rows, staging-rows, store-medium, store-staging}
use Rattle.bk_engine.specs.Stands.{IsStagingFile}

-- a name of a medium, or of a set that is being written
abbrev pub IsBeside : List ℕ → Type 0
IsBeside name = IsMediumFile name ⊎ IsStagingFile name

-- which is no store's
pub beside-store : (name : List ℕ) → IsBeside name → IsOfStores name → ⊥
beside-store name (inl medium) store = store-medium medium.0 (subst IsOfStores medium.2 store)
beside-store name (inr staging) store = store-staging name staging store

-- nor that of the rows of msdb
pub beside-rows : IsBeside msdb_file → ⊥
beside-rows (inl medium) = medium-rows medium
beside-rows (inr staging) = staging-rows staging

-- and no medium's is a set's
pub medium-apart : (path : List ℕ) → IsStagingFile (medium_file path) → ⊥
medium-apart path staging = staging_apart path staging.0 (sym staging.1)

narrow : {own part : List ℕ → Type 0} {a b : Disk} → ((name : List ℕ) → part name → own name) → KeepsFiles own a b → KeepsFiles part a b
narrow within keeps = record { same = λ name at. keeps.same name (within name at); nothing_more = λ name at. keeps.nothing_more name (within name at) }

-- each file of the stores is as it was
pub stores-keep : {own : List ℕ → Type 0} {P : Files → Type 0} {a b : Disk} → ((name : List ℕ) → own name → IsBeside name) → Effect own P a b → KeepsFiles IsOfStores a b
stores-keep within effect = keeps_by_effect (λ name store own. beside-store name (within name own) store) effect

-- then the stores stand as before
pub stores-stand : {a b : Disk} (s : KeptStores) → KeepsFiles IsOfStores a b → AreStanding a s → AreStanding b s
stores-stand s keeps is = record {
  master = master_kept (narrow (λ name at. inl at) keeps) is.master;
  numbers = is.numbers;
  stores = record {
    each = λ i store there. let one = is.stores.each i store there in (
      one.0,
      one.1,
      record {
        number = one.2.number;
        fit = one.2.fit;
        standing = physical-kept store.paged (narrow (λ name at. inr (store.paged.log.db, store.paged.facts.files, at)) keeps) one.2.standing;
      },
    );
    beside = is.stores.beside;
  };
}

-- and the databases are hosted as before
pub hosting-stays : {a b : Disk} (x : Kept) (hosted : List Hosted) → KeepsFiles IsOfStores a b → IsHosting a x hosted → IsHosting b x hosted
hosting-stays x hosted keeps is = record {
  tolds = is.tolds;
  stores = record {
    master = master_kept (narrow (λ name at. inl at) keeps) is.stores.master;
    standing = standing-kept x.stores.master.record x.stores.slots is.tolds (λ db files. narrow (λ name at. inr (db, files, at)) keeps) is.stores.standing;
  };
  stored = is.stored;
  tells = is.tells;
  states = is.states;
  waits = is.waits;
  some = is.some;
}
