-- What is touched.
use Rattle.std.proofs.Common.{◌≡◌, inl, inr, ℕ, List, sym, subst}
use Rattle.bk_bytes.specs.Field.{AreBytes}
use Rattle.bk_device.specs.Calls.{ChangesNothing}
use Rattle.bk_device.specs.Compose.{effect_none, effect_widen}
use Rattle.bk_device.specs.Disk.{Disk, Files}
use Rattle.bk_device.specs.Effects.{Effect, IsName}
use Rattle.bk_device.specs.Laws.{nothing_yet}
use Rattle.bk_hosting.specs.Copying.{TouchesOursOr}
use Rattle.bk_msdb.specs.Msdb.{msdb_file}
use Rattle.bk_stores.specs.Stores.{TouchesOurs}
use Rattle.bk_volume.specs.Names.{medium_file}
use Rattle.bk_volume.specs.Staging.{Staging}
use Rattle.bk_engine.specs.Stands.{IsStagingFile}
use Rattle.bk_engine.specs.Touched.{TouchesOnly}

module _ {named : List ℕ → Type 0} where
  -- what is done to stores
  pub stores-touch : {a b : Disk} → TouchesOurs a b → TouchesOnly named a b
  stores-touch effect = effect_widen (λ name own. inl own) (λ image left others. tt) effect

  -- to a set that is being written
  pub set-touch : {P : Files → Type 0} {a b : Disk} → Effect IsStagingFile P a b → TouchesOnly named a b
  set-touch effect = effect_widen (λ name own. inr (inl own)) (λ image left others. tt) effect

  pub staged-touch : {P : Files → Type 0} {a b : Disk} (file : List ℕ) → IsStagingFile file → Effect (IsName file) P a b → TouchesOnly named a b
  staged-touch file is effect = effect_widen (λ name own. inr (inl (subst IsStagingFile (sym own) is))) (λ image left others. tt) effect

  -- to a store and to a set
  pub copied-touch : {a b : Disk} (into : Staging) → IsStagingFile into.name → TouchesOursOr into a b → TouchesOnly named a b
  copied-touch into is effect = effect_widen (λ name own. elim own [
    | inl store ↦ inl store
    | inr same ↦ inr (inl (subst IsStagingFile (sym same) is))
  ]) (λ image left others. tt) effect

  -- to a medium
  pub medium-touch : {P : Files → Type 0} {a b : Disk} (path : List ℕ) → named path → AreBytes path → Effect (IsName (medium_file path)) P a b → TouchesOnly named a b
  medium-touch path is bytes effect = effect_widen (λ name own. inr (inr (inl (path, is, bytes, own)))) (λ image left others. tt) effect

  -- to the rows of msdb
  pub rows-touch : {P : Files → Type 0} {a b : Disk} → Effect (IsName msdb_file) P a b → TouchesOnly named a b
  rows-touch effect = effect_widen (λ name own. inr (inr (inr own))) (λ image left others. tt) effect

  -- nothing is done
  pub rest-touch : {D : Type 0} (disk : D → Disk) (x y : D) → y ≡ x → TouchesOnly named (disk x) (disk y)
  rest-touch disk x y same = subst (λ d. TouchesOnly named (disk x) (disk d)) (sym same) (effect_none (disk x) (λ image left. tt))

-- so nothing is changed
pub rest-still : {D : Type 0} (disk : D → Disk) (x y : D) → y ≡ x → ChangesNothing (disk x) (disk y)
rest-still disk x y same = subst (λ d. ChangesNothing (disk x) (disk d)) (sym same) (nothing_yet (disk x))

-- of more media
pub wider-touch : {part whole : List ℕ → Type 0} {a b : Disk} → ((path : List ℕ) → part path → whole path) → TouchesOnly part a b → TouchesOnly whole a b
wider-touch within effect = effect_widen (λ name own. elim own [
  | inl store ↦ inl store
  | inr other ↦ elim other [
    | inl set ↦ inr (inl set)
    | inr last ↦ elim last [
      | inl medium ↦ inr (inr (inl (medium.0, within medium.0 medium.1, medium.2, medium.3)))
      | inr rows ↦ inr (inr (inr rows))
    ]
  ]
]) (λ image left others. tt) effect
