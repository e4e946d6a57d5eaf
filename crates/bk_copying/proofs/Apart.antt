-- What is done to a store, and then to a set.
use Rattle.std.proofs.Common.{ℕ, List, inl, inr}
use Rattle.bk_device.specs.Compose.{effect_follow, effect_widen}
use Rattle.bk_device.specs.Disk.{Disk, Files}
use Rattle.bk_device.specs.Effects.{Effect, IsName, MayLeaveOwn}
use Rattle.bk_facts.specs.declared.facts.DataFile.{DataFile}
use Rattle.bk_paged.specs.Names.{IsOwn}
use Rattle.bk_volume.specs.Staging.{Staging}
use Rattle.bk_copying.specs.Copying.{IsNamed, IsOfBoth}
use Rattle.bk_copying.specs.SetLaws.{own-apart}

-- what is done to the store, as done to both
pub of-store : {P : Files → Type 0} {a b : Disk} (db : ℕ) (files : List DataFile) (set : Staging) → Effect (IsOwn db files) P a b → Effect (IsOfBoth db files set) P a b
of-store db files set effect = effect_widen (λ name at. inl at) (λ image here left. here) effect

-- and then what is done to the set
pub then-set : {P Q : Files → Type 0} {a b c : Disk} (db : ℕ) (files : List DataFile) (set : Staging) → IsNamed set → ((image : Files) → MayLeaveOwn (IsOwn db files) b image → P image) → Effect (IsOfBoth db files set) P a b → Effect (IsName set.name) Q b c
    → Effect (IsOfBoth db files set) P a c
then-set db files set named stable first second =
    effect_follow first (λ name at. inr at) (λ image here left. stable image (λ name own. left name (λ is. own-apart db files set named name own is) (inl own))) second
