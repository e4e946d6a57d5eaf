-- What calls, or a whole layer, did to a device.
use Rattle.std.specs.Prelude.{◌≡◌, ◌⊎◌, ◌≤◌, ℕ, List, [], ◌∷◌, Option}
use Rattle.bk_device.specs.Calls.{Elapses}
use Rattle.bk_device.specs.Disk.{Files, Disk}

-- these files, under the names that a layer owns, may be left of the disk by a crash now
abbrev pub MayLeaveOwn : (List ℕ → Type 0) → Disk → Files → Type 0
MayLeaveOwn own disk image = (name : List ℕ) → own name → disk.may name (image name)

-- the same under the other names
abbrev pub MayLeaveOthers : (List ℕ → Type 0) → Disk → Files → Type 0
MayLeaveOthers own disk image = (name : List ℕ) → (own name → ⊥) → disk.may name (image name)

-- this name alone
abbrev pub IsName : List ℕ → List ℕ → Type 0
IsName name other = other ≡ name

-- Own names alone were touched, nothing was told, and a crash meanwhile or now leaves files that have P.
pub record Effect (own : List ℕ → Type 0) (P : Files → Type 0) (old new : Disk) : Type 0 where
  -- other names: what a read gives is the same, and a crash may leave nothing more of them
  pub others : (name : List ℕ) → (own name → ⊥) → new.files name ≡ old.files name
  pub others_left : (name : List ℕ) → (own name → ⊥) → (content : Option (List ℕ)) → new.may name content → old.may name content
  pub told : new.told ≡ old.told
  -- what a crash now may leave
  pub now : (image : Files) → MayLeaveOwn own new image → P image
  -- what a crash at some moment left
  pub time : Elapses old new (λ image heard. P image × MayLeaveOthers own old image × (heard ≡ old.told))

-- Under these names a read gives the same, and a crash may leave nothing more.
pub record KeepsFiles (names : List ℕ → Type 0) (old new : Disk) : Type 0 where
  pub same : (name : List ℕ) → names name → new.files name ≡ old.files name
  pub nothing_more : (name : List ℕ) → names name → (content : Option (List ℕ)) → new.may name content → old.may name content

-- Each crash at this moment or later left files and told bytes that have Q.
pub record LeavesSince (entry : ℕ) (Q : Files → List ℕ → Type 0) (disk : Disk) : Type 0 where
  pub later : entry ≤ disk.moment
  pub each : (image : Files) (heard : List ℕ) → disk.left entry image heard → Q image heard

-- the files stand for one of these
abbrev pub Among : {W : Type 0} → (W → Files → Type 0) → List W → Files → Type 0
Among stands [] image = ⊥
Among stands (world ∷ worlds) image = stands world image ⊎ Among stands worlds image
