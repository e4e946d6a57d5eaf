-- What one call does to a device, and what a crash during it or after it may leave.
use Rattle.std.specs.Prelude.{◌≡◌, ◌≢◌, ◌⊎◌, ◌<◌, ◌≤◌, ℕ, ◌+◌, max, List, [], ◌++◌, length, take, drop, Option, None, Some, unwrap_or, slice_index, option_map}
use Rattle.bk_device.specs.Disk.{Files, Disk, MayLeave}

-- the bytes of a file, none where it is absent
abbrev pub contents : Option (List ℕ) → List ℕ
contents file = unwrap_or file []

-- a content with these bytes at this offset
abbrev pub written : List ℕ → ℕ → List ℕ → List ℕ
written content at bytes = take at content ++ bytes ++ drop (at + length bytes) content

-- the bytes that a read from this offset gives to a buffer of that length
abbrev pub read_at : List ℕ → ℕ → ℕ → List ℕ
read_at content at room = take room (drop at content)

-- a buffer whose front has been read
abbrev pub filled : List ℕ → List ℕ → List ℕ
filled buffer front = front ++ drop (length front) buffer

-- a content after a write of n bytes that a crash may have cut short: any bytes in the range and past the old end
pub record IsTorn (at n : ℕ) (before after : List ℕ) : Type 0 where
  pub outside : (k : ℕ) → k < length before → (k < at) ⊎ (at + n ≤ k) → slice_index after k ≡ slice_index before k
  pub no_shorter : length before ≤ length after
  pub no_longer : length after ≤ max (length before) (at + n)

-- What a crash may leave of a file, by a call on it: before is what might have been left without the call.

abbrev pub LeavesWrite : ℕ → ℕ → Option (List ℕ) → Option (List ℕ) → Type 0
LeavesWrite at n before after = (after ≡ before) ⊎ ((content : List ℕ) × (after ≡ Some content) × IsTorn at n (contents before) content)

abbrev pub LeavesCut : ℕ → Option (List ℕ) → Option (List ℕ) → Type 0
LeavesCut len before after = (after ≡ before) ⊎ (after ≡ option_map (take len) before)

abbrev pub LeavesRemoval : Option (List ℕ) → Option (List ℕ) → Type 0
LeavesRemoval before after = (after ≡ before) ⊎ (after ≡ None)

abbrev pub LeavesSame : Option (List ℕ) → Option (List ℕ) → Type 0
LeavesSame before after = after ≡ before

-- Time goes on: a crash since some moment left what it might have left before, or what it may leave from now on.
pub record Elapses (old new : Disk) (Now : Files → List ℕ → Type 0) : Type 0 where
  pub later : old.moment ≤ new.moment
  pub nothing_else : (since : ℕ) (image : Files) (heard : List ℕ) → since ≤ old.moment → new.left since image heard → old.left since image heard ⊎ Now image heard
  pub nothing_forgotten : (since : ℕ) (image : Files) (heard : List ℕ) → since ≤ old.moment → old.left since image heard → new.left since image heard

-- a call on one file, by what a crash in it or after it may leave of that file
pub record CallsOn (name : List ℕ) (leaves : Option (List ℕ) → Option (List ℕ) → Type 0) (old new : Disk) : Type 0 where
  pub others : (other : List ℕ) → other ≢ name → new.files other ≡ old.files other
  pub others_left : (other : List ℕ) (content : Option (List ℕ)) → other ≢ name → new.may other content → old.may other content
  pub left : (after : Option (List ℕ)) → new.may name after → (before : Option (List ℕ)) × old.may name before × leaves before after
  pub told : new.told ≡ old.told
  pub time : Elapses old new (λ image heard. MayLeave new image × (heard ≡ old.told))

-- a call that changes nothing
pub record ChangesNothing (old new : Disk) : Type 0 where
  pub files : (name : List ℕ) → new.files name ≡ old.files name
  pub nothing_more : (name : List ℕ) (content : Option (List ℕ)) → new.may name content → old.may name content
  pub told : new.told ≡ old.told
  pub time : Elapses old new (λ image heard. MayLeave new image × (heard ≡ old.told))

-- the bytes told are the old ones and a front of these
abbrev pub TellsFront : List ℕ → List ℕ → List ℕ → Type 0
TellsFront bytes before after = (n : ℕ) × (after ≡ before ++ take n bytes)

-- a call that tells these bytes: a crash in it may leave a front of them told
pub record TellsBytes (bytes : List ℕ) (old new : Disk) : Type 0 where
  pub files : (name : List ℕ) → new.files name ≡ old.files name
  pub nothing_more : (name : List ℕ) (content : Option (List ℕ)) → new.may name content → old.may name content
  pub front : TellsFront bytes old.told new.told
  pub time : Elapses old new (λ image heard. MayLeave new image × TellsFront bytes old.told heard)
