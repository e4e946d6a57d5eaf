-- The pages of a database that lie in memory.
use Rattle.std.specs.Prelude.{◌≡◌, ℕ, Bool, true, false, List, Option, Some, slice_get, slice_set, All}
use Rattle.bk_pool.specs.declared.claim.Claim.{Claim}
use Rattle.bk_pool.specs.declared.claim.Claim.TheVariants.{Free, Spill}

-- what contracts see of a pool
pub record Pool : Type 0 where
  -- the bytes of each frame
  pub frames : List (List ℕ)
  -- the page that lies in each frame, by its file and number, if there is one
  pub pages : List (Option (ℕ × ℕ))
  -- whether it is dirty
  pub dirty : List Bool

-- a page lies in a frame
abbrev pub IsIn : List (Option (ℕ × ℕ)) → ℕ → ℕ → ℕ → Type 0
IsIn pages i file page = slice_get pages i ≡ Some (Some (file, page))

-- a page lies in no frame
abbrev pub IsAbsent : List (Option (ℕ × ℕ)) → ℕ → ℕ → Type 0
IsAbsent pages file page = (i : ℕ) → IsIn pages i file page → ⊥

-- a page lies in this frame and in no other
pub record IsFound (pages : List (Option (ℕ × ℕ))) (file page i : ℕ) : Type 0 where
  pub here : IsIn pages i file page
  pub alone : (j : ℕ) → IsIn pages j file page → j ≡ i

-- the frame was clean, and now the page lies there; all else is as it was
pub record Claims (old new : Pool) (file page i : ℕ) : Type 0 where
  pub clean : slice_get old.dirty i ≡ Some false
  pub pages : new.pages ≡ slice_set old.pages i (Some (file, page))
  pub dirty : new.dirty ≡ old.dirty
  pub frames : new.frames ≡ old.frames

-- every frame is dirty, and one of them holds this page
pub record IsFull (pool : Pool) (i file page : ℕ) : Type 0 where
  pub every : All (λ is_dirty. is_dirty ≡ true) pool.dirty
  pub here : IsIn pool.pages i file page

-- what a claim of a frame for a page does
abbrev pub Claimed : Pool → Pool → ℕ → ℕ → Claim → Type 0
Claimed old new file page (Free i) = Claims old new file page i
Claimed old new file page (Spill i other number) = IsFull old i other number × (new ≡ old)
