-- What a pool keeps of its parts.
use Rattle.std.specs.Prelude.{◌≡◌, ℕ, Bool, true, ◌&&◌, List, Option, None, Some, length, slice_get, nat_eq, if◌then◌else◌}
use Rattle.bk_pool.specs.Pool.{IsIn}

-- whether two are the same page
abbrev pub page_eq : ℕ × ℕ → ℕ × ℕ → Bool
page_eq a b = nat_eq a.0 b.0 && nat_eq a.1 b.1

-- a frame holds a page
abbrev pub HoldsPage : List (Option (ℕ × ℕ)) → ℕ → Type 0
HoldsPage pages i = (file : ℕ) × (page : ℕ) × IsIn pages i file page

-- what the index leads to the frame of each page
abbrev pub Leads : (ℕ × ℕ → Option ℕ) → List (Option (ℕ × ℕ)) → Type 0
Leads index pages = (i file page : ℕ) → IsIn pages i file page → index (file, page) ≡ Some i

-- an index that leads no longer to a page that went, if one did
abbrev pub without : (ℕ × ℕ → Option ℕ) → Option (ℕ × ℕ) → ℕ × ℕ → Option ℕ
without index None q = index q
without index (Some old) q = if page_eq old q then None else index q

-- in place of one page an index leads to another in a frame
abbrev pub Notes : (ℕ × ℕ → Option ℕ) → (ℕ × ℕ → Option ℕ) → Option (ℕ × ℕ) → ℕ × ℕ → ℕ → Type 0
Notes before after old page i = (q : ℕ × ℕ) → after q ≡ (if page_eq page q then Some i else without before old q)

-- each page lies in one frame, a dirty frame holds a page, and where the index is whole it leads to all of them
pub record IsSound (pages : List (Option (ℕ × ℕ))) (dirty used : List Bool) (index : ℕ × ℕ → Option ℕ) (is_whole : Bool) : Type 0 where
  pub marks : length dirty ≡ length pages
  pub uses : length used ≡ length pages
  pub held : (i : ℕ) → slice_get dirty i ≡ Some true → HoldsPage pages i
  pub once : (i j file page : ℕ) → IsIn pages i file page → IsIn pages j file page → j ≡ i
  pub leads : is_whole ≡ true → Leads index pages
