-- Pages of a database as they are copied: each is as of the end.
use Rattle.std.proofs.Common.{◌≡◌, ℕ, List, [], sym, subst, arith}
use Rattle.std.specs.Prelude.{slice_index_or}
use Rattle.bk_device.specs.Disk.{Disk}
use Rattle.bk_page.specs.Page.{sealed}
use Rattle.bk_paths.specs.PageLaws.{page_last}
use Rattle.bk_paths.specs.Pages.{IsPage}
use Rattle.bk_paths.specs.Paths.{end_of}
use Rattle.bk_pool.specs.Pool.{IsIn}
use Rattle.bk_redo.specs.declared.place.PageAt.{PageAt}
use Rattle.bk_redo.specs.PageStates.{page_of}
use Rattle.bk_side.specs.Side.{pages_of}
use Rattle.bk_paged.specs.Holds.{IsStored, Stood}
use Rattle.bk_paged.specs.Names.{IsThere, shown_at}
use Rattle.bk_paged.specs.Paged.{IsDirty, IsPaged, Kept, sealed_count}
use Rattle.bk_paged.proofs.Fetching.{side_shown, there_too}
use Rattle.bk_paged.proofs.Writing.{sealed_last}

-- what lies in a frame, with its digest
pub changed_stored : (p : Kept) (stood : Stood) (a : Disk) (at : PageAt) (i : ℕ) (bytes : List ℕ) → IsPaged a p stood → IsIn p.pool.pages i at.file at.page → bytes ≡ sealed (slice_index_or p.pool.frames i []) → IsStored stood.records (end_of stood.records) at bytes
changed_stored p stood a at i bytes is here same =
    subst (IsStored stood.records (end_of stood.records) at) (sym same) (sealed_last stood.records at (slice_index_or p.pool.frames i []) (is.frames i at here).1)

-- what its data file holds, where it lies in no dirty frame
pub clean_stored : (p : Kept) (stood : Stood) (a : Disk) (at : PageAt) → IsPaged a p stood → IsThere p.facts.files at → (IsDirty p.pool at → ⊥) → IsStored stood.records (end_of stood.records) at (pages_of p.side a.files (at.file, at.page))
clean_stored p stood a at is there not_dirty =
    let here : IsThere stood.files at = there_too p stood a at is there in
    let old : List ℕ = shown_at p.log.db stood.files a.files at in
    let stored = (is.recovers (sealed_count p) (omega arith)).pages at here in
    let last : IsPage stood.records (end_of stood.records) at (page_of old) = subst (IsPage stood.records (end_of stood.records) at) (sym (is.clean at here not_dirty)) (page_last stood.records (end_of stood.records) at (omega arith)) in
    subst (IsStored stood.records (end_of stood.records) at) (sym (side_shown p stood a is at)) (record { sound = stored.sound; place = stored.place; is_page = last })
