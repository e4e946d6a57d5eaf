-- The pages of data files, and a batch of pages that counts over them.
use Rattle.std.specs.Prelude.{◌≡◌, ◌*◌, ◌/◌, ◌==◌, ◌&&◌, ℕ, zero, suc, Bool, List, [], ◌∷◌, length, take, drop, Option, nat_eq, if◌then◌else◌}
use Rattle.std.specs.Option.{option_map_or}
use Rattle.bk_bytes.specs.Field.{number_of}
use Rattle.bk_device.specs.Calls.{contents, read_at}
use Rattle.bk_device.specs.Disk.{Files}
use Rattle.bk_gate.specs.Blobs.{sealed}
use Rattle.bk_page.specs.Page.{digest_field, page_digest}
use Rattle.bk_side.specs.Names.{name_of}

-- what a data file holds, nothing where there is none of that number
abbrev pub content_of : List (List ℕ) → Files → ℕ → List ℕ
content_of names files file = option_map_or (λ name. contents (files name)) (name_of names file) []

-- the bytes of a page in a file; under 8192 of them where the file ends before
abbrev pub page_in : List ℕ → ℕ → List ℕ
page_in content page = read_at content (8192 * page) 8192

-- the same by the page's file and number
abbrev pub page_of : List (List ℕ) → Files → ℕ × ℕ → List ℕ
page_of names files at = page_in (content_of names files at.0) at.1

-- an entry of a batch: a page by its file and number, and its bytes
abbrev pub Entry : Type 0
Entry = (ℕ × ℕ) × List ℕ

-- whether two are the same page
abbrev pub page_eq : ℕ × ℕ → ℕ × ℕ → Bool
page_eq a b = nat_eq a.0 b.0 && nat_eq a.1 b.1

-- the entry in some bytes: the file in 2 bytes, the page in 4, and the page's 8192 bytes
unfoldable pub entry_of : List ℕ → Entry
entry_of bytes = ((number_of 2 bytes, number_of 4 (drop 2 bytes)), take 8192 (drop 6 bytes))

-- n entries of 8198 bytes each
abbrev pub entries_in : ℕ → List ℕ → List Entry
entries_in zero bytes = []
entries_in (suc n) bytes = entry_of bytes ∷ entries_in n (drop 8198 bytes)

-- the entries in some bytes
unfoldable pub entries_of : List ℕ → List Entry
entries_of bytes = entries_in (length bytes / 8198) bytes

-- what a batch makes of a page: its last entry for it counts, where the page is whole
abbrev pub batched : List Entry → ℕ × ℕ → List ℕ → List ℕ
batched [] at page = page
batched (e ∷ batch) at page = batched batch at (if page_eq e.0 at && length page == 8192 then e.1 else page)

-- the first sealed blob is the batch
abbrev pub first_batch : List (List ℕ) → List Entry
first_batch [] = []
first_batch (blob ∷ blobs) = entries_of blob

unfoldable pub batch_of : Option (List ℕ) → List Entry
batch_of file = first_batch (sealed file)

-- a page as it counts: that of its data file, under the batch that is sealed in the side file
abbrev pub shown : List ℕ → List (List ℕ) → Files → ℕ × ℕ → List ℕ
shown side names files at = batched (batch_of (files side)) at (page_of names files at)

-- the files show these pages
pub record Shows (side : List ℕ) (names : List (List ℕ)) (given : ℕ × ℕ → List ℕ) (files : Files) : Type 0 where
  pub pages : (at : ℕ × ℕ) → shown side names files at ≡ given at

-- the page is whole, and stores the digest of its bytes
pub record IsSound (page : List ℕ) : Type 0 where
  pub whole : length page ≡ 8192
  pub digest : digest_field page ≡ page_digest page
