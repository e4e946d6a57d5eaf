-- What the 8192 bytes of a page say. SQL Server: "Pages and extents architecture guide"; the layout is this project's own.
use Rattle.std.specs.Prelude.{ℕ, ◌+◌, ◌*◌, List, take, drop, replicate}
use Rattle.sha2.specs.Sha256.{sha256}
use Rattle.bk_bytes.specs.Field.{number_of, bytes_of, with_field}

-- n bytes from a place on
abbrev pub part : List ℕ → ℕ → ℕ → List ℕ
part page at n = take n (drop at page)

-- the number of the last log record that changed the page
abbrev pub lsn_of : List ℕ → ℕ
lsn_of page = number_of 8 (part page 0 8)

-- the page's number in its file
abbrev pub number_of_page : List ℕ → ℕ
number_of_page page = number_of 4 (part page 8 4)

-- the number of the page's file
abbrev pub file_of : List ℕ → ℕ
file_of page = number_of 2 (part page 12 2)

-- the digest that the page stores
abbrev pub digest_field : List ℕ → List ℕ
digest_field page = part page 32 32

-- the 128 bytes of the cell in a slot
abbrev pub cell_at : List ℕ → ℕ → List ℕ
cell_at page slot = part page (96 + 128 * slot) 128

-- the digest of a page: the SHA-256 of its bytes with zeros in place of the digest that it stores
unfoldable pub page_digest : List ℕ → List ℕ
page_digest page = sha256 (with_field page 32 (replicate 32 0))

-- the page with another LSN
abbrev pub with_lsn : List ℕ → ℕ → List ℕ
with_lsn page lsn = with_field page 0 (bytes_of 8 lsn)

-- the page with another cell in a slot
abbrev pub with_cell : List ℕ → ℕ → List ℕ → List ℕ
with_cell page slot image = with_field page (96 + 128 * slot) image

-- the page with its digest in its place
abbrev pub sealed : List ℕ → List ℕ
sealed page = with_field page 32 (page_digest page)

-- the page of a file and number before any log record
unfoldable pub fresh_page : ℕ → ℕ → List ℕ
fresh_page file number = sealed (with_field (with_field (replicate 8192 0) 8 (bytes_of 4 number)) 12 (bytes_of 2 file))
