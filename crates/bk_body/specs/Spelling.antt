-- How a backup set is spelled. SQL Server: "BACKUP (Transact-SQL)"; the layout is this project's own.
use Rattle.std.specs.Prelude.{ℕ, List, ◌++◌, length}
use Rattle.std.specs.List.{flat_map}
use Rattle.bk_world.specs.declared.database.TableSpec.{TableSpec}
use Rattle.bk_world.specs.declared.header.Header.{Header}
use Rattle.bk_bytes.specs.Field.{bytes_of}
use Rattle.bk_header.specs.Spelling.{text_bytes, spelling}
use Rattle.bk_body.specs.Body.{Extent, Body}
use Rattle.sha2.specs.Sha256.{sha256}

-- a table: its number, its name, and its filegroup
abbrev pub table_bytes : TableSpec → List ℕ
table_bytes table = bytes_of 4 table.number ++ (text_bytes table.name ++ bytes_of 1 table.group)

-- a log: its length in 8 bytes, and its bytes
abbrev pub log_bytes : List ℕ → List ℕ
log_bytes log = bytes_of 8 (length log) ++ log

-- the front of a set: its header, the tables behind their number, and the number of extents
unfoldable pub front_bytes : Header → List TableSpec → ℕ → List ℕ
front_bytes header tables count = spelling header ++ ((bytes_of 2 (length tables) ++ flat_map table_bytes tables) ++ bytes_of 4 count)

-- an extent: its file, its number, and its pages
abbrev pub extent_bytes : Extent → List ℕ
extent_bytes extent = bytes_of 2 extent.file ++ (bytes_of 4 extent.extent ++ extent.bytes)

-- the front, the extents, and the log behind its length
unfoldable pub body_bytes : Body → List ℕ
body_bytes body = front_bytes body.header body.tables (length body.extents) ++ (flat_map extent_bytes body.extents ++ log_bytes body.log)

-- the body, and the digest of its bytes
abbrev pub set_bytes : Body → List ℕ
set_bytes body = body_bytes body ++ sha256 (body_bytes body)
