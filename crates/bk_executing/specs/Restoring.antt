-- What a whole restore parks, and what it is told of its set.
-- SQL Server: RESTORE (Transact-SQL).
use Rattle.std.specs.Prelude.{ℕ, List}
use Rattle.bk_hosted.specs.Hosted.{set_storage}
use Rattle.bk_known.specs.declared.known.DatabaseSpec.{DatabaseSpec}
use Rattle.bk_known.specs.declared.known.Known.{Known}
use Rattle.bk_media_plans.specs.Found.{Found}
use Rattle.bk_volume.specs.Stored.{Stored}
use Rattle.bk_world.specs.declared.database.TableSpec.{TableSpec}
use Rattle.bk_world.specs.declared.header.Header.{Header}

-- the description of a set's database under a name
abbrev pub spec_in : List ℕ → Header → DatabaseSpec
spec_in name header = record { name = name; family = header.family; path = header.path; storage = set_storage header }

-- what is known of it as of the set's end, where it has these tables
abbrev pub known_in : List ℕ → Header → List TableSpec → Known
known_in name header made = record { spec = spec_in name header; as_of = record { from = header.last; tables = made; model = header.model; time = header.finish } }

-- the set that was opened, with its log
abbrev pub found_of : Stored → List ℕ → Found
found_of stored log = record { header = stored.header; tables = stored.tables; log = log }

-- and under another header
abbrev pub found_under : Header → Stored → List ℕ → Found
found_under header stored log = record { header = header; tables = stored.tables; log = log }
