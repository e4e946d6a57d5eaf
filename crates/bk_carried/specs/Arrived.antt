-- The database that a full set makes, before what its recovery says.
-- SQL Server: "Complete Database Restores (Full Recovery Model)".
use Rattle.std.specs.Prelude.{◌≡◌, ◌≤◌, ◌<◌, ℕ, List, length, map}
use Rattle.bk_body.specs.Body.{Body}
use Rattle.bk_bytes.specs.Codec.{IsString}
use Rattle.bk_fields.specs.Guids.{IsGuid}
use Rattle.bk_hosted.specs.Hosted.{restoring, set_log}
use Rattle.bk_known.specs.declared.known.DatabaseSpec.{DatabaseSpec}
use Rattle.bk_known.specs.declared.known.Known.{Known}
use Rattle.bk_machine.specs.Acts.{Recovery}
use Rattle.bk_machine.specs.Checks.{most_branches}
use Rattle.bk_machine.specs.World.{World}
use Rattle.bk_restored.specs.RestoringArriving.{Kept}
use Rattle.bk_restored.specs.StoreTold.{Told, data_file, files_of}
use Rattle.bk_world.specs.declared.header.Header.{Header}

-- the description of the database behind the restore, with the set's log
abbrev pub arrived : World → List ℕ → Header → Recovery → List ℕ → Told
arrived w name header r note = record { spec = (restoring (set_log w header) name header r).spec; note = note; records = set_log w header }

-- what its note says: tables, model and last time at the set's end
abbrev pub known_of : DatabaseSpec → Body → Known
known_of spec body = record {
  spec = spec;
  as_of = record { from = body.header.last; tables = body.tables; model = body.header.model; time = body.header.finish };
}

-- A restore may name a database so: it has a branch of its own at the set's end, and its note is short.
pub record MayName (name : List ℕ) (header : Header) (r : Recovery) (note : List ℕ) : Type 0 where
  pub named : IsString 1 64 name
  pub branch : IsGuid r.branch
  pub at_end : r.at ≡ header.last
  pub room : length header.path < most_branches
  pub short : length note ≤ 12288

-- A database arrives with the data files of this one, and a log from this number on.
pub record IsFor (a : Kept) (first : ℕ) (told : Told) : Type 0 where
  pub files : a.filling.files ≡ map data_file (files_of told)
  pub kept : a.log.kept ≡ first
