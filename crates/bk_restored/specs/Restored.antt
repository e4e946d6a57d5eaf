-- A database that has arrived, by the machine's records.
-- SQL Server: "Complete Database Restores (Full Recovery Model)"; "Restore and Recovery Overview", data copy and redo.
use Rattle.std.specs.Prelude.{◌≡◌, ℕ, List}
use Rattle.bk_ids.specs.declared.record.Rec.{Rec}
use Rattle.bk_known.specs.declared.known.Known.{Known}
use Rattle.bk_restoring.specs.Arriving.{Kept, Suffices}
use Rattle.bk_reopening.specs.StoreTold.{IsLogIn, IsNoted, Told, files_of, stood_of}

-- Pages and records are enough for a database of the machine's records: its note says what is known of it, its log lies in its files, and they are enough for what its store keeps.
pub record SufficesTold (a : Kept) (checkpoint : ℕ) (note : List ℕ) (given : ℕ × ℕ → List ℕ) (records : List Rec) (known : Known) (told : Told) : Type 0 where
  pub noted : IsNoted known told
  pub log : IsLogIn (files_of told) told.records
  pub same_note : told.note ≡ note
  pub suffices : Suffices a checkpoint (stood_of known told).note given records (stood_of known told)
