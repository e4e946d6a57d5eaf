-- How a row is spelled: its table in one byte, 1 backupset, 2 restorehistory, 3 logmarkhistory, and then its fields. Numbers have the lowest byte first, a text stands behind its length in two bytes, and
-- nothing stands behind them.
use Rattle.std.specs.Prelude.{◌≤◌, ◌<◌, ◌^◌, ◌==◌, ℕ, zero, suc, Bool, true, false, List, [], ◌∷◌, ◌++◌, length, Option, Some, None, unwrap_or, if◌then◌else◌}
use Rattle.bk_bytes.specs.Field.{bytes_of}
use Rattle.bk_bytes.specs.Codec.{◌>>=◌, Codec, IsString, number, number_at, string, followed, converted}
use Rattle.bk_fields.specs.Guids.{IsGuid, guid_bytes, guid_form}
use Rattle.bk_header.specs.Conditions.{IsHeader, KeepsConditions}
use Rattle.bk_header.specs.Reading.{header_form}
use Rattle.bk_header.specs.Spelling.{kind_number, spelling, text_bytes}
use Rattle.bk_world.specs.declared.header.SetKind.TheVariants.{Full, Log, File, Differential}
use Rattle.bk_world.specs.declared.msdb.BackupRow.{BackupRow}
use Rattle.bk_world.specs.declared.msdb.MarkRow.{MarkRow}
use Rattle.bk_world.specs.declared.msdb.RestoreKind.{RestoreKind}
use Rattle.bk_world.specs.declared.msdb.RestoreKind.TheVariants.{Set, Files, Pages}
use Rattle.bk_world.specs.declared.msdb.RestoreRow.{RestoreRow}
use Rattle.bk_machine.specs.declared.history_row.HistoryRow.{HistoryRow}
use Rattle.bk_machine.specs.declared.history_row.HistoryRow.TheVariants.{Backup, Restore, Mark}

-- ---- what a row keeps beside its types

-- the text of the stop has at most 65,535 bytes, if there is one
abbrev pub IsShortStop : Option (List ℕ) → Type 0
IsShortStop None = Unit {0}
IsShortStop (Some stop) = length stop ≤ 65535

-- the header of a backup keeps the conditions of one, and the stop of a restore is short
abbrev pub KeepsRow : HistoryRow → Type 0
KeepsRow (Backup row) = KeepsConditions row.header
KeepsRow (Restore row) = IsShortStop row.stop
KeepsRow (Mark row) = Unit {0}

-- ---- which have a spelling

pub record IsBackup (row : BackupRow) : Type 0 where
  pub position : row.position < 2 ^ 32
  pub header : IsHeader row.header

-- the stop is a text, if there is one
abbrev pub IsStop : Option (List ℕ) → Type 0
IsStop None = Unit {0}
IsStop (Some stop) = IsString 0 65535 stop

pub record IsRestore (row : RestoreRow) : Type 0 where
  pub time : row.time < 2 ^ 64
  pub database : IsString 1 64 row.database
  pub set : IsGuid row.set
  pub stop : IsStop row.stop

-- the description is a text of at least one byte, if there is one
abbrev pub IsDescription : Option (List ℕ) → Type 0
IsDescription None = Unit {0}
IsDescription (Some description) = IsString 1 65535 description

pub record IsMark (row : MarkRow) : Type 0 where
  pub database : IsString 1 64 row.database
  pub name : IsString 1 64 row.mark.name
  pub description : IsDescription row.mark.description
  pub lsn : row.lsn < 2 ^ 64
  pub time : row.time < 2 ^ 64

abbrev pub IsRow : HistoryRow → Type 0
IsRow (Backup row) = IsBackup row
IsRow (Restore row) = IsRestore row
IsRow (Mark row) = IsMark row

-- ---- its spelling

-- its position, and the header as in a set
abbrev pub backup_bytes : BackupRow → List ℕ
backup_bytes row = bytes_of 4 row.position ++ spelling row.header

-- a set's kind has its number in headers
abbrev pub kind_worth : RestoreKind → ℕ
kind_worth (Set kind) = kind_number kind
kind_worth Files = 6
kind_worth Pages = 7

abbrev pub flag : Bool → ℕ
flag true = 1
flag false = 0

-- a byte of 1 and the text, or a byte of 0 where there is none
abbrev pub stop_bytes : Option (List ℕ) → List ℕ
stop_bytes None = bytes_of 1 0
stop_bytes (Some stop) = bytes_of 1 1 ++ text_bytes stop

-- its time, its database, its set, what was restored, whether REPLACE was given, whether RECOVERY was asked for, and its stop
abbrev pub restore_bytes : RestoreRow → List ℕ
restore_bytes row =
    bytes_of 8 row.time ++ (text_bytes row.database ++ (guid_bytes row.set ++ (bytes_of 1 (kind_worth row.kind)
    ++ (bytes_of 1 (flag row.replace) ++ (bytes_of 1 (flag row.recovery) ++ stop_bytes row.stop)))))

-- the description's bytes, none where there is none
abbrev pub description_bytes : Option (List ℕ) → List ℕ
description_bytes description = unwrap_or description []

-- its database, its name and its description, the number of the commit record, and the time
abbrev pub mark_bytes : MarkRow → List ℕ
mark_bytes row =
    text_bytes row.database ++ (text_bytes row.mark.name ++ (text_bytes (description_bytes row.mark.description) ++ (bytes_of 8 row.lsn ++ bytes_of 8 row.time)))

-- the bytes of a row
unfoldable pub row_bytes : HistoryRow → List ℕ
row_bytes (Backup row) = bytes_of 1 1 ++ backup_bytes row
row_bytes (Restore row) = bytes_of 1 2 ++ restore_bytes row
row_bytes (Mark row) = bytes_of 1 3 ++ mark_bytes row

-- ---- how it is read

unfoldable pub backup_form : Codec BackupRow
backup_form = converted (followed (number 4) (λ _. header_form)) (λ x. Some (record { position = x.0; header = x.1 })) (λ row. (row.position, row.header)) IsBackup

abbrev pub kind_in : ℕ → Option RestoreKind
kind_in zero = None
kind_in (suc zero) = Some (Set Full)
kind_in (suc (suc zero)) = Some (Set Log)
kind_in (suc (suc (suc zero))) = None
kind_in (suc (suc (suc (suc zero)))) = Some (Set File)
kind_in (suc (suc (suc (suc (suc zero))))) = Some (Set Differential)
kind_in (suc (suc (suc (suc (suc (suc zero)))))) = Some Files
kind_in (suc (suc (suc (suc (suc (suc (suc zero))))))) = Some Pages
kind_in (suc (suc (suc (suc (suc (suc (suc (suc n)))))))) = None

unfoldable pub kind_form : Codec RestoreKind
kind_form = converted (number 1) kind_in kind_worth (λ _. Unit {0})

-- 1 or 0
abbrev pub flag_in : ℕ → Option Bool
flag_in zero = Some false
flag_in (suc zero) = Some true
flag_in (suc (suc n)) = None

unfoldable pub flag_form : Codec Bool
flag_form = converted (number 1) flag_in flag (λ _. Unit {0})

-- what stands behind the byte
abbrev pub stop_behind : ℕ → List ℕ → Option (Option (List ℕ) × List ℕ)
stop_behind zero bytes = Some (None, bytes)
stop_behind (suc zero) bytes = do
  stop ← (string 0 65535).reading bytes
  Some (Some stop.0, stop.1)
stop_behind (suc (suc kind)) bytes = None

-- a text behind a byte of 1, or a byte of 0
unfoldable pub stop_form : Codec (Option (List ℕ))
stop_form = record {
  spelling = stop_bytes;
  Fits = IsStop;
  reading = λ bytes. do
    kind ← number_at 1 bytes
    stop_behind kind.0 kind.1;
}

unfoldable pub restore_form : Codec RestoreRow
restore_form = converted
    (followed (number 8) (λ _. followed (string 1 64) (λ _. followed guid_form (λ _. followed kind_form (λ _. followed flag_form (λ _. followed flag_form (λ _. stop_form)))))))
    (λ x. Some (record { time = x.0; database = x.1.0; set = x.1.1.0; kind = x.1.1.1.0; replace = x.1.1.1.1.0; recovery = x.1.1.1.1.1.0; stop = x.1.1.1.1.1.1 }))
    (λ row. (row.time, (row.database, (row.set, (row.kind, (row.replace, (row.recovery, row.stop)))))))
    IsRestore

-- the description that these bytes are, none where there are none
abbrev pub description_in : List ℕ → Option (List ℕ)
description_in [] = None
description_in (byte ∷ bytes) = Some (byte ∷ bytes)

unfoldable pub description_form : Codec (Option (List ℕ))
description_form = converted (string 0 65535) (λ text. Some (description_in text)) description_bytes IsDescription

unfoldable pub mark_form : Codec MarkRow
mark_form = converted
    (followed (string 1 64) (λ _. followed (string 1 64) (λ _. followed description_form (λ _. followed (number 8) (λ _. number 8)))))
    (λ x. Some (record { database = x.0; mark = record { name = x.1.0; description = x.1.1.0 }; lsn = x.1.1.1.0; time = x.1.1.1.1 }))
    (λ row. (row.database, (row.mark.name, (row.mark.description, (row.lsn, row.time)))))
    IsMark

-- what stands behind the byte that tells the table
abbrev pub row_behind : ℕ → List ℕ → Option (HistoryRow × List ℕ)
row_behind zero bytes = None
row_behind (suc zero) bytes = do
  row ← backup_form.reading bytes
  Some (Backup row.0, row.1)
row_behind (suc (suc zero)) bytes = do
  row ← restore_form.reading bytes
  Some (Restore row.0, row.1)
row_behind (suc (suc (suc zero))) bytes = do
  row ← mark_form.reading bytes
  Some (Mark row.0, row.1)
row_behind (suc (suc (suc (suc table)))) bytes = None

unfoldable pub row_form : Codec HistoryRow
row_form = record {
  spelling = row_bytes;
  Fits = IsRow;
  reading = λ bytes. do
    table ← number_at 1 bytes
    row_behind table.0 table.1;
}

-- the row that all of these bytes spell
unfoldable pub read_row : List ℕ → Option HistoryRow
read_row bytes = do
  row ← row_form.reading bytes
  if length row.1 == 0 then Some row.0 else None
