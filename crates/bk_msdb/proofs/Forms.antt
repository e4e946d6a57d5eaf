-- A row that is spelled is read back.
use Rattle.std.proofs.Common.{◌≡◌, ◌<◌, ◌^◌, ℕ, zero, suc, Bool, true, false, List, [], ◌∷◌, ◌++◌, Option, Some, None, refl, sym, ap, subst, ◌∙◌, arith, append_assoc, lit<}
use Rattle.std.proofs.lemmas.List.{append-nil}
use Rattle.std.proofs.lemmas.Str.{IsUtf8-nil}
use Rattle.std.proofs.lemmas.Option.{same_Some}
use Rattle.bk_bytes.specs.Field.{AreBytes, bytes_of}
use Rattle.bk_bytes.specs.Codec.{IsCodec, IsString, number, string}
use Rattle.bk_bytes.specs.CodecLaws.{AreBytes-after, bind_some, number-IsCodec, string-IsCodec, followed-IsCodec, converted-IsCodec}
use Rattle.bk_fields.specs.Guids.{guid_form}
use Rattle.bk_fields.specs.Laws.{guid_form-IsCodec}
use Rattle.bk_header.specs.Laws.{header_form-IsCodec, header_form-spelling}
use Rattle.bk_header.specs.Reading.{header_form}
use Rattle.bk_header.specs.Spelling.{text_bytes}
use Rattle.bk_world.specs.declared.header.SetKind.TheVariants.{Full, Log, File, Differential}
use Rattle.bk_world.specs.declared.msdb.BackupRow.{BackupRow}
use Rattle.bk_world.specs.declared.msdb.MarkRow.{MarkRow}
use Rattle.bk_world.specs.declared.msdb.RestoreKind.{RestoreKind}
use Rattle.bk_world.specs.declared.msdb.RestoreKind.TheVariants.{Set, Files, Pages}
use Rattle.bk_world.specs.declared.msdb.RestoreRow.{RestoreRow}
use Rattle.bk_machine.specs.declared.history_row.HistoryRow.{HistoryRow}
use Rattle.bk_machine.specs.declared.history_row.HistoryRow.TheVariants.{Backup, Restore, Mark}
use Rattle.bk_msdb.specs.Spelling.{IsBackup, IsDescription, IsMark, IsRestore, IsRow, IsStop, backup_bytes, backup_form, description_bytes, description_form, description_in, flag, flag_form, flag_in, kind_form, kind_in, kind_worth, mark_bytes, mark_form, read_row, restore_bytes, restore_form, row_behind, row_bytes, row_form, stop_behind, stop_bytes, stop_form}

backup_form-IsCodec : IsCodec BackupRow backup_form
unfolding backup_form header_form
backup_form-IsCodec = converted-IsCodec _ _ _ IsBackup (followed-IsCodec _ _ (number-IsCodec 4) (λ _. header_form-IsCodec)) (record {
  takes = λ x row fits e.
      subst (λ (r : BackupRow). ((r.position, r.header) ≡ x) × IsBackup r) (same_Some (record { position = x.0; header = x.1 }) row e) (refl, record { position = fits.0; header = fits.1 });
  gives = λ row is. (refl, (is.position, is.header));
})

kind_takes : (n : ℕ) (kind : RestoreKind) → kind_in n ≡ Some kind → kind_worth kind ≡ n
kind_takes zero kind e = absurd cc
kind_takes (suc zero) kind e = ap kind_worth (sym (same_Some (Set Full) kind e))
kind_takes (suc (suc zero)) kind e = ap kind_worth (sym (same_Some (Set Log) kind e))
kind_takes (suc (suc (suc zero))) kind e = absurd cc
kind_takes (suc (suc (suc (suc zero)))) kind e = ap kind_worth (sym (same_Some (Set File) kind e))
kind_takes (suc (suc (suc (suc (suc zero))))) kind e = ap kind_worth (sym (same_Some (Set Differential) kind e))
kind_takes (suc (suc (suc (suc (suc (suc zero)))))) kind e = ap kind_worth (sym (same_Some Files kind e))
kind_takes (suc (suc (suc (suc (suc (suc (suc zero))))))) kind e = ap kind_worth (sym (same_Some Pages kind e))
kind_takes (suc (suc (suc (suc (suc (suc (suc (suc n)))))))) kind e = absurd cc

kind_gives : (kind : RestoreKind) → (kind_in (kind_worth kind) ≡ Some kind) × (kind_worth kind < 256 ^ 1)
kind_gives (Set Full) = (refl, lit< tt)
kind_gives (Set Log) = (refl, lit< tt)
kind_gives (Set File) = (refl, lit< tt)
kind_gives (Set Differential) = (refl, lit< tt)
kind_gives Files = (refl, lit< tt)
kind_gives Pages = (refl, lit< tt)

kind_form-IsCodec : IsCodec RestoreKind kind_form
unfolding kind_form
kind_form-IsCodec = converted-IsCodec _ kind_in kind_worth (λ _. Unit {0}) (number-IsCodec 1) (record { takes = λ n kind fits e. (kind_takes n kind e, tt); gives = λ kind is. kind_gives kind })

flag_takes : (n : ℕ) (b : Bool) → flag_in n ≡ Some b → flag b ≡ n
flag_takes zero b e = ap flag (sym (same_Some false b e))
flag_takes (suc zero) b e = ap flag (sym (same_Some true b e))
flag_takes (suc (suc n)) b e = absurd cc

flag_gives : (b : Bool) → (flag_in (flag b) ≡ Some b) × (flag b < 256 ^ 1)
flag_gives true = (refl, lit< tt)
flag_gives false = (refl, lit< tt)

flag_form-IsCodec : IsCodec Bool flag_form
unfolding flag_form
flag_form-IsCodec = converted-IsCodec _ flag_in flag (λ _. Unit {0}) (number-IsCodec 1) (record { takes = λ n b fits e. (flag_takes n b e, tt); gives = λ b is. flag_gives b })

-- what is read behind a byte is spelled so with it
stop_takes : (kind : ℕ) (bytes : List ℕ) (x : Option (List ℕ)) (rest : List ℕ) → AreBytes bytes → stop_behind kind bytes ≡ Some (x, rest) → (bytes_of 1 kind ++ bytes ≡ stop_bytes x ++ rest) × IsStop x
stop_takes zero bytes x rest are e =
    subst (λ (p : Option (List ℕ) × List ℕ). (bytes_of 1 0 ++ bytes ≡ stop_bytes p.0 ++ p.1) × IsStop p.0) (same_Some (None, bytes) (x, rest) e) (refl, tt)
stop_takes (suc zero) bytes x rest are e =
    let b = bind_some ((string 0 65535).reading bytes) (λ s. Some (Some s.0, s.1)) (x, rest) e in
    let t = (string-IsCodec 0 65535 (lit< tt)).takes bytes b.0.0 b.0.1 are b.1 in
    let whole : bytes_of 1 1 ++ bytes ≡ (bytes_of 1 1 ++ text_bytes b.0.0) ++ b.0.1 = ap (λ (s : List ℕ). bytes_of 1 1 ++ s) t.0 ∙ sym (append_assoc (bytes_of 1 1) (text_bytes b.0.0) b.0.1) in
    subst (λ (p : Option (List ℕ) × List ℕ). (bytes_of 1 1 ++ bytes ≡ stop_bytes p.0 ++ p.1) × IsStop p.0) (same_Some (Some b.0.0, b.0.1) (x, rest) b.2) (whole, t.1)
stop_takes (suc (suc kind)) bytes x rest are e = absurd cc

stop_form-IsCodec : IsCodec (Option (List ℕ)) stop_form
unfolding stop_form
stop_form-IsCodec = record { takes = takes; gives = gives }
  where
    takes : (bytes : List ℕ) (x : Option (List ℕ)) (rest : List ℕ) → AreBytes bytes → stop_form.reading bytes ≡ Some (x, rest) → (bytes ≡ stop_bytes x ++ rest) × IsStop x
    takes bytes x rest are e =
        let b = bind_some ((number 1).reading bytes) (λ k. stop_behind k.0 k.1) (x, rest) e in
        let kind = (number-IsCodec 1).takes bytes b.0.0 b.0.1 are b.1 in
        let t = stop_takes b.0.0 b.0.1 x rest (AreBytes-after bytes (bytes_of 1 b.0.0) b.0.1 are kind.0) b.2 in
        (kind.0 ∙ t.0, t.1)

    behind : (kind : ℕ) (bytes : List ℕ) → kind < 256 ^ 1 → stop_form.reading (bytes_of 1 kind ++ bytes) ≡ stop_behind kind bytes
    behind kind bytes small = rw ((number-IsCodec 1).gives kind bytes small) refl

    gives : (x : Option (List ℕ)) (rest : List ℕ) → IsStop x → stop_form.reading (stop_bytes x ++ rest) ≡ Some (x, rest)
    gives None rest is = behind 0 rest (lit< tt)
    gives (Some stop) rest is =
        let made : stop_behind 1 (text_bytes stop ++ rest) ≡ Some (Some stop, rest) = rw ((string-IsCodec 0 65535 (lit< tt)).gives stop rest is) refl in
        ap stop_form.reading (append_assoc (bytes_of 1 1) (text_bytes stop) rest) ∙ behind 1 (text_bytes stop ++ rest) (lit< tt) ∙ made

restore_form-IsCodec : IsCodec RestoreRow restore_form
unfolding restore_form stop_form guid_form kind_form flag_form
restore_form-IsCodec =
    converted-IsCodec _ _ _ IsRestore
    (followed-IsCodec _ _ (number-IsCodec 8) (λ _. followed-IsCodec _ _ (string-IsCodec 1 64 (lit< tt)) (λ _. followed-IsCodec _ _ guid_form-IsCodec (λ _.
    followed-IsCodec _ _ kind_form-IsCodec (λ _. followed-IsCodec _ _ flag_form-IsCodec (λ _. followed-IsCodec _ _ flag_form-IsCodec (λ _. stop_form-IsCodec))))))) (record {
      takes = λ x row fits e.
          subst (λ (r : RestoreRow). ((r.time, (r.database, (r.set, (r.kind, (r.replace, (r.recovery, r.stop)))))) ≡ x) × IsRestore r)
          (same_Some (record { time = x.0; database = x.1.0; set = x.1.1.0; kind = x.1.1.1.0; replace = x.1.1.1.1.0; recovery = x.1.1.1.1.1.0; stop = x.1.1.1.1.1.1 }) row e)
          (refl, record { time = fits.0; database = fits.1.0; set = fits.1.1.0; stop = fits.1.1.1.1.1.1 });
      gives = λ row is. (refl, (is.time, (is.database, (is.set, (tt, (tt, (tt, is.stop)))))));
    })

description_takes : (text : List ℕ) → IsString 0 65535 text → (description_bytes (description_in text) ≡ text) × IsDescription (description_in text)
description_takes [] fits = (refl, tt)
description_takes (byte ∷ text) fits = (refl, record { least_bytes = omega arith; most_bytes = fits.most_bytes; utf8 = fits.utf8 })

description_gives : (description : Option (List ℕ)) → IsDescription description → (description_in (description_bytes description) ≡ description) × IsString 0 65535 (description_bytes description)
description_gives None is = (refl, record { least_bytes = omega arith; most_bytes = omega arith; utf8 = IsUtf8-nil })
description_gives (Some []) is = absurd (omega (arith, is.least_bytes))
description_gives (Some (byte ∷ text)) is = (refl, record { least_bytes = omega arith; most_bytes = is.most_bytes; utf8 = is.utf8 })

description_form-IsCodec : IsCodec (Option (List ℕ)) description_form
unfolding description_form
description_form-IsCodec = converted-IsCodec _ _ _ IsDescription (string-IsCodec 0 65535 (lit< tt)) (record {
  takes = λ text description fits e.
      subst (λ (d : Option (List ℕ)). (description_bytes d ≡ text) × IsDescription d) (same_Some (description_in text) description e) (description_takes text fits);
  gives = λ description is. let again = description_gives description is in (ap (λ (d : Option (List ℕ)). Some d) again.0, again.1);
})

mark_form-IsCodec : IsCodec MarkRow mark_form
unfolding mark_form description_form
mark_form-IsCodec =
    converted-IsCodec _ _ _ IsMark
    (followed-IsCodec _ _ (string-IsCodec 1 64 (lit< tt)) (λ _. followed-IsCodec _ _ (string-IsCodec 1 64 (lit< tt)) (λ _. followed-IsCodec _ _ description_form-IsCodec (λ _.
    followed-IsCodec _ _ (number-IsCodec 8) (λ _. number-IsCodec 8))))) (record {
      takes = λ x row fits e.
          subst (λ (r : MarkRow). ((r.database, (r.mark.name, (r.mark.description, (r.lsn, r.time)))) ≡ x) × IsMark r)
          (same_Some (record { database = x.0; mark = record { name = x.1.0; description = x.1.1.0 }; lsn = x.1.1.1.0; time = x.1.1.1.1 }) row e)
          (refl, record { database = fits.0; name = fits.1.0; description = fits.1.1.0; lsn = fits.1.1.1.0; time = fits.1.1.1.1 });
      gives = λ row is. (refl, (is.database, (is.name, (is.description, (is.lsn, is.time)))));
    })

-- the forms spell what the bytes of a row say

spelled_backup : (row : BackupRow) → IsBackup row → backup_form.spelling row ≡ backup_bytes row
unfolding backup_form
spelled_backup row is = ap (λ (header : List ℕ). bytes_of 4 row.position ++ header) (header_form-spelling row.header is.header)

spelled_restore : (row : RestoreRow) → restore_form.spelling row ≡ restore_bytes row
unfolding restore_form guid_form kind_form flag_form stop_form
spelled_restore row = refl

spelled_mark : (row : MarkRow) → mark_form.spelling row ≡ mark_bytes row
unfolding mark_form description_form
spelled_mark row = refl

-- what has a form's spelling is a row of its table

backup_fits : (row : BackupRow) → backup_form.Fits row → IsBackup row
unfolding backup_form
backup_fits row fits = fits

restore_fits : (row : RestoreRow) → restore_form.Fits row → IsRestore row
unfolding restore_form
restore_fits row fits = fits

mark_fits : (row : MarkRow) → mark_form.Fits row → IsMark row
unfolding mark_form
mark_fits row fits = fits

-- one behind the byte of its table
put_behind : (table : ℕ) (bytes spelled form rest : List ℕ) → bytes ≡ form ++ rest → form ≡ spelled → bytes_of 1 table ++ bytes ≡ (bytes_of 1 table ++ spelled) ++ rest
put_behind table bytes spelled form rest is same =
    ap (λ (b : List ℕ). bytes_of 1 table ++ b) (is ∙ ap (λ (s : List ℕ). s ++ rest) same) ∙ sym (append_assoc (bytes_of 1 table) spelled rest)

-- what is read behind a byte is spelled so with it
row_takes : (table : ℕ) (bytes : List ℕ) (x : HistoryRow) (rest : List ℕ) → AreBytes bytes → row_behind table bytes ≡ Some (x, rest) → (bytes_of 1 table ++ bytes ≡ row_bytes x ++ rest) × IsRow x
unfolding row_bytes
row_takes zero bytes x rest are e = absurd cc
row_takes (suc zero) bytes x rest are e =
    let b = bind_some (backup_form.reading bytes) (λ r. Some (Backup r.0, r.1)) (x, rest) e in
    let t = backup_form-IsCodec.takes bytes b.0.0 b.0.1 are b.1 in
    let is : IsBackup b.0.0 = backup_fits b.0.0 t.1 in
    let whole = put_behind 1 bytes (backup_bytes b.0.0) (backup_form.spelling b.0.0) b.0.1 t.0 (spelled_backup b.0.0 is) in
    subst (λ (p : HistoryRow × List ℕ). (bytes_of 1 1 ++ bytes ≡ row_bytes p.0 ++ p.1) × IsRow p.0) (same_Some (Backup b.0.0, b.0.1) (x, rest) b.2) (whole, is)
row_takes (suc (suc zero)) bytes x rest are e =
    let b = bind_some (restore_form.reading bytes) (λ r. Some (Restore r.0, r.1)) (x, rest) e in
    let t = restore_form-IsCodec.takes bytes b.0.0 b.0.1 are b.1 in
    let is : IsRestore b.0.0 = restore_fits b.0.0 t.1 in
    let whole = put_behind 2 bytes (restore_bytes b.0.0) (restore_form.spelling b.0.0) b.0.1 t.0 (spelled_restore b.0.0) in
    subst (λ (p : HistoryRow × List ℕ). (bytes_of 1 2 ++ bytes ≡ row_bytes p.0 ++ p.1) × IsRow p.0) (same_Some (Restore b.0.0, b.0.1) (x, rest) b.2) (whole, is)
row_takes (suc (suc (suc zero))) bytes x rest are e =
    let b = bind_some (mark_form.reading bytes) (λ r. Some (Mark r.0, r.1)) (x, rest) e in
    let t = mark_form-IsCodec.takes bytes b.0.0 b.0.1 are b.1 in
    let is : IsMark b.0.0 = mark_fits b.0.0 t.1 in
    let whole = put_behind 3 bytes (mark_bytes b.0.0) (mark_form.spelling b.0.0) b.0.1 t.0 (spelled_mark b.0.0) in
    subst (λ (p : HistoryRow × List ℕ). (bytes_of 1 3 ++ bytes ≡ row_bytes p.0 ++ p.1) × IsRow p.0) (same_Some (Mark b.0.0, b.0.1) (x, rest) b.2) (whole, is)
row_takes (suc (suc (suc (suc table)))) bytes x rest are e = absurd cc

-- a row is read where its form is
backup_again : (row : BackupRow) (rest : List ℕ) → IsBackup row → backup_form.reading (backup_bytes row ++ rest) ≡ Some (row, rest)
unfolding backup_form
backup_again row rest is = ap (λ (s : List ℕ). backup_form.reading (s ++ rest)) (sym (spelled_backup row is)) ∙ backup_form-IsCodec.gives row rest is

restore_again : (row : RestoreRow) (rest : List ℕ) → IsRestore row → restore_form.reading (restore_bytes row ++ rest) ≡ Some (row, rest)
unfolding restore_form
restore_again row rest is = ap (λ (s : List ℕ). restore_form.reading (s ++ rest)) (sym (spelled_restore row)) ∙ restore_form-IsCodec.gives row rest is

mark_again : (row : MarkRow) (rest : List ℕ) → IsMark row → mark_form.reading (mark_bytes row ++ rest) ≡ Some (row, rest)
unfolding mark_form
mark_again row rest is = ap (λ (s : List ℕ). mark_form.reading (s ++ rest)) (sym (spelled_mark row)) ∙ mark_form-IsCodec.gives row rest is

pub row_form-IsCodec : IsCodec HistoryRow row_form
unfolding row_form row_bytes
row_form-IsCodec = record { takes = takes; gives = gives }
  where
    takes : (bytes : List ℕ) (x : HistoryRow) (rest : List ℕ) → AreBytes bytes → row_form.reading bytes ≡ Some (x, rest) → (bytes ≡ row_bytes x ++ rest) × IsRow x
    takes bytes x rest are e =
        let b = bind_some ((number 1).reading bytes) (λ k. row_behind k.0 k.1) (x, rest) e in
        let table = (number-IsCodec 1).takes bytes b.0.0 b.0.1 are b.1 in
        let t = row_takes b.0.0 b.0.1 x rest (AreBytes-after bytes (bytes_of 1 b.0.0) b.0.1 are table.0) b.2 in
        (table.0 ∙ t.0, t.1)

    behind : (table : ℕ) (spelled rest : List ℕ) → table < 256 ^ 1 → row_form.reading ((bytes_of 1 table ++ spelled) ++ rest) ≡ row_behind table (spelled ++ rest)
    behind table spelled rest small =
        let read : row_form.reading (bytes_of 1 table ++ (spelled ++ rest)) ≡ row_behind table (spelled ++ rest) = rw ((number-IsCodec 1).gives table (spelled ++ rest) small) refl in
        ap row_form.reading (append_assoc (bytes_of 1 table) spelled rest) ∙ read

    gives : (x : HistoryRow) (rest : List ℕ) → IsRow x → row_form.reading (row_bytes x ++ rest) ≡ Some (x, rest)
    gives (Backup row) rest is =
        let made : row_behind 1 (backup_bytes row ++ rest) ≡ Some (Backup row, rest) = rw (backup_again row rest is) refl in
        behind 1 (backup_bytes row) rest (lit< tt) ∙ made
    gives (Restore row) rest is =
        let made : row_behind 2 (restore_bytes row ++ rest) ≡ Some (Restore row, rest) = rw (restore_again row rest is) refl in
        behind 2 (restore_bytes row) rest (lit< tt) ∙ made
    gives (Mark row) rest is =
        let made : row_behind 3 (mark_bytes row ++ rest) ≡ Some (Mark row, rest) = rw (mark_again row rest is) refl in
        behind 3 (mark_bytes row) rest (lit< tt) ∙ made

-- what is spelled is read back
pub row_read : (row : HistoryRow) → IsRow row → read_row (row_bytes row) ≡ Some row
unfolding read_row row_form
row_read row is =
    let again : row_form.reading (row_bytes row) ≡ Some (row, []) = ap row_form.reading (sym (append-nil (row_bytes row))) ∙ row_form-IsCodec.gives row [] is in
    rw again refl
