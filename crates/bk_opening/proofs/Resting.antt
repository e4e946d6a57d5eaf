-- Opening a database in whose files nothing is to be finished or undone.
use Rattle.std.proofs.Common.{◌≡◌, ℕ, zero, suc, ◌+◌, ◌-◌, List, [], ◌∷◌, ◌++◌, length, drop, None, sym, ap, ap₂, subst, ◌∙◌, arith}
use Rattle.std.specs.List.{AllByRecursion, flat_map}
use Rattle.bk_device.specs.Calls.{ChangesNothing}
use Rattle.bk_device.specs.Disk.{Disk, Files, IsLawful}
use Rattle.bk_device.specs.Laws.{nothing_then}
use Rattle.bk_ids.specs.declared.record.Rec.{Rec}
use Rattle.bk_lemmas.specs.Lists.{all_joined}
use Rattle.bk_log.specs.Log.{IsLog, value_of, Kept as KeptLog}
use Rattle.bk_paged.specs.Laws.{stored_length}
use Rattle.bk_paths.specs.Paths.{numbered}
use Rattle.bk_record.specs.Log.{IsLog as AreRecords}
use Rattle.bk_record.specs.Spelling.{IsRecord, spelling}
use Rattle.bk_record.specs.WalkLaws.{log_of_records}
use Rattle.bk_segments.specs.Files.{AreTidy, blobs_of, LogIs, Logged}
use Rattle.bk_segments.specs.Records.{IsBatch, records_in, records_of}
use Rattle.bk_side.specs.Laws.{batch_read}
use Rattle.bk_side.specs.Names.{side_file}
use Rattle.bk_side.specs.Side.{HasNoBatch}
use Rattle.bk_undo.specs.Losers.{compensation}
use Rattle.bk_opening.specs.Quiet.{IsQuiet}
use Rattle.bk_opening.proofs.Undoing.{with_undoing}

-- ---- no record waits

all_drop : {X : Type 0} (P : X → Type 0) (n : ℕ) (xs : List X) → AllByRecursion P xs → AllByRecursion P (drop n xs)
all_drop P zero xs all = all
all_drop P (suc n) [] all = tt
all_drop P (suc n) (x ∷ xs) all = all_drop P n xs all.1

batches_are : (blobs : List (List ℕ)) → AllByRecursion IsBatch blobs → AllByRecursion IsRecord (records_of blobs)
batches_are [] all = tt
batches_are (blob ∷ blobs) all = all_joined IsRecord (records_in blob) (records_of blobs) all.0.are_records (batches_are blobs all.1)

-- the records of a log have spellings
held_spelled : (files : Files) (db : ℕ) (log : Logged) → LogIs files db log → AllByRecursion IsRecord log.records
held_spelled files db log is =
    let blobs : List (List ℕ) = blobs_of files db is.head in
    subst (AllByRecursion IsRecord) (sym is.records) (all_drop IsRecord (is.head.kept - is.head.first) (records_of blobs) (batches_are blobs is.run.batches))

pub none_waits : (db : ℕ) (a b : Disk) (log new : KeptLog) (bytes : List ℕ) → IsQuiet db a.files → LogIs a.files db (value_of a.files log) → value_of b.files log ≡ value_of a.files log → IsLog b log → log.waiting ≡ [] → log.end ≡ log.stored
    → bytes ≡ flat_map spelling (value_of a.files log).records → ((held : List Rec) → AreRecords bytes held None → new ≡ with_undoing log (compensation log.end held)) → new.waiting ≡ []
none_waits db a b log new bytes quiet loaded value is none last read undone =
    let held : List Rec = (value_of a.files log).records in
    let ends : log.end ≡ log.head.kept + length held = omega (arith, last, stored_length b log is, ap (λ (l : Logged). length l.records) value) in
    let nothing : compensation log.end held ≡ [] = ap (λ (n : ℕ). compensation n held) ends ∙ quiet.none (value_of a.files log) loaded in
    let are : AreRecords bytes held None = subst (λ (bs : List ℕ). AreRecords bs held None) (sym read) (log_of_records held (held_spelled a.files db (value_of a.files log) loaded)) in
    ap (λ (l : KeptLog). l.waiting) (undone held are) ∙ ap₂ (λ (w back : List Rec). w ++ numbered log.end back) none nothing

-- ---- nothing is changed

-- neither where the log is read, nor where the side file is opened and the pages are read
pub open_still : (db : ℕ) {a b d e : Disk} → IsLawful a → IsQuiet db a.files → (AreTidy a.files db → ChangesNothing a b) → (HasNoBatch (side_file db) b.files → ChangesNothing b d) → ChangesNothing d e → ChangesNothing a e
open_still db lawful quiet read opened pages =
    let first = read quiet.finished.log in
    nothing_then lawful (nothing_then lawful first (opened (batch_read (side_file db) first.files quiet.finished.side))) pages
