-- What the layers above may take of files in which nothing is to be finished or undone.
use Rattle.std.proofs.Common.{◌≡◌, ℕ, ◌+◌, ◌-◌, List, [], ◌∷◌, ◌++◌, length, refl, sym, ap, ◌∙◌, arith}
use Rattle.std.proofs.lemmas.List.{length-append, length-drop}
use Rattle.bk_device.specs.Disk.{Files}
use Rattle.bk_ids.specs.declared.record.Rec.{Rec}
use Rattle.bk_log.specs.Laws.{one_logged}
use Rattle.bk_paged.specs.Holds.{Holds, Stood}
use Rattle.bk_paths.specs.Laws.{KeptIsEnough}
use Rattle.bk_paths.specs.PathLaws.{numbered_length}
use Rattle.bk_paths.specs.Paths.{end_of, kept_from, settled, undoing}
use Rattle.bk_segments.specs.FileLaws.{log_read, tidy_read}
use Rattle.bk_segments.specs.Files.{Logged}
use Rattle.bk_side.specs.Laws.{batch_read}
use Rattle.bk_side.specs.Names.{side_file}
use Rattle.bk_undo.specs.Losers.{compensation}
use Rattle.bk_opening.specs.Quiet.{IsFinished, IsQuiet}

-- ---- files that read the same

pub quiet_same : (db : ℕ) {f g : Files} → ((name : List ℕ) → g name ≡ f name) → IsQuiet db f → IsQuiet db g
quiet_same db same is = record {
  finished = record { log = tidy_read db same is.finished.log; side = batch_read (side_file db) same is.finished.side };
  none = λ log there. is.none log (log_read db log (λ name. sym (same name)) there);
}

-- ---- files that hold a database

-- in whose path nothing is pending
pub quiet_of : KeptIsEnough → (db : ℕ) (stood : Stood) (files : Files) → Holds db stood files → compensation (end_of stood.records) stood.records ≡ [] → IsFinished db files → IsQuiet db files
quiet_of enough db stood files holds none finished = record {
  finished = finished;
  none = λ log is.
      let of = holds.recovers in
      let held : List Rec = kept_from holds.log.kept stood.records in
      let ends : holds.log.kept + length held ≡ end_of stood.records = omega (arith, length-drop (holds.log.kept - 1) stood.records, of.some, of.order, of.early) in
      ap (λ (l : Logged). compensation (l.kept + length l.records) l.records) (one_logged files db log holds.log is holds.log_is)
      ∙ ap (λ (rs : List Rec). compensation (holds.log.kept + length rs) rs) holds.held
      ∙ ap (λ (n : ℕ). compensation n held) ends
      ∙ enough stood.records holds.log.kept of.path of.some of.opened
      ∙ none;
}

-- nothing is pending in a path that is settled as it is
pub nothing_undone : (records : List Rec) → settled records ≡ records → compensation (end_of records) records ≡ []
unfolding settled
nothing_undone records same =
    let back : List Rec = compensation (end_of records) records in
    let size : length (records ++ undoing records) ≡ length records = ap (λ (rs : List Rec). length rs) same in
    empty back (omega (arith, size, length-append records (undoing records), numbered_length (end_of records) back))
  where
    empty : (rs : List Rec) → length rs ≡ 0 → rs ≡ []
    empty [] none = refl
    empty (r ∷ rs) none = absurd (omega (arith, none))
