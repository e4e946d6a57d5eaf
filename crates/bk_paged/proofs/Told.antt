-- The records that are read of a database's log.
use Rattle.std.proofs.Common.{◌≡◌, ◌≤◌, ℕ, ◌-◌, List, take, drop, None, sym, ap, subst, ◌∙◌, arith}
use Rattle.std.specs.List.{AllByRecursion, flat_map}
use Rattle.std.proofs.lemmas.List.{drop-append-le, length-drop, take-append-drop, take-append-le}
use Rattle.bk_device.specs.Disk.{Disk}
use Rattle.bk_ids.specs.declared.record.Rec.{Rec}
use Rattle.bk_lemmas.specs.Lists.{all_front}
use Rattle.bk_log.specs.Log.{value_of}
use Rattle.bk_paths.specs.Paths.{kept_from}
use Rattle.bk_record.specs.Log.{IsLog}
use Rattle.bk_record.specs.Spelling.{IsRecord, spelling}
use Rattle.bk_record.specs.WalkLaws.{log_of_records}
use Rattle.bk_paged.specs.Laws.{kept_spelled, stored_length}
use Rattle.bk_paged.specs.Holds.{Stood}
use Rattle.bk_paged.specs.Paged.{IsPaged, Kept, from_to, sealed_count}
use Rattle.bk_paged.proofs.Noting.{cut_again}
use Rattle.bk_paged.proofs.Saying.{whole_recovers}

-- those of the log's durable records are those of the path
records_read : (p : Kept) (stood : Stood) (a : Disk) (from to : ℕ) → IsPaged a p stood → p.log.head.kept ≤ from → from ≤ to → to ≤ p.log.stored
    → take (to - from) (drop (from - p.log.head.kept) (value_of a.files p.log).records) ≡ from_to from to stood.records
records_read p stood a from to is kept order inside =
    let rs : List Rec = (value_of a.files p.log).records in
    let n : ℕ = from - p.log.head.kept in
    let size = stored_length a p.log is.standing.logs in
    let some : 1 ≤ p.log.head.kept = (is.recovers (sealed_count p) (omega arith)).some in
    sym (take-append-le (to - from) (drop n rs) p.log.waiting (omega (arith, size, kept, order, inside, length-drop n rs)))
    ∙ ap (take (to - from)) (sym (drop-append-le n rs p.log.waiting (omega (arith, size, kept, order, inside))) ∙ ap (drop n) is.held ∙ cut_again p.log.head.kept from stood.records some kept)

pub bytes_read : (p : Kept) (stood : Stood) (a : Disk) (from to : ℕ) (bytes : List ℕ) → IsPaged a p stood → p.log.head.kept ≤ from → from ≤ to → to ≤ p.log.stored
    → bytes ≡ flat_map spelling (take (to - from) (drop (from - p.log.head.kept) (value_of a.files p.log).records)) → IsLog bytes (from_to from to stood.records) None
bytes_read p stood a from to bytes is kept order inside read =
    let held : List Rec = kept_from from stood.records in
    let rs : List Rec = from_to from to stood.records in
    subst (λ (b : List ℕ). IsLog b rs None) (sym (read ∙ ap (flat_map spelling) (records_read p stood a from to is kept order inside)))
    (log_of_records rs (all_front IsRecord rs (drop (to - from) held) (subst (AllByRecursion IsRecord) (sym (take-append-drop (to - from) held)) (kept_spelled from stood.records (whole_recovers p stood a is).path))))
