-- The kinds of records that leave the pending writes as they are.
use Rattle.std.proofs.Common.{◌≡◌, ◌<◌, ℕ, false, List, [], ◌++◌, Option, Bor, refl, ap, ◌∙◌}
use Rattle.std.proofs.lemmas.List.{append-nil}
use Rattle.bk_ids.specs.declared.record.Rec.{Rec}
use Rattle.bk_record.specs.View.{record_of}
use Rattle.bk_record.specs.declared.view.BodyRef.{BodyRef}
use Rattle.bk_record.specs.declared.view.MarkRef.{MarkRef}
use Rattle.bk_record.specs.declared.view.PlaceRef.{PlaceRef}
use Rattle.bk_record.specs.declared.view.BodyRef.TheVariants.{Database, Table, Begin, Write, Commit, RollbackEnd, Compensation, Checkpoint, Stamp, Model, Bulk, Recovery}
use Rattle.bk_undo.specs.declared.pending.Pending.{Pending}
use Rattle.bk_undo.specs.Losers.{closes, writes, noted}
use Rattle.bk_undo.proofs.Replay.{noted_open}

-- a record that closes nothing and writes nothing
quiet : (n : ℕ) (r : Rec) (before : List Pending) → r.lsn < n → ((write : Pending) → closes r write ≡ false) → writes r ≡ [] → noted n r before ≡ before
quiet n r before less none nothing = noted_open n r before less none ∙ ap (λ (ws : List Pending). before ++ ws) nothing ∙ append-nil before

pub noted_other : (n lsn begin : ℕ) (body : BodyRef) (before : List Pending) → lsn < n → ((place : PlaceRef) (old new : Bor (List ℕ)) → body ≡ Write place old new → ⊥) → ((time : ℕ) (mark : Option MarkRef) → body ≡ Commit time mark → ⊥) → (body ≡ RollbackEnd → ⊥) → ((place : PlaceRef) (cell : Bor (List ℕ)) (undone : ℕ) → body ≡ Compensation place cell undone → ⊥) → noted n (record_of (record { lsn = lsn; begin = begin; body = body })) before ≡ before
noted_other n lsn begin (Write place old new) before less no_write no_commit no_end no_undo = absurd (no_write place old new refl)
noted_other n lsn begin (Commit time mark) before less no_write no_commit no_end no_undo = absurd (no_commit time mark refl)
noted_other n lsn begin RollbackEnd before less no_write no_commit no_end no_undo = absurd (no_end refl)
noted_other n lsn begin (Compensation place cell undone) before less no_write no_commit no_end no_undo = absurd (no_undo place cell undone refl)
noted_other n lsn begin (Database a b c) before less no_write no_commit no_end no_undo = quiet n (record_of (record { lsn = lsn; begin = begin; body = Database a b c })) before less (λ write. refl) refl
noted_other n lsn begin (Table a b c d) before less no_write no_commit no_end no_undo = quiet n (record_of (record { lsn = lsn; begin = begin; body = Table a b c d })) before less (λ write. refl) refl
noted_other n lsn begin Begin before less no_write no_commit no_end no_undo = quiet n (record_of (record { lsn = lsn; begin = begin; body = Begin })) before less (λ write. refl) refl
noted_other n lsn begin (Checkpoint a) before less no_write no_commit no_end no_undo = quiet n (record_of (record { lsn = lsn; begin = begin; body = Checkpoint a })) before less (λ write. refl) refl
noted_other n lsn begin (Stamp a b) before less no_write no_commit no_end no_undo = quiet n (record_of (record { lsn = lsn; begin = begin; body = Stamp a b })) before less (λ write. refl) refl
noted_other n lsn begin (Model a b) before less no_write no_commit no_end no_undo = quiet n (record_of (record { lsn = lsn; begin = begin; body = Model a b })) before less (λ write. refl) refl
noted_other n lsn begin (Bulk a b c d e) before less no_write no_commit no_end no_undo = quiet n (record_of (record { lsn = lsn; begin = begin; body = Bulk a b c d e })) before less (λ write. refl) refl
noted_other n lsn begin (Recovery a) before less no_write no_commit no_end no_undo = quiet n (record_of (record { lsn = lsn; begin = begin; body = Recovery a })) before less (λ write. refl) refl
