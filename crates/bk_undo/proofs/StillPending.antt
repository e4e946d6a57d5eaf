-- The pending writes are those that the log's reader finds.
use Rattle.std.proofs.Common.{◌≡◌, ℕ, true, false, not, List, [], ◌∷◌, ◌++◌, map, refl, sym, ◌∙◌, ap, subst}
use Rattle.std.specs.Prelude.{◌==◌, ◌&&◌}
use Rattle.std.specs.List.{filter}
use Rattle.std.proofs.lemmas.List.{append-nil, map-append}
use Rattle.std.proofs.lemmas.List.Elements.{filter_agree}
use Rattle.std.proofs.Math.Bool.{and-true}
use Rattle.bk_bytes.specs.Cell.{cell_bytes}
use Rattle.bk_ids.specs.declared.record.Body.{Body}
use Rattle.bk_ids.specs.declared.record.Body.TheVariants.{Database, Table, Begin, Write, Commit, RollbackEnd, Compensation, Checkpoint, Stamp, Model, Bulk, Recovery}
use Rattle.bk_ids.specs.declared.record.CellImage.{CellImage}
use Rattle.bk_ids.specs.declared.record.Rec.{Rec}
use Rattle.bk_lemmas.specs.Lists.{all_mapped, filter_every}
use Rattle.bk_undo.specs.declared.pending.Pending.{Pending}
use Rattle.bk_undo.specs.Losers.{is_open, body_closes, body_writes, writes, pending}
use Rattle.bk_undo.specs.Cells.{CellWrite, Stored, Tied, WritesRise, pending_of}
use Rattle.bk_undo.specs.CellSteps.{BodyGoes, Goes}
use Rattle.bk_undo.proofs.Replay.{pending-append, pending_one, filter_none}
use Rattle.bk_undo.proofs.Ties.{filter_mapped, one_number}

-- what one record leaves of the pending writes and adds to them
abbrev after_body : ℕ → ℕ → Body → List Pending → List Pending
after_body lsn begin body before = filter (λ write. not (body_closes body begin write)) before ++ body_writes lsn begin body

one_more : (records : List Rec) (r : Rec) → pending (records ++ r ∷ []) ≡ after_body r.lsn r.begin r.body (pending records)
one_more records r =
    pending-append records (r ∷ [])
    ∙ ap (λ (ws : List Pending). filter (is_open (r ∷ [])) (pending records) ++ ws) (pending_one r)
    ∙ ap (λ (ws : List Pending). ws ++ writes r) (filter_agree (is_open (r ∷ [])) (λ write. not (body_closes r.body r.begin write)) (λ write. and-true (not (body_closes r.body r.begin write))) (pending records))

-- a body that closes nothing and writes nothing
nothing_done : (ws vs : List CellWrite) → vs ≡ ws → map pending_of vs ≡ filter (λ write. true) (map pending_of ws) ++ []
nothing_done ws vs same = ap (map pending_of) same ∙ sym (filter_none (λ write. true) (map pending_of ws) (λ write. refl)) ∙ sym (append-nil (filter (λ write. true) (map pending_of ws)))

after_write : (old new : Stored) (w : CellWrite) (before : CellImage) → before ≡ record { bytes = cell_bytes w.before } → new.pending ≡ old.pending ++ w ∷ []
    → map pending_of new.pending ≡ filter (λ write. true) (map pending_of old.pending) ++ (record { lsn = w.lsn; begin = w.begin; place = w.place; before = before }) ∷ []
after_write old new w before noted is =
    ap (map pending_of) is ∙ map-append pending_of old.pending (w ∷ [])
    ∙ ap (λ (ws : List Pending). ws ++ pending_of w ∷ []) (sym (filter_none (λ write. true) (map pending_of old.pending) (λ write. refl)))
    ∙ ap (λ (image : CellImage). filter (λ write. true) (map pending_of old.pending) ++ (record { lsn = w.lsn; begin = w.begin; place = w.place; before = image }) ∷ []) (sym noted)

after_by : (lsn begin : ℕ) (body : Body) (old new : Stored) → BodyGoes lsn begin body old new → Tied old → map pending_of new.pending ≡ after_body lsn begin body (map pending_of old.pending)
after_by lsn begin (Write at before after) old new s t =
    after_write old new (record { lsn = lsn; begin = begin; row = s.row; place = at; before = old.cells at; after = s.cell }) before s.noted s.pending
after_by lsn begin (Commit time mark) old new s t =
    ap (map pending_of) s.pending
    ∙ sym (filter_mapped pending_of (λ write. not (write.begin == begin)) (λ w. not (w.begin == begin)) (λ w. refl) old.pending)
    ∙ sym (append-nil (filter (λ write. not (write.begin == begin)) (map pending_of old.pending)))
after_by lsn begin RollbackEnd old new s t =
    ap (map pending_of) (s.pending ∙ sym (filter_every (λ w. not (w.begin == begin)) old.pending (all_mapped (λ w. (w.begin == begin) ≡ false) (λ w. not (w.begin == begin) ≡ true) (λ w e. ap not e) old.pending s.none)))
    ∙ sym (filter_mapped pending_of (λ write. not (write.begin == begin)) (λ w. not (w.begin == begin)) (λ w. refl) old.pending)
    ∙ sym (append-nil (filter (λ write. not (write.begin == begin)) (map pending_of old.pending)))
after_by lsn begin (Compensation at image undone) old new s t =
    ap (map pending_of) (s.pending
    ∙ sym (one_number s.front s.write s.back (subst WritesRise s.whole t.rise))
    ∙ ap (λ (n : ℕ). filter (λ w. not (w.begin == n && w.lsn == s.write.lsn)) (s.front ++ s.write ∷ s.back)) s.own
    ∙ ap (λ (n : ℕ). filter (λ w. not (w.begin == begin && w.lsn == n)) (s.front ++ s.write ∷ s.back)) s.number
    ∙ ap (filter (λ w. not (w.begin == begin && w.lsn == undone))) (sym s.whole))
    ∙ sym (filter_mapped pending_of (λ write. not (write.begin == begin && write.lsn == undone)) (λ w. not (w.begin == begin && w.lsn == undone)) (λ w. refl) old.pending)
    ∙ sym (append-nil (filter (λ write. not (write.begin == begin && write.lsn == undone)) (map pending_of old.pending)))
after_by lsn begin (Bulk table first count value extents) old new s t = nothing_done old.pending new.pending s.pending
after_by lsn begin (Database a b c) old new s t = nothing_done old.pending new.pending s.pending
after_by lsn begin (Table a b c d) old new s t = nothing_done old.pending new.pending s.pending
after_by lsn begin Begin old new s t = nothing_done old.pending new.pending s.pending
after_by lsn begin (Checkpoint a) old new s t = nothing_done old.pending new.pending s.pending
after_by lsn begin (Stamp a b) old new s t = nothing_done old.pending new.pending s.pending
after_by lsn begin (Model a b) old new s t = nothing_done old.pending new.pending s.pending
after_by lsn begin (Recovery a) old new s t = nothing_done old.pending new.pending s.pending

pub still_pending : (r : Rec) (records : List Rec) (old new : Stored) → Goes r old new → Tied old → map pending_of old.pending ≡ pending records → map pending_of new.pending ≡ pending (records ++ r ∷ [])
still_pending r records old new s t is =
    after_by r.lsn r.begin r.body old new s t ∙ ap (after_body r.lsn r.begin r.body) is ∙ sym (one_more records r)
