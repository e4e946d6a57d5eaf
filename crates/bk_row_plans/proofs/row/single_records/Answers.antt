use Rattle.std.proofs.Common.{◌+◌, ℕ, List, [], ◌∷◌, None, refl, sym, ap, arith, ◌∙◌}
use Rattle.bk_acts.specs.Meaning.{Spell}
use Rattle.bk_ids.specs.declared.record.Body.{Body}
use Rattle.bk_ids.specs.declared.record.Body.TheVariants.{Write}
use Rattle.bk_ids.specs.declared.record.CellImage.{CellImage}
use Rattle.bk_ids.specs.declared.record.Place.{Place}
use Rattle.bk_ids.specs.declared.record.Rec.{Rec}
use Rattle.bk_undo.specs.Spelled.{image}
use Rattle.bk_world.specs.Records.{Said, begun, committed, written}
use Rattle.bk_row_plans.proofs.row.single_records.Goals as goal

abbrev the_record : ℕ → Body → Rec
the_record n body = record { lsn = n + 1; begin = n; body = body }

-- the record of a write
abbrev the_write : Place → ℕ → CellImage → CellImage → Rec
the_write at n before after = record { lsn = n + 1; begin = n; body = Write at before after }

pub returns-clause-said : goal.returns-clause-said
returns-clause-said c = λ change before cells.
    let n : ℕ = c.args.lsn in
    let begin : Said = record { begin = n; deed = begun } in
    let write : Said = record { begin = n; deed = written c.args.place.now before change } in
    let commit : Said = record { begin = n; deed = committed c.args.time None } in
    let first : List Said = [] in
    let none : Spell c.new-records.result.items n first = c.new-records.ensures.items in
    let one = c.in_ok-say.ensures.said n first begin none (omega arith) refl in
    let two = c.in_ok-say-2.ensures.said n (begin ∷ []) write one (omega arith)
    (ap (λ (i : CellImage). the_write c.args.place.now n i (image change.table change.key change.value)) (sym cells.old_is) ∙ ap (λ (i : CellImage). the_write c.args.place.now n c.args.cells.old i) (sym cells.new_is)
    ∙ ap (λ (b : Body). the_record n b) (sym c.write_of.ensures.is)) in
    let three = c.in_ok-say-3.ensures.said n (begin ∷ write ∷ []) commit two (omega arith) refl in
    c.new.ensures ∙ three
