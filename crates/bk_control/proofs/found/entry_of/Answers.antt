use Rattle.std.proofs.Common.{◌∙◌, ap, sym, take, ℕ}
use Rattle.std.proofs.lemmas.Slice.Eq.{bytes_eq-Decides}
use Rattle.bk_control.specs.Slots.{magic, fits}
use Rattle.bk_control.proofs.Finding.{open_entry, open_front, wrong_mark, wrong_gate, wrong_size}
use Rattle.bk_control.proofs.found.entry_of.Goals as goal
use Rattle.bk_control.proofs.found.entry_of.Goals.{else-eq-via-then-eq+then-head-eq1+else-fits_slot, else-eq-via-then-eq+else-head-eq1, else-eq-via-else-eq}

pub returns-then-fits_slot-clause-entry : goal.returns-then-fits_slot-clause-entry
returns-then-fits_slot-clause-entry c slot size begins =
    let fit = sym c.fits_slot.ensures ∙ c.if-fits_slot.true in
    open_entry slot c.args.head.now c.read_number-sequence.result c.read_number-len.result (open_front slot c.args.head.now c.read_number-len.result c.args.room fit begins) ((bytes_eq-Decides (take 8 c.args.head.now) magic).0 (sym c.eq.ensures ∙ c.if-eq.true)) c.if-head-eq1.true (sym c.read_number-len.ensures) (sym c.read_number-sequence.ensures) (ap (λ (room : ℕ). fits c.read_number-len.result room) size ∙ fit)

pub returns-else-eq-clause-entry : goal.returns-else-eq-clause-entry
returns-else-eq-clause-entry c slot size begins =
    elim c.else-eq.branch [
      | else-eq-via-then-eq+then-head-eq1+else-fits_slot w ↦ wrong_size slot c.args.head.now c.read_number-len.result c.args.room size begins c.read_number-len.ensures (sym w.fits_slot.ensures ∙ w.if-fits_slot.false)
      | else-eq-via-then-eq+else-head-eq1 w ↦ wrong_gate slot c.args.head.now c.args.room size begins w.if-head-eq1.false
      | else-eq-via-else-eq w ↦ wrong_mark slot c.args.head.now c.args.room size begins (sym c.eq.ensures ∙ w.if-eq.false)
    ]
