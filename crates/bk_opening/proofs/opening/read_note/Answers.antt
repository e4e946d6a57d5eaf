use Rattle.std.proofs.Common.{rules, ◌≡◌, ℕ, List, sym, subst, arith}
use Rattle.bk_bytes.specs.Field.{AreBytes}
use Rattle.bk_paged.specs.Holds.{HaveRoom}
use Rattle.bk_opening.proofs.NoteFacts.{note_fits, note_length, note_paths, note_room}
use Rattle.bk_opening.proofs.opening.read_note.Goals as goal

pub overflow_sub-whole : goal.overflow_sub-whole
overflow_sub-whole c =
    let fits : AreBytes c.args.whole.now = (λ i. omega (arith, c.type_inv.whole i)) in
    omega (arith, note_length c.args.whole.now c.in_ok-facts.facts c.in_ok-facts.note.now fits c.in_ok-facts.ensures)

pub returns-then-note-gt30720-clause-foreign : goal.returns-then-note-gt30720-clause-foreign
returns-then-note-gt30720-clause-foreign c is facts note noted room =
    let fits : AreBytes c.args.whole.now = (λ i. omega (arith, c.type_inv.whole i)) in
    let both = note_fits c.args.whole.now c.in_ok-facts.facts facts c.in_ok-facts.note.now note fits c.in_ok-facts.ensures noted room in
    absurd (omega (arith, both.0, c.if-note-gt30720.true))

pub returns-then-whole-note-gt2048-clause-foreign : goal.returns-then-whole-note-gt2048-clause-foreign
returns-then-whole-note-gt2048-clause-foreign c is facts note noted room =
    let fits : AreBytes c.args.whole.now = (λ i. omega (arith, c.type_inv.whole i)) in
    let both = note_fits c.args.whole.now c.in_ok-facts.facts facts c.in_ok-facts.note.now note fits c.in_ok-facts.ensures noted room in
    absurd (omega (arith, both.1, c.if-whole-note-gt2048.true))

pub returns-clause-room : goal.returns-clause-room
returns-clause-room c =
    let fits : AreBytes c.args.whole.now = (λ i. omega (arith, c.type_inv.whole i)) in
    let copied : c.in_ok-note.note.items ≡ c.in_ok-facts.note.now = search rules in
    subst (λ (n : List ℕ). HaveRoom c.in_ok-facts.facts.files n) (sym copied) (note_room c.args.whole.now c.in_ok-facts.facts c.in_ok-facts.note.now fits c.in_ok-facts.ensures c.if-note-gt30720.false c.if-whole-note-gt2048.false)

pub returns-clause-paths : goal.returns-clause-paths
returns-clause-paths c =
    let fits : AreBytes c.args.whole.now = (λ i. omega (arith, c.type_inv.whole i)) in
    note_paths c.args.whole.now c.in_ok-facts.facts c.in_ok-facts.note.now fits c.in_ok-facts.ensures
