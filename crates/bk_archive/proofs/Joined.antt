-- Histories that are joined: each branch has the longer one of two lines, of which the other is a front.
use Rattle.std.proofs.Common.{inl, inr, [], sym, ◌∙◌, subst}
use Rattle.std.proofs.lemmas.List.{append-nil}
use Rattle.bk_world.specs.Lines.{Grew, RecordLine, RecordLines, line_on}
use Rattle.bk_machine.specs.Events.{Joins}
use Rattle.bk_machine.specs.Sound.{IsSound, RiseFrom}
use Rattle.bk_machine.specs.World.{World}
use Rattle.bk_machine.specs.JoinLaws.{rise-line, grown}

-- the other one of two histories that are joined grows
pub there-grew : (w other : World) (joined : RecordLines) → IsSound w → IsSound other → Joins w.history other.history joined → Grew other.history joined
there-grew w other joined is_here is_there joins g =
    let here : RecordLine = line_on w.history g in
    let there : RecordLine = line_on other.history g in
    let line : RecordLine = line_on joined g in
    elim (joins.records g) [
      | inl one ↦ grown there line [] (one.2 ∙ sym (append-nil there.records)) (subst (RiseFrom 0) (sym one.2) (rise-line other other.history g is_there.whole.lines))
      | inr one ↦ grown there line one.0 (one.2 ∙ sym one.1) (subst (RiseFrom 0) (sym one.2) (rise-line w w.history g is_here.whole.lines))
    ]
