-- What a crash of a run leaves is sound.
use Rattle.std.proofs.Common.{ℕ, List, ◌++◌, take, drop, sym, ◌∙◌, ap, subst}
use Rattle.bk_machine.specs.Acts.{Act, done_all}
use Rattle.bk_machine.specs.Crash.{Leaves, front_of, next_acts}
use Rattle.bk_machine.specs.Outcome.{Outcome}
use Rattle.bk_machine.specs.Run.{behind_all}
use Rattle.bk_machine.specs.Sound.{IsSound, IsWhole}
use Rattle.bk_machine.specs.World.{World}
use Rattle.bk_machine.proofs.Acting.{acts-sound}
use Rattle.bk_machine.proofs.Crashed.{crash-sound}
use Rattle.bk_machine.proofs.statements.Fronts.{cut-whole}
use Rattle.bk_machine.specs.ClosingLaws.{done-joined}
use Rattle.bk_machine.proofs.statements.Running.{RunsWell, Within, may-front, may-rest, within-well}

-- ---- a run that is cut

pub left-sound : (old : World) (outcomes : List Outcome) (least : ℕ) (left : World) → IsSound old → RunsWell old outcomes
    → Leaves old outcomes least left → IsSound left
left-sound old outcomes least left sound run l =
    let acts : List Act = next_acts (drop l.cuts.done outcomes) in
    let before : World = behind_all old (take l.cuts.done outcomes) in
    let here : Within old outcomes l.cuts.done = within-well old outcomes l.cuts.done sound run in
    let done_sound : IsSound (done_all before (take l.cuts.acts acts)) = acts-sound before (take l.cuts.acts acts) here.sound (may-front before acts l.cuts.acts here.well.may) in
    let part : IsWhole (done_all (done_all before (take l.cuts.acts acts)) (front_of l.cuts.records (drop l.cuts.acts acts))) =
    cut-whole (done_all before (take l.cuts.acts acts)) (drop l.cuts.acts acts) l.cuts.records done_sound.whole (may-rest before acts l.cuts.acts here.well.may) in
    let joined : IsWhole (done_all before (take l.cuts.acts acts ++ front_of l.cuts.records (drop l.cuts.acts acts))) =
    subst IsWhole (sym (done-joined before (take l.cuts.acts acts) (front_of l.cuts.records (drop l.cuts.acts acts)))) part in
    let cut : IsWhole l.cut =
    subst IsWhole (sym (l.cuts.is_cut ∙ ap (λ v. done_all v (take l.cuts.acts acts ++ front_of l.cuts.records (drop l.cuts.acts acts))) l.cuts.is_before)) joined in
    crash-sound l.before l.whole l.cut left l.world cut
