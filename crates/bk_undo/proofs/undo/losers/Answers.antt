use Rattle.std.proofs.Common.{List, map, reverse, sym, ◌∙◌, ap, subst}
use Rattle.std.specs.List.{AllByRecursion}
use Rattle.bk_ids.specs.declared.record.Rec.{Rec}
use Rattle.bk_record.specs.Spelling.{KeepsLimits}
use Rattle.bk_undo.specs.Losers.{compensation_of}
use Rattle.bk_undo.specs.declared.pending.Pending.{Pending}
use Rattle.bk_undo.proofs.Limits.{undoing_limits}
use Rattle.bk_undo.proofs.undo.losers.Goals as goal

pub returns-clause-limits : goal.returns-clause-limits
returns-clause-limits c =
    let read = c.in_ok-writes.ensures.pending in
    let KeepLimits : List Rec → Type 0 = AllByRecursion (λ (r : Rec). KeepsLimits r.body) in
    subst KeepLimits (sym (c.in_ok-undoing.ensures ∙ ap (λ (ws : List Pending). map compensation_of (reverse ws)) read.2)) (undoing_limits c.args.below read.0 read.1.are_records)
