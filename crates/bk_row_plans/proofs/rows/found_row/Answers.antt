use Rattle.std.proofs.Common.{sym}
use Rattle.bk_kept.specs.Keeps.{database_of}
use Rattle.bk_machine.specs.World.{log_of}
use Rattle.bk_row_plans.proofs.Placing.{known, may-own, shows-of, visible-lies, where-none}
use Rattle.bk_row_plans.proofs.rows.found_row.Goals as goal

pub returns-in_err-before : goal.returns-in_err-before
returns-in_err-before c = λ w name sound sees shows its. where-none _ _ _ c.from_residual.ensures (sym (c.in_err-before.ensures w sees shows))

pub returns-in_err-place : goal.returns-in_err-place
returns-in_err-place c = λ w name sound sees shows its.
    absurd (visible-lies w c.args.database.now c.args.table.now c.args.key c.in_ok-before.before.now (sym (c.in_ok-before.ensures w sees shows)) (sym (c.in_err-place.ensures w shows)))

pub returns : goal.returns
returns c = λ w name sound sees shows its.
    let d = c.args.database.now in
    let t = c.args.table.now in
    let s = shows-of w d shows in (
      sym (c.in_ok-before.ensures w sees shows),
      may-own w d t c.args.key (known w name d t sound its).there c.in_ok-place.place (c.in_ok-place.ensures w shows) (c.placed_logs.ensures.lie d.files (log_of w.history (database_of d)) d.shown.«end» s.log.counts s.log.sound s.placed),
    )
