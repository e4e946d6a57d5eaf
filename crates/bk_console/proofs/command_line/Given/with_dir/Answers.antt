use Rattle.std.proofs.Common.{sym, ◌∙◌}
use Rattle.bk_console.proofs.Taking.{empty-dir, second-dir, first-dir, is-empty, not-empty}
use Rattle.bk_console.proofs.command_line.Given.with_dir.Goals as goal
use Rattle.bk_console.proofs.command_line.Given.with_dir.Goals.{then-is_empty-via-then-is_empty, then-is_empty-via-else-is_empty+then-is_some}

pub returns-then-is_empty-clause-takes : goal.returns-then-is_empty-clause-takes
returns-then-is_empty-clause-takes c = elim c.then-is_empty.branch [
  | then-is_empty-via-then-is_empty w ↦ empty-dir c.args.self c.args.word.now (is-empty _ _ c.is_empty.ensures w.if-is_empty.true)
  | then-is_empty-via-else-is_empty+then-is_some w ↦ second-dir c.args.self.next c.args.self.dir c.args.self.stop c.args.self.instance (sym w.is_some.ensures ∙ w.if-is_some.true) c.args.word.now
]

pub returns-clause-takes : goal.returns-clause-takes
returns-clause-takes c = first-dir c.args.self.next c.args.self.dir c.args.self.stop c.args.self.instance (sym c.is_some.ensures ∙ c.if-is_some.false) c.args.word (not-empty _ _ c.is_empty.ensures c.if-is_empty.false)
