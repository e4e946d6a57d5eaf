use Rattle.std.proofs.Common.{sym, ◌∙◌, ap}
use Rattle.bk_console.specs.Words.{begins_with_hyphen}
use Rattle.bk_console.proofs.Taking.{hyphen-refused}
use Rattle.bk_console.proofs.command_line.Given.with_other.Goals as goal

pub returns-then-begins_with_hyphen-clause-takes : goal.returns-then-begins_with_hyphen-clause-takes
returns-then-begins_with_hyphen-clause-takes c = hyphen-refused c.args.self c.args.word.now c.in_default.ensures
    (ap begins_with_hyphen (sym c.as_bytes.ensures.value) ∙ (sym c.begins_with_hyphen.ensures ∙ c.if-begins_with_hyphen.true))
