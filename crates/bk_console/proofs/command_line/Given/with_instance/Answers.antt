use Rattle.std.proofs.Common.{◌≡◌, Some, sym, ◌∙◌, rules}
use Rattle.bk_console.specs.Words.{number_of}
use Rattle.bk_console.proofs.Taking.{no-number, second-number, first-number}
use Rattle.bk_console.specs.declared.command_line.Next.TheVariants.{Anything}
use Rattle.bk_console.proofs.command_line.Given.with_instance.Goals as goal

pub returns-in_err-number-clause-takes : goal.returns-in_err-number-clause-takes
returns-in_err-number-clause-takes c = rw c.from_residual.ensures (no-number c.args.self c.args.value.now (sym c.in_err-number.ensures))

pub returns-then-is_some-clause-takes : goal.returns-then-is_some-clause-takes
returns-then-is_some-clause-takes c =
    let e : number_of c.args.value.now ≡ Some c.in_ok-number.number = search rules in
    second-number c.args.self.next c.args.self.dir c.args.self.stop c.args.self.instance (sym c.is_some.ensures ∙ c.if-is_some.true) c.in_ok-number.number c.args.value.now e

pub returns-clause-takes : goal.returns-clause-takes
returns-clause-takes c =
    let e : number_of c.args.value.now ≡ Some c.in_ok-number.number = search rules in
    first-number c.args.self.next Anything c.args.self.dir c.args.self.stop c.args.self.instance (sym c.is_some.ensures ∙ c.if-is_some.false) c.in_ok-number.number c.args.value.now e
