use Rattle.bk_console.proofs.Taking.{second-stop, first-stop}
use Rattle.bk_console.proofs.command_line.Given.with_stop.Goals as goal

pub returns-then-self-clause-takes : goal.returns-then-self-clause-takes
returns-then-self-clause-takes c = second-stop c.args.self.next c.args.self.dir c.args.self.stop c.args.self.instance c.if-self.true

pub returns-clause-takes : goal.returns-clause-takes
returns-clause-takes c = first-stop c.args.self.next c.args.self.dir c.args.self.stop c.args.self.instance c.if-self.false
