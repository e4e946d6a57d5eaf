use Rattle.bk_console.specs.Words.{with_dir, with_instance}
use Rattle.bk_console.proofs.Taking.{taken, adds-value, adds-dir}
use Rattle.bk_console.specs.declared.command_line.Next.TheVariants.{Anything}
use Rattle.bk_console.proofs.command_line.Given.with.Goals as goal

pub returns-in-InstanceNumber : goal.returns-in-InstanceNumber
returns-in-InstanceNumber c = taken c.args.self c.args.word.now c.with_instance.result (with_instance c.args.word.now) Anything (adds-value _ _ c.in-InstanceNumber.is) c.with_instance.ensures.takes c.with_instance.ensures.next

pub returns-in-Directory : goal.returns-in-Directory
returns-in-Directory c = taken c.args.self c.args.word.now c.with_dir.result (with_dir c.args.word.now) c.args.self.next (adds-dir _ _ c.in-Directory.is) c.with_dir.ensures.takes c.with_dir.ensures.next
