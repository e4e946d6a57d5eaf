use Rattle.std.proofs.Common.{Some, refl, codes}
use Rattle.bk_console.specs.Words.{with_stop, with_other, behind}
use Rattle.bk_console.proofs.Taking.{taken, given_of, adds-stop, adds-instance, adds-end, adds-other, any-next}
use Rattle.bk_console.specs.declared.command_line.Next.TheVariants.{Anything, InstanceNumber, Directory}
use Rattle.bk_console.proofs.command_line.Given.with_any.Goals as goal

pub returns-in-text : goal.returns-in-text
returns-in-text c = taken c.args.self c.args.word.now c.with_stop.result with_stop c.args.self.next (adds-stop _ _ c.requires c.in-text.is) c.with_stop.ensures.takes c.with_stop.ensures.next

pub returns-in-text-2 : goal.returns-in-text-2
returns-in-text-2 c = taken c.args.self c.args.word.now (Some (given_of InstanceNumber c.args.self.dir c.args.self.stop c.args.self.instance)) (λ found. found) InstanceNumber
    (adds-instance _ _ c.requires c.in-text-2.is) (any-next c.args.self.next InstanceNumber c.args.self.dir c.args.self.stop c.args.self.instance) refl

pub returns-in-text-3 : goal.returns-in-text-3
returns-in-text-3 c = taken c.args.self c.args.word.now (Some (given_of Directory c.args.self.dir c.args.self.stop c.args.self.instance)) (λ found. found) Directory
    (adds-end _ _ c.requires c.in-text-3.is) (any-next c.args.self.next Directory c.args.self.dir c.args.self.stop c.args.self.instance) refl

pub returns-in_default : goal.returns-in_default
returns-in_default c = taken c.args.self c.args.word.now c.with_other.result (with_other (behind (codes "--instance=") c.args.word.now) c.args.word.now) Anything
    (adds-other _ _ c.requires c.in_default.not-text c.in_default.not-text-2 c.in_default.not-text-3) c.with_other.ensures.takes c.with_other.ensures.next
