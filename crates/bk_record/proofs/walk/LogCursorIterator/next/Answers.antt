use Rattle.std.proofs.lemmas.List.{take_rest}
use Rattle.bk_record.specs.View.{record_of}
use Rattle.bk_record.specs.WalkLaws.{after_shorter, step_reads, step_breaks, reads_shorter, breaks_shorter}
use Rattle.bk_record.proofs.walk.LogCursorIterator.next.Goals as goal

pub overflow_sub-self : goal.overflow_sub-self
overflow_sub-self c =
    let rest = take_rest c.self.inside.bytes.now c.self.inside.at in
    after_shorter c.self.inside.bytes.now c.self.inside.at (record_of c.in-Some.record) c.in-Some.after.now (rw rest at c.in-Some.ensures)

pub returns-in-Some-clause-steps : goal.returns-in-Some-clause-steps
returns-in-Some-clause-steps c =
    let rest = take_rest c.self.inside.bytes.now c.self.inside.at in
    rw (← c.self.view_is) (step_reads c.self.inside.bytes.now c.self.inside.at (record_of c.in-Some.record) c.in-Some.after.now c.self.invariant (rw rest at c.in-Some.ensures))

pub returns-in-Some-clause-goes : goal.returns-in-Some-clause-goes
returns-in-Some-clause-goes c =
    let rest = take_rest c.self.inside.bytes.now c.self.inside.at in
    let step = step_reads c.self.inside.bytes.now c.self.inside.at (record_of c.in-Some.record) c.in-Some.after.now c.self.invariant (rw rest at c.in-Some.ensures) in
    rw (← c.self.view_is) (record { on = λ h. (tt, tt, reads_shorter _ _ _ step); keeps = tt; rests = λ h. tt })

pub returns-in-None-clause-steps : goal.returns-in-None-clause-steps
returns-in-None-clause-steps c =
    let rest = take_rest c.self.inside.bytes.now c.self.inside.at in
    rw (← c.self.view_is) (step_breaks c.self.inside.bytes.now c.self.inside.at (rw rest at c.if-is_empty.ensures) (rw rest at c.in-None.ensures))

pub returns-in-None-clause-goes : goal.returns-in-None-clause-goes
returns-in-None-clause-goes c =
    let rest = take_rest c.self.inside.bytes.now c.self.inside.at in
    let step = step_breaks c.self.inside.bytes.now c.self.inside.at (rw rest at c.if-is_empty.ensures) (rw rest at c.in-None.ensures) in
    rw (← c.self.view_is) (record { on = λ h. (tt, tt, breaks_shorter _ _ _ step); keeps = tt; rests = λ h. tt })
