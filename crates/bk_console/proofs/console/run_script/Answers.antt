use Rattle.std.proofs.Common.{Err, inr, ap, subst, refl}
use Rattle.bk_syntax.specs.Items.{AreItems}
use Rattle.bk_console.specs.Run.{ended_status}
use Rattle.bk_console.proofs.Running.{Laws, refused-words, failed-reading, ran-whole}
use Rattle.bk_console.proofs.console.run_script.Goals as goal

pub returns-in-Err-clause-run : goal.returns-in-Err-clause-run
returns-in-Err-clause-run g c =
    let laws : Laws = record { crashes = c.crashes_leave_worlds.ensures; begins = c.runs_begin_and_end_in_sound_worlds.ensures.begins; begins_idle = c.runs_begin_and_end_in_sound_worlds.ensures.begins_idle } in
    rw c.from.ensures (refused-words laws _ _ _ _ _ _ _ _ (λ t. g.met.D.Device.lawful t c.args.device.now) c.in-Err.error (λ t. refl))

pub returns-in-Err-read_script-clause-run : goal.returns-in-Err-read_script-clause-run
returns-in-Err-read_script-clause-run g c =
    let read = c.in-Err-read_script.ensures.read in
    let laws : Laws = record { crashes = c.crashes_leave_worlds.ensures; begins = c.runs_begin_and_end_in_sound_worlds.ensures.begins; begins_idle = c.runs_begin_and_end_in_sound_worlds.ensures.begins_idle } in
    rw c.from-in-Err-read_script.ensures (failed-reading laws _ _ _ _ _ _ _ _ (λ t. g.met.D.Device.lawful t c.args.device.now)
    c.in-Err-read_script.error read.0 read.2 read.1 (λ h. read.3 (ap Err h)) (λ h. read.4 (ap Err h)))

pub returns-in-Ok-over_instance-clause-run : goal.returns-in-Ok-over_instance-clause-run
returns-in-Ok-over_instance-clause-run g c =
    let script = c.one_item_list.ensures.some c.deref.result.now in
    let done = c.in-Ok-over_instance.ensures.over in
    rw (c.from-in-Ok-over_instance.ensures, c.in-Ok.ensures.asked) (ran-whole _ _ _ _ _ _ _ _ _ _ (ended_status c.in-Ok-over_instance.ended) c.in-Ok-read_script.script.items script.0 c.in-Ok-read_script.ensures.whole c.in-Ok-read_script.ensures.short
    (subst (λ b. AreItems b script.0) c.deref.ensures.value script.1) (λ h. done.begun (inr (inr h))) (done.executed script.0 script.1))

pub returns-clause-run : goal.returns-clause-run
returns-clause-run g c =
    let script = c.one_item_list.ensures.some c.deref.result.now in
    let ended = c.in-Err-over_instance.ensures.over in
    rw c.in-Ok.ensures.asked (ran-whole _ _ _ _ _ _ _ _ _ _ c.in-Err-over_instance.status c.in-Ok-read_script.script.items script.0 c.in-Ok-read_script.ensures.whole c.in-Ok-read_script.ensures.short
    (subst (λ b. AreItems b script.0) c.deref.ensures.value script.1) (λ h. ended.begun (inr (inr h))) (ended.executed script.0 script.1))

pub returns-clause-settled : goal.returns-clause-settled
returns-clause-settled g c t settled h = absurd (c.in-Err-over_instance.ensures.over.fails h)
