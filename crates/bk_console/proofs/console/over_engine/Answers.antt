use Rattle.std.proofs.Common.{◌≡◌, ◌∙◌, ap, sym, Err}
use Rattle.std.proofs.lemmas.Result.{err_from_is_err_and}
use Rattle.bk_device.specs.Compose.{keeps_then}
use Rattle.bk_executing.specs.EngineTouchLaws.{wider-touch}
use Rattle.bk_machine.specs.World.{opened}
use Rattle.bk_console.specs.Run.{answer_status, close_status, load_status}
use Rattle.bk_console.specs.declared.status.Status.TheVariants.{Broken}
use Rattle.bk_console.proofs.Asking.{keeps-touched}
use Rattle.bk_console.proofs.Running.{Laws, Loads, Begins, Ends, not-loaded, cut-short, not-closed, closed-there, came, load-broken, answer-broken, close-broken}
use Rattle.bk_console.proofs.console.over_engine.Goals as goal

pub returns-in_err-engine-clause-executed : goal.returns-in_err-engine-clause-executed
returns-in_err-engine-clause-executed g c ss are =
    let p = err_from_is_err_and c.from_residual.result c.from_residual.ensures.1 in
    let laws : Laws = record { crashes = c.crashes_leave_worlds.ensures; begins = c.runs_begin_and_end_in_sound_worlds.ensures.begins; begins_idle = c.runs_begin_and_end_in_sound_worlds.ensures.begins_idle } in
    rw (p.1, p.2) (not-loaded laws _ _ _ _ (g.C.Clock.coming c.args.clock.now) _ _ _
    (record { lawful = λ t. g.met.D.Device.lawful t c.args.device.now; crash = c.load.ensures.crash; touches = c.load.ensures.touches; spares = c.load.ensures.spares }) c.in_err-engine.field-0.0)

pub returns-in-Err-clause-executed : goal.returns-in-Err-clause-executed
returns-in-Err-clause-executed g c ss are =
    let laws : Laws = record { crashes = c.crashes_leave_worlds.ensures; begins = c.runs_begin_and_end_in_sound_worlds.ensures.begins; begins_idle = c.runs_begin_and_end_in_sound_worlds.ensures.begins_idle } in
    rw c.from.ensures (cut-short laws _ _ _ _ _ _ _ _
    (record { lawful = λ t. g.met.D.Device.lawful t c.args.device.now; crash = c.in_ok-engine.ensures.crash; touches = c.in_ok-engine.ensures.touches; spares = c.in_ok-engine.ensures.spares })
    _ _ (record { stands = c.in_ok-engine.ensures.stands; still = c.in_ok-engine.ensures.still; exact = c.in_ok-engine.ensures.exact }) c.in-Err.error (c.in-Err.ensures.cut_short ss are))

pub returns-in_err-closed-in-Ok-clause-executed : goal.returns-in_err-closed-in-Ok-clause-executed
returns-in_err-closed-in-Ok-clause-executed g c ss are =
    let p = err_from_is_err_and c.from_residual-in_err-closed-in-Ok.result c.from_residual-in_err-closed-in-Ok.ensures.1 in
    let laws : Laws = record { crashes = c.crashes_leave_worlds.ensures; begins = c.runs_begin_and_end_in_sound_worlds.ensures.begins; begins_idle = c.runs_begin_and_end_in_sound_worlds.ensures.begins_idle } in
    rw (p.1, p.2) (not-closed laws _ _ _ _ _ _ _ _
    (record { lawful = λ t. g.met.D.Device.lawful t c.args.device.now; crash = c.in_ok-engine.ensures.crash; touches = c.in_ok-engine.ensures.touches; spares = c.in_ok-engine.ensures.spares })
    _ _ (record { stands = c.in_ok-engine.ensures.stands; still = c.in_ok-engine.ensures.still; exact = c.in_ok-engine.ensures.exact })
    _ _ (came c.in-Ok.ended _ _ _ _ _ _ _ _ _ _ (c.in-Ok.ensures.answered ss are))
    (record { lawful = λ t. g.met.D.Device.lawful t c.close-closed.new.dev; crash = c.in_err-closed-in-Ok.ensures.crash; still = c.in_err-closed-in-Ok.ensures.still; touches = c.in_err-closed-in-Ok.ensures.touches })
    c.in_err-closed-in-Ok.field-0.0)

pub returns-in_ok-closed-in-Ok-clause-executed : goal.returns-in_ok-closed-in-Ok-clause-executed
returns-in_ok-closed-in-Ok-clause-executed g c ss are =
    let laws : Laws = record { crashes = c.crashes_leave_worlds.ensures; begins = c.runs_begin_and_end_in_sound_worlds.ensures.begins; begins_idle = c.runs_begin_and_end_in_sound_worlds.ensures.begins_idle } in
    closed-there laws _ _ _ _ _ _ _ _
    (record { lawful = λ t. g.met.D.Device.lawful t c.args.device.now; crash = c.in_ok-engine.ensures.crash; touches = c.in_ok-engine.ensures.touches; spares = c.in_ok-engine.ensures.spares })
    _ _ (record { stands = c.in_ok-engine.ensures.stands; still = c.in_ok-engine.ensures.still; exact = c.in_ok-engine.ensures.exact })
    _ _ c.in-Ok.ended (c.in-Ok.ensures.answered ss are)
    (record { lawful = λ t. g.met.D.Device.lawful t c.close-closed.new.dev; crash = c.in_ok-closed-in-Ok.ensures.crash; still = c.in_ok-closed-in-Ok.ensures.still; touches = c.in_ok-closed-in-Ok.ensures.touches })
    (record { closes = c.in_ok-closed-in-Ok.ensures.closes; made = λ t. (c.in_ok-closed-in-Ok.ensures.standing t).master.made })

pub returns-in_err-engine-clause-unbroken : goal.returns-in_err-engine-clause-unbroken
returns-in_err-engine-clause-unbroken g c t settled w stands h =
    let p = err_from_is_err_and c.from_residual.result c.from_residual.ensures.1 in
    let same : load_status c.in_err-engine.field-0.0 ≡ Broken = sym p.2 ∙ (rw p.1 at h) in
    c.in_err-engine.ensures.broken t (ap Err (load-broken c.in_err-engine.field-0.0 same)) settled w stands

pub returns-in-Err-clause-unbroken : goal.returns-in-Err-clause-unbroken
returns-in-Err-clause-unbroken g c t settled w stands h =
    let same : answer_status c.in-Err.error ≡ Broken = sym c.from.ensures ∙ h in
    c.in-Err.ensures.broken t (ap Err (answer-broken c.in-Err.error same)) (opened w) (c.in_ok-engine.ensures.stands t settled w stands)

pub returns-in_err-closed-in-Ok-clause-unbroken : goal.returns-in_err-closed-in-Ok-clause-unbroken
returns-in_err-closed-in-Ok-clause-unbroken g c t settled w stands h =
    let p = err_from_is_err_and c.from_residual-in_err-closed-in-Ok.result c.from_residual-in_err-closed-in-Ok.ensures.1 in
    let same : close_status c.in_err-closed-in-Ok.field-0.0 ≡ Broken = sym p.2 ∙ (rw p.1 at h) in
    let to = c.in-Ok.ensures.stands t (opened w) (c.in_ok-engine.ensures.stands t settled w stands) in
    c.in_err-closed-in-Ok.ensures.broken t (ap Err (close-broken c.in_err-closed-in-Ok.field-0.0 same)) to.0 to.1

pub returns-in_err-engine-clause-others : goal.returns-in_err-engine-clause-others
returns-in_err-engine-clause-others g c t = keeps-touched (c.load.ensures.touches t)

pub returns-in-Err-clause-others : goal.returns-in-Err-clause-others
returns-in-Err-clause-others g c t = keeps_then (keeps-touched (c.in_ok-engine.ensures.touches t)) (c.in-Err.ensures.others t)

pub returns-in_err-closed-in-Ok-clause-others : goal.returns-in_err-closed-in-Ok-clause-others
returns-in_err-closed-in-Ok-clause-others g c t = keeps_then (keeps_then (keeps-touched (c.in_ok-engine.ensures.touches t)) (c.in-Ok.ensures.others t)) (keeps-touched (wider-touch (λ path no. tt) (c.in_err-closed-in-Ok.ensures.touches t)))

pub returns-in_ok-closed-in-Ok-clause-others : goal.returns-in_ok-closed-in-Ok-clause-others
returns-in_ok-closed-in-Ok-clause-others g c t = keeps_then (keeps_then (keeps-touched (c.in_ok-engine.ensures.touches t)) (c.in-Ok.ensures.others t)) (keeps-touched (wider-touch (λ path no. tt) (c.in_ok-closed-in-Ok.ensures.touches t)))
