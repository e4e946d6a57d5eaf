use Rattle.std.proofs.Common.{◌≡◌, ◌∙◌, sym, subst}
use Rattle.std.proofs.lemmas.Result.{on_ok_weaker}
use Rattle.bk_device.specs.Calls.{ChangesNothing}
use Rattle.bk_engine.specs.Stands.{Kept, StandsFor, own_in}
use Rattle.bk_engine.specs.TouchLaws.{rest-still}
use Rattle.bk_machine.specs.Acts.{done_all}
use Rattle.bk_executing.proofs.Closings.{EndLaws, by-then, cuts-then, ends-closed, ends-cut, ends-early, ends-idle}
use Rattle.bk_executing.proofs.Results.{not-broken}
use Rattle.bk_executing.proofs.closing.close.Goals as goal

pub returns-in_err-drop_jobs-clause-crash : goal.returns-in_err-drop_jobs-clause-crash
returns-in_err-drop_jobs-clause-crash g c tells number w stands =
    let laws : EndLaws = record { comes = c.runs_are_closed.ensures.comes; sound = c.runs_are_closed_one_by_one.ensures.front_sound; jobless = c.runs_are_closed_one_by_one.ensures.jobless; closed = c.runs_are_closed_one_by_one.ensures.closed } in
    ends-early laws number w (g.D.Device.disk c.args.dev.now) (g.D.Device.disk c.drop_jobs.new.dev) stands.sound (c.drop_jobs.ensures.crash tells w stands)

pub returns-in_err-drop_jobs-clause-still : goal.returns-in_err-drop_jobs-clause-still
returns-in_err-drop_jobs-clause-still g c tells exact w stands idle = rest-still g.D.Device.disk c.args.dev.now c.drop_jobs.new.dev (c.drop_jobs.ensures.still tells w stands idle).0

pub returns-in_err-roll_all_back-clause-crash : goal.returns-in_err-roll_all_back-clause-crash
returns-in_err-roll_all_back-clause-crash g c tells number w stands =
    let laws : EndLaws = record { comes = c.runs_are_closed.ensures.comes; sound = c.runs_are_closed_one_by_one.ensures.front_sound; jobless = c.runs_are_closed_one_by_one.ensures.jobless; closed = c.runs_are_closed_one_by_one.ensures.closed } in
    let drops = c.in_ok-drop_jobs.ensures.drops tells w stands in
    ends-early laws number w (g.D.Device.disk c.args.dev.now) (g.D.Device.disk c.roll_all_back.new.dev) stands.sound
    (cuts-then w (g.D.Device.disk c.args.dev.now) (g.D.Device.disk c.drop_jobs.new.dev) (g.D.Device.disk c.roll_all_back.new.dev) c.drop_jobs.new.engine drops.by (c.roll_all_back.ensures.crash tells (done_all w drops.by.acts) drops.by.stands))

pub returns-in_err-roll_all_back-clause-still : goal.returns-in_err-roll_all_back-clause-still
returns-in_err-roll_all_back-clause-still g c tells exact w stands idle =
    let one = c.in_ok-drop_jobs.ensures.still tells w stands idle in
    let there : StandsFor (g.D.Device.disk c.drop_jobs.new.dev) c.drop_jobs.new.engine w = subst (λ d. StandsFor (g.D.Device.disk d) c.drop_jobs.new.engine w) (sym one.0) (subst (λ (e : Kept). StandsFor (g.D.Device.disk c.args.dev.now) e w) (sym one.1) stands) in
    rest-still g.D.Device.disk c.args.dev.now c.roll_all_back.new.dev ((c.roll_all_back.ensures.still tells w there idle).0 ∙ one.0)

pub returns-clause-closes : goal.returns-clause-closes
returns-clause-closes g c tells number w stands =
    let laws : EndLaws = record { comes = c.runs_are_closed.ensures.comes; sound = c.runs_are_closed_one_by_one.ensures.front_sound; jobless = c.runs_are_closed_one_by_one.ensures.jobless; closed = c.runs_are_closed_one_by_one.ensures.closed } in
    let drops = c.in_ok-drop_jobs.ensures.drops tells w stands in
    let rolls = c.in_ok-roll_all_back.ensures.rolls tells (done_all w drops.by.acts) drops.by.stands in
    let whole = by-then w (g.D.Device.disk c.args.dev.now) (g.D.Device.disk c.drop_jobs.new.dev) (g.D.Device.disk c.roll_all_back.new.dev) c.drop_jobs.new.engine drops.by c.roll_all_back.new.engine rolls.by in
    on_ok_weaker c.close.result (λ leaves. (
      whole.acts,
      ends-closed laws w (g.D.Device.disk c.args.dev.now) (g.D.Device.disk c.drop_jobs.new.dev) (g.D.Device.disk c.roll_all_back.new.dev) c.drop_jobs.new.engine c.roll_all_back.new.engine drops rolls,
      leaves,
      ends-cut laws w (g.D.Device.disk c.args.dev.now) (g.D.Device.disk c.drop_jobs.new.dev) (g.D.Device.disk c.roll_all_back.new.dev) c.drop_jobs.new.engine c.roll_all_back.new.engine drops rolls number (g.D.Device.disk c.close.new.dev) (c.close.ensures.crash tells number (done_all w whole.acts) whole.stands (ends-idle laws w (g.D.Device.disk c.args.dev.now) (g.D.Device.disk c.drop_jobs.new.dev) (g.D.Device.disk c.roll_all_back.new.dev) c.drop_jobs.new.engine c.roll_all_back.new.engine drops rolls)),
    )) (c.close.ensures.leaves tells number (done_all w whole.acts) whole.stands (ends-idle laws w (g.D.Device.disk c.args.dev.now) (g.D.Device.disk c.drop_jobs.new.dev) (g.D.Device.disk c.roll_all_back.new.dev) c.drop_jobs.new.engine c.roll_all_back.new.engine drops rolls))

pub returns-clause-crash : goal.returns-clause-crash
returns-clause-crash g c tells number w stands =
    let laws : EndLaws = record { comes = c.runs_are_closed.ensures.comes; sound = c.runs_are_closed_one_by_one.ensures.front_sound; jobless = c.runs_are_closed_one_by_one.ensures.jobless; closed = c.runs_are_closed_one_by_one.ensures.closed } in
    let drops = c.in_ok-drop_jobs.ensures.drops tells w stands in
    let rolls = c.in_ok-roll_all_back.ensures.rolls tells (done_all w drops.by.acts) drops.by.stands in
    let whole = by-then w (g.D.Device.disk c.args.dev.now) (g.D.Device.disk c.drop_jobs.new.dev) (g.D.Device.disk c.roll_all_back.new.dev) c.drop_jobs.new.engine drops.by c.roll_all_back.new.engine rolls.by in (
      whole.acts,
      ends-closed laws w (g.D.Device.disk c.args.dev.now) (g.D.Device.disk c.drop_jobs.new.dev) (g.D.Device.disk c.roll_all_back.new.dev) c.drop_jobs.new.engine c.roll_all_back.new.engine drops rolls,
      ends-cut laws w (g.D.Device.disk c.args.dev.now) (g.D.Device.disk c.drop_jobs.new.dev) (g.D.Device.disk c.roll_all_back.new.dev) c.drop_jobs.new.engine c.roll_all_back.new.engine drops rolls number (g.D.Device.disk c.close.new.dev) (c.close.ensures.crash tells number (done_all w whole.acts) whole.stands (ends-idle laws w (g.D.Device.disk c.args.dev.now) (g.D.Device.disk c.drop_jobs.new.dev) (g.D.Device.disk c.roll_all_back.new.dev) c.drop_jobs.new.engine c.roll_all_back.new.engine drops rolls)),
    )

pub returns-clause-still : goal.returns-clause-still
returns-clause-still g c tells exact w stands idle =
    let one = c.in_ok-drop_jobs.ensures.still tells w stands idle in
    let there : StandsFor (g.D.Device.disk c.drop_jobs.new.dev) c.drop_jobs.new.engine w = subst (λ d. StandsFor (g.D.Device.disk d) c.drop_jobs.new.engine w) (sym one.0) (subst (λ (e : Kept). StandsFor (g.D.Device.disk c.args.dev.now) e w) (sym one.1) stands) in
    let two = c.in_ok-roll_all_back.ensures.still tells w there idle in
    let rests : ChangesNothing (g.D.Device.disk c.roll_all_back.new.dev) (g.D.Device.disk c.close.new.dev) = c.close.ensures.still tells (subst (λ (e : Kept). (own_in e).counter ≡ e.drawn) (sym (two.1 ∙ one.1)) exact) in
    subst (λ d. ChangesNothing (g.D.Device.disk d) (g.D.Device.disk c.close.new.dev)) (two.0 ∙ one.0) rests

pub returns-clause-broken : goal.returns-clause-broken
returns-clause-broken g c tells is = absurd (not-broken c.close.result c.close.ensures.trouble is)
