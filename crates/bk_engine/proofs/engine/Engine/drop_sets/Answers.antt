use Rattle.std.proofs.Common.{◌≡◌, ◌∙◌, Bool, true, false, sym, ap, subst}
use Rattle.std.specs.Prelude.{if◌then◌else◌}
use Rattle.bk_device.specs.Compose.{effect_then, effect_weaken}
use Rattle.bk_device.specs.Effects.{Effect}
use Rattle.bk_machine.specs.Acts.{done, jobs_dropped}
use Rattle.bk_master.specs.declared.record.Own.{Own}
use Rattle.bk_engine.specs.JobLaws.{covers-dropped, dropped-idle}
use Rattle.bk_engine.specs.Stands.{Covers, IsOurs, StandsFor}
use Rattle.bk_engine.specs.Touched.{NoMedium, TouchesOnly}
use Rattle.bk_engine.specs.TouchLaws.{rest-touch, stores-touch}
use Rattle.bk_engine.proofs.engine.Engine.drop_sets.Goals as goal

pub returns-then-not-drop_jobs-clause-stands : goal.returns-then-not-drop_jobs-clause-stands
returns-then-not-drop_jobs-clause-stands g c = λ tells w is.
    let rests : StandsFor (g.D.Device.disk c.at_rest.new.dev) c.args.self.now w = subst (λ d. StandsFor (g.D.Device.disk d) c.args.self.now w) (sym c.at_rest.ensures.same) is in
    subst (λ (b : Bool). StandsFor (g.D.Device.disk c.drop_jobs.new.dev) c.drop_jobs.new.self (if b then done w jobs_dropped else w)) c.if-not-drop_jobs.true (c.drop_jobs.ensures.stands tells w rests)

pub returns-then-not-drop_jobs-clause-own : goal.returns-then-not-drop_jobs-clause-own
returns-then-not-drop_jobs-clause-own g c = (ap (λ (o : Own). o.number) c.drop_jobs.ensures.own, ap (λ (o : Own). o.staging) c.drop_jobs.ensures.own ∙ c.requires.none)

pub returns-then-not-drop_jobs-clause-none : goal.returns-then-not-drop_jobs-clause-none
returns-then-not-drop_jobs-clause-none g c = λ none. (c.drop_jobs.ensures.same ∙ c.at_rest.ensures.same, c.drop_jobs.ensures.none c.if-not-drop_jobs.true)

pub returns-then-not-drop_jobs-clause-still : goal.returns-then-not-drop_jobs-clause-still
returns-then-not-drop_jobs-clause-still g c = λ tells w is none. (c.drop_jobs.ensures.same ∙ c.at_rest.ensures.same, c.drop_jobs.ensures.none c.if-not-drop_jobs.true)

pub returns-then-not-drop_jobs-clause-idle : goal.returns-then-not-drop_jobs-clause-idle
returns-then-not-drop_jobs-clause-idle g c = λ tells w is none.
    let rests : StandsFor (g.D.Device.disk c.at_rest.new.dev) c.args.self.now w = subst (λ d. StandsFor (g.D.Device.disk d) c.args.self.now w) (sym c.at_rest.ensures.same) is in
    c.drop_jobs.ensures.idle tells w rests c.if-not-drop_jobs.true

pub returns-then-not-drop_jobs-clause-crash : goal.returns-then-not-drop_jobs-clause-crash
returns-then-not-drop_jobs-clause-crash g c = λ tells w is. subst (λ d. Effect IsOurs (Covers w) (g.D.Device.disk c.args.dev.now) (g.D.Device.disk d)) (sym c.drop_jobs.ensures.same) (c.at_rest.ensures.crash tells w is)

pub returns-then-not-drop_jobs-clause-touches : goal.returns-then-not-drop_jobs-clause-touches
returns-then-not-drop_jobs-clause-touches g c = λ tells. rest-touch g.D.Device.disk c.args.dev.now c.drop_jobs.new.dev (c.drop_jobs.ensures.same ∙ c.at_rest.ensures.same)

pub returns-in_err-remove_copied-clause-still : goal.returns-in_err-remove_copied-clause-still
returns-in_err-remove_copied-clause-still g c = λ tells w is none.
    let rests : StandsFor (g.D.Device.disk c.at_rest.new.dev) c.args.self.now w = subst (λ d. StandsFor (g.D.Device.disk d) c.args.self.now w) (sym c.at_rest.ensures.same) is in
    let quiet : c.drop_jobs.result ≡ false = c.drop_jobs.ensures.still tells w rests none in
    let both : true ≡ false = sym c.if-not-drop_jobs.false ∙ quiet in
    absurd (cc (both))

pub returns-in_err-remove_copied-clause-crash : goal.returns-in_err-remove_copied-clause-crash
returns-in_err-remove_copied-clause-crash g c = λ tells w is.
    let rests : StandsFor (g.D.Device.disk c.at_rest.new.dev) c.args.self.now w = subst (λ d. StandsFor (g.D.Device.disk d) c.args.self.now w) (sym c.at_rest.ensures.same) is in
    let ran : c.drop_jobs.result ≡ true = c.if-not-drop_jobs.false in
    let dropped = subst (λ (b : Bool). StandsFor (g.D.Device.disk c.drop_jobs.new.dev) c.drop_jobs.new.self (if b then done w jobs_dropped else w)) ran (c.drop_jobs.ensures.stands tells w rests) in
    let first = subst (λ d. Effect IsOurs (Covers w) (g.D.Device.disk c.args.dev.now) (g.D.Device.disk d)) (sym c.drop_jobs.ensures.same) (c.at_rest.ensures.crash tells w is) in
    let second = effect_then first (effect_weaken (λ image covers. covers-dropped w image covers) (c.remove_copied.ensures.crash tells (done w jobs_dropped) dropped)) in
    second

pub returns-in_err-remove_copied-clause-touches : goal.returns-in_err-remove_copied-clause-touches
returns-in_err-remove_copied-clause-touches g c = λ tells.
    let first = subst (λ d. TouchesOnly NoMedium (g.D.Device.disk c.args.dev.now) (g.D.Device.disk d)) (sym c.drop_jobs.ensures.same) (rest-touch g.D.Device.disk c.args.dev.now c.at_rest.new.dev c.at_rest.ensures.same) in
    let second = effect_then first (c.remove_copied.ensures.touches tells) in
    second

pub returns-in_err-put_sets-clause-still : goal.returns-in_err-put_sets-clause-still
returns-in_err-put_sets-clause-still g c = λ tells w is none.
    let rests : StandsFor (g.D.Device.disk c.at_rest.new.dev) c.args.self.now w = subst (λ d. StandsFor (g.D.Device.disk d) c.args.self.now w) (sym c.at_rest.ensures.same) is in
    let quiet : c.drop_jobs.result ≡ false = c.drop_jobs.ensures.still tells w rests none in
    let both : true ≡ false = sym c.if-not-drop_jobs.false ∙ quiet in
    absurd (cc (both))

pub returns-in_err-put_sets-clause-crash : goal.returns-in_err-put_sets-clause-crash
returns-in_err-put_sets-clause-crash g c = λ tells w is.
    let rests : StandsFor (g.D.Device.disk c.at_rest.new.dev) c.args.self.now w = subst (λ d. StandsFor (g.D.Device.disk d) c.args.self.now w) (sym c.at_rest.ensures.same) is in
    let ran : c.drop_jobs.result ≡ true = c.if-not-drop_jobs.false in
    let dropped = subst (λ (b : Bool). StandsFor (g.D.Device.disk c.drop_jobs.new.dev) c.drop_jobs.new.self (if b then done w jobs_dropped else w)) ran (c.drop_jobs.ensures.stands tells w rests) in
    let first = subst (λ d. Effect IsOurs (Covers w) (g.D.Device.disk c.args.dev.now) (g.D.Device.disk d)) (sym c.drop_jobs.ensures.same) (c.at_rest.ensures.crash tells w is) in
    let second = effect_then first (effect_weaken (λ image covers. covers-dropped w image covers) (c.remove_copied.ensures.crash tells (done w jobs_dropped) dropped)) in
    let removed = c.in_ok-remove_copied.ensures.stands tells (done w jobs_dropped) dropped (dropped-idle w) in
    effect_then second (effect_weaken (λ image covers. covers-dropped w image covers) (c.put_sets.ensures.crash tells (done w jobs_dropped) removed))

pub returns-in_err-put_sets-clause-touches : goal.returns-in_err-put_sets-clause-touches
returns-in_err-put_sets-clause-touches g c = λ tells.
    let first = subst (λ d. TouchesOnly NoMedium (g.D.Device.disk c.args.dev.now) (g.D.Device.disk d)) (sym c.drop_jobs.ensures.same) (rest-touch g.D.Device.disk c.args.dev.now c.at_rest.new.dev c.at_rest.ensures.same) in
    let second = effect_then first (c.remove_copied.ensures.touches tells) in
    effect_then second (stores-touch (c.put_sets.ensures.touches tells))

pub returns-clause-still : goal.returns-clause-still
returns-clause-still g c = λ tells w is none.
    let rests : StandsFor (g.D.Device.disk c.at_rest.new.dev) c.args.self.now w = subst (λ d. StandsFor (g.D.Device.disk d) c.args.self.now w) (sym c.at_rest.ensures.same) is in
    let quiet : c.drop_jobs.result ≡ false = c.drop_jobs.ensures.still tells w rests none in
    let both : true ≡ false = sym c.if-not-drop_jobs.false ∙ quiet in
    absurd (cc (both))

pub returns-clause-crash : goal.returns-clause-crash
returns-clause-crash g c = λ tells w is.
    let rests : StandsFor (g.D.Device.disk c.at_rest.new.dev) c.args.self.now w = subst (λ d. StandsFor (g.D.Device.disk d) c.args.self.now w) (sym c.at_rest.ensures.same) is in
    let ran : c.drop_jobs.result ≡ true = c.if-not-drop_jobs.false in
    let dropped = subst (λ (b : Bool). StandsFor (g.D.Device.disk c.drop_jobs.new.dev) c.drop_jobs.new.self (if b then done w jobs_dropped else w)) ran (c.drop_jobs.ensures.stands tells w rests) in
    let first = subst (λ d. Effect IsOurs (Covers w) (g.D.Device.disk c.args.dev.now) (g.D.Device.disk d)) (sym c.drop_jobs.ensures.same) (c.at_rest.ensures.crash tells w is) in
    let second = effect_then first (effect_weaken (λ image covers. covers-dropped w image covers) (c.remove_copied.ensures.crash tells (done w jobs_dropped) dropped)) in
    let removed = c.in_ok-remove_copied.ensures.stands tells (done w jobs_dropped) dropped (dropped-idle w) in
    effect_then second (effect_weaken (λ image covers. covers-dropped w image covers) (c.put_sets.ensures.crash tells (done w jobs_dropped) removed))

pub returns-clause-touches : goal.returns-clause-touches
returns-clause-touches g c = λ tells.
    let first = subst (λ d. TouchesOnly NoMedium (g.D.Device.disk c.args.dev.now) (g.D.Device.disk d)) (sym c.drop_jobs.ensures.same) (rest-touch g.D.Device.disk c.args.dev.now c.at_rest.new.dev c.at_rest.ensures.same) in
    let second = effect_then first (c.remove_copied.ensures.touches tells) in
    effect_then second (stores-touch (c.put_sets.ensures.touches tells))

pub returns-clause-stands : goal.returns-clause-stands
returns-clause-stands g c = λ tells w is.
    let rests : StandsFor (g.D.Device.disk c.at_rest.new.dev) c.args.self.now w = subst (λ d. StandsFor (g.D.Device.disk d) c.args.self.now w) (sym c.at_rest.ensures.same) is in
    let ran : c.drop_jobs.result ≡ true = c.if-not-drop_jobs.false in
    let dropped = subst (λ (b : Bool). StandsFor (g.D.Device.disk c.drop_jobs.new.dev) c.drop_jobs.new.self (if b then done w jobs_dropped else w)) ran (c.drop_jobs.ensures.stands tells w rests) in
    let removed = c.in_ok-remove_copied.ensures.stands tells (done w jobs_dropped) dropped (dropped-idle w) in
    c.in_ok-put_sets.ensures.stands tells (done w jobs_dropped) removed

pub returns-clause-own : goal.returns-clause-own
returns-clause-own g c = (c.in_ok-put_sets.ensures.own.0 ∙ ap (λ (o : Own). o.number) c.drop_jobs.ensures.own, c.in_ok-put_sets.ensures.own.1)

pub returns-clause-none : goal.returns-clause-none
returns-clause-none g c = λ wrong. absurd (cc (wrong))

pub returns-clause-idle : goal.returns-clause-idle
returns-clause-idle g c = λ tells w is wrong. absurd (cc (wrong))
