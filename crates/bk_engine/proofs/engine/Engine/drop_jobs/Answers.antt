use Rattle.std.proofs.Common.{◌≡◌, ◌∙◌, map, None, sym, ap, subst}
use Rattle.std.specs.List.{AllByRecursion}
use Rattle.bk_hosted.specs.Hosted.{running}
use Rattle.bk_hosting.specs.Hosting.{Kept as KeptHosting}
use Rattle.bk_hosting.specs.JobLaws.{dropped-but}
use Rattle.bk_machine.specs.Acts.{jobs_dropped}
use Rattle.bk_machine.specs.World.{Database}
use Rattle.bk_stores.specs.Standing.{AreStanding}
use Rattle.bk_engine.specs.CopiedLaws.{copied-dropped}
use Rattle.bk_engine.specs.JobLaws.{dropped-stands}
use Rattle.bk_engine.specs.Stands.{IsReady, Kept, StandsFor, own_in}
use Rattle.bk_engine.proofs.Ran.{dropped-by, none-run, ready-same, same-own, standing-same}
use Rattle.bk_engine.proofs.NoneRun.{not-ran}
use Rattle.bk_engine.proofs.engine.Engine.drop_jobs.Goals as goal

pub returns-clause-stands : goal.returns-clause-stands
returns-clause-stands g c = λ tells w is.
    let b = g.D.Device.disk c.args.dev.now in
    let e : Kept = record { hosting = c.self.inside.hosting; drawn = c.self.inside.drawn; session = c.self.inside.session; sessions = c.self.inside.sessions.items } in
    let is' : StandsFor b e w = subst (λ (k : Kept). StandsFor b k w) (sym c.self.view_is) is in
    dropped-by c.drop_jobs.result b (record { hosting = c.drop_jobs.new.self; drawn = c.self.inside.drawn; session = c.self.inside.session; sessions = c.self.inside.sessions.items }) w
    (dropped-stands b e c.drop_jobs.new.self w (map (running None) is'.hosted) is' (dropped-but is'.hosted) c.drop_jobs.ensures.stores (c.drop_jobs.ensures.stands is'.hosted is'.hosting.states)
    (c.acts_keep_worlds_sound.ensures.act w jobs_dropped is'.sound tt) (c.hosted_databases_follow_acts.ensures.jobs_dropped w is'.hosted is'.hosts) (copied-dropped b is'.hosted))
    (λ none. subst (λ (x : KeptHosting). StandsFor b (record { hosting = x; drawn = c.self.inside.drawn; session = c.self.inside.session; sessions = c.self.inside.sessions.items }) w) (sym (c.drop_jobs.ensures.none none)) is')

pub returns-clause-none : goal.returns-clause-none
returns-clause-none g c = λ none.
    ap (λ (x : KeptHosting). let k : Kept = record { hosting = x; drawn = c.self.inside.drawn; session = c.self.inside.session; sessions = c.self.inside.sessions.items } in k) (c.drop_jobs.ensures.none none) ∙ c.self.view_is

pub returns-clause-still : goal.returns-clause-still
returns-clause-still g c = λ tells w is none.
    let a = g.D.Device.disk c.args.dev.now in
    let e : Kept = record { hosting = c.self.inside.hosting; drawn = c.self.inside.drawn; session = c.self.inside.session; sessions = c.self.inside.sessions.items } in
    let is' : StandsFor a e w = subst (λ (k : Kept). StandsFor a k w) (sym c.self.view_is) is in
    not-ran c.drop_jobs.result is'.hosted e.hosting.states is'.hosting.states (subst (AllByRecursion (λ (db : Database). db.job ≡ None)) is'.hosts.same none) c.drop_jobs.ensures.ran

pub returns-clause-idle : goal.returns-clause-idle
returns-clause-idle g c = λ tells w is none.
    let a = g.D.Device.disk c.args.dev.now in
    let e : Kept = record { hosting = c.self.inside.hosting; drawn = c.self.inside.drawn; session = c.self.inside.session; sessions = c.self.inside.sessions.items } in
    let is' : StandsFor a e w = subst (λ (k : Kept). StandsFor a k w) (sym c.self.view_is) is in
    subst (AllByRecursion (λ (db : Database). db.job ≡ None)) (sym is'.hosts.same) (none-run is'.hosted (c.drop_jobs.ensures.idle none is'.hosted is'.hosting.states))

pub returns-clause-ready : goal.returns-clause-ready
returns-clause-ready g c =
    let e : Kept = record { hosting = c.self.inside.hosting; drawn = c.self.inside.drawn; session = c.self.inside.session; sessions = c.self.inside.sessions.items } in
    let ready' : IsReady e = subst IsReady (sym c.self.view_is) c.requires.ready in
    ready-same e c.drop_jobs.new.self c.drop_jobs.ensures.stores ready' (c.drop_jobs.ensures.ready ready'.hosting)

pub returns-clause-own : goal.returns-clause-own
returns-clause-own g c =
    let e : Kept = record { hosting = c.self.inside.hosting; drawn = c.self.inside.drawn; session = c.self.inside.session; sessions = c.self.inside.sessions.items } in
    same-own e c.drop_jobs.new.self c.drop_jobs.ensures.stores ∙ ap own_in c.self.view_is

pub returns-clause-standing : goal.returns-clause-standing
returns-clause-standing g c = λ tells.
    let a = g.D.Device.disk c.args.dev.now in
    let e : Kept = record { hosting = c.self.inside.hosting; drawn = c.self.inside.drawn; session = c.self.inside.session; sessions = c.self.inside.sessions.items } in
    standing-same e c.drop_jobs.new.self c.drop_jobs.ensures.stores a (subst (λ (k : Kept). AreStanding a k.hosting.stores) (sym c.self.view_is) (c.requires.standing tells))
