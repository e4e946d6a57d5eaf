use Rattle.std.proofs.Common.{◌≡◌, ◌∙◌, ℕ, Some, sym, ap, subst}
use Rattle.std.specs.Prelude.{set}
use Rattle.std.specs.List.{position}
use Rattle.bk_hosted.specs.Hosted.{names, running}
use Rattle.bk_hosting.specs.AskLaws.{described}
use Rattle.bk_hosting.specs.JobLaws.{set-but}
use Rattle.bk_machine.specs.Acts.{job_set}
use Rattle.bk_stores.specs.Standing.{AreStanding}
use Rattle.bk_engine.specs.JobLaws.{job-stands}
use Rattle.bk_engine.specs.Stands.{IsReady, Kept, StandsFor, own_in}
use Rattle.bk_engine.proofs.Named.{found-at}
use Rattle.bk_engine.proofs.Stepped.{put-copied}
use Rattle.bk_engine.proofs.Ran.{ready-same, same-own, standing-same}
use Rattle.bk_engine.proofs.engine.Engine.put_job.Goals as goal

pub returns-clause-stands : goal.returns-clause-stands
returns-clause-stands g c = λ tells w is may of.
    let a = g.D.Device.disk c.args.dev.now in
    let e : Kept = record { hosting = c.self.inside.hosting; drawn = c.self.inside.drawn; session = c.self.inside.session; sessions = c.self.inside.sessions.items } in
    let is' : StandsFor a e w = subst (λ (k : Kept). StandsFor a k w) (sym c.self.view_is) is in
    let at : ℕ = c.in-Some.at in
    let place : position (names c.args.name.now) is'.hosted ≡ Some at = sym (c.find.ensures.found is'.hosted (described a c.self.inside.hosting is'.hosted is'.hosting)) ∙ c.in-Some.is in
    let there = found-at c.args.name.now is'.hosted at place in
    job-stands a e c.set_job.new.self w (set is'.hosted at (running c.args.job there.0)) is' (set-but is'.hosted at there.0 c.args.job there.1) c.set_job.ensures.stores (c.set_job.ensures.stands is'.hosted there.0 is'.hosting.states there.1)
    c.args.name.now c.args.job (c.acts_keep_worlds_sound.ensures.act w (job_set c.args.name.now c.args.job) is'.sound may)
    (c.hosted_databases_follow_acts.ensures.job_set w c.args.name.now c.args.job is'.hosted at there.0 is'.hosts place there.1)
    (put-copied a w c.args.name.now is'.hosted at there.0 is'.hosts place there.1 c.args.job of is'.copied)

pub returns-clause-ready : goal.returns-clause-ready
returns-clause-ready g c =
    let e : Kept = record { hosting = c.self.inside.hosting; drawn = c.self.inside.drawn; session = c.self.inside.session; sessions = c.self.inside.sessions.items } in
    let ready' : IsReady e = subst IsReady (sym c.self.view_is) c.requires.ready in
    ready-same e c.set_job.new.self c.set_job.ensures.stores ready' (c.set_job.ensures.ready ready'.hosting)

pub returns-clause-own : goal.returns-clause-own
returns-clause-own g c =
    let e : Kept = record { hosting = c.self.inside.hosting; drawn = c.self.inside.drawn; session = c.self.inside.session; sessions = c.self.inside.sessions.items } in
    same-own e c.set_job.new.self c.set_job.ensures.stores ∙ ap own_in c.self.view_is

pub returns-clause-standing : goal.returns-clause-standing
returns-clause-standing g c = λ tells.
    let a = g.D.Device.disk c.args.dev.now in
    let e : Kept = record { hosting = c.self.inside.hosting; drawn = c.self.inside.drawn; session = c.self.inside.session; sessions = c.self.inside.sessions.items } in
    standing-same e c.set_job.new.self c.set_job.ensures.stores a (subst (λ (k : Kept). AreStanding a k.hosting.stores) (sym c.self.view_is) (c.requires.standing tells))
