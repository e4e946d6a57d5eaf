use Rattle.std.proofs.Common.{◌≡◌, ◌∙◌, Some, sym, ap, subst}
use Rattle.std.specs.List.{position}
use Rattle.std.proofs.lemmas.Option.{same_Some}
use Rattle.bk_hosted.specs.Hosted.{database_of, names}
use Rattle.bk_hosted.specs.PlaceLaws.{named-there}
use Rattle.bk_machine.specs.World.{Database}
use Rattle.bk_engine.specs.Stands.{Kept}
use Rattle.bk_engine.specs.Viewing.{Remembers}
use Rattle.bk_engine.proofs.Named.{found-at}
use Rattle.bk_engine.proofs.Ran.{named-some}
use Rattle.bk_engine.proofs.engine.Engine.job_named.Goals as goal

pub returns : goal.returns
returns c = named-some (λ job. job.now) c.job.result c.args.self.now c.args.name.now (λ w db knows found.
    let e : Kept = record { hosting = c.self.inside.hosting; drawn = c.self.inside.drawn; session = c.self.inside.session; sessions = c.self.inside.sessions.items } in
    let knows' : Remembers e w = subst (λ (k : Kept). Remembers k w) (sym c.self.view_is) knows in
    let at = c.in_ok-at.at in
    let place : position (names c.args.name.now) knows'.hosted ≡ Some at = sym (c.find.ensures.found knows'.hosted knows'.memory.described) ∙ c.in_ok-at.was in
    let there = found-at c.args.name.now knows'.hosted at place in
    let named = named-there w c.args.name.now knows'.hosted at there.0 knows'.hosts place there.1 in
    c.job.ensures knows'.hosted there.0 knows'.memory.states there.1 ∙ ap (λ (d : Database). d.job) (same_Some (database_of there.0) db (sym named.0 ∙ found)))
