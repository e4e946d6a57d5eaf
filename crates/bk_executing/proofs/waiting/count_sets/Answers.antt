use Rattle.std.proofs.Common.{List, ℕ, Ok, Some, ◌∙◌, sym, subst}
use Rattle.std.specs.Prelude.{IfOk}
use Rattle.bk_engine.specs.ViewLaws.{remembers}
use Rattle.bk_machine.specs.statements.Backup.{ShowsRoom}
use Rattle.bk_world.specs.Medium.{medium_at}
use Rattle.bk_executing.proofs.WaitDone.{each-sets, no-sets}
use Rattle.bk_executing.proofs.waiting.count_sets.Goals as goal

pub returns-in-Some-clause-sets : goal.returns-in-Some-clause-sets
returns-in-Some-clause-sets g c tells w stands =
    each-sets c.sets_at.result w c.in-Some.path (sym c.in-Some.is ∙ c.in_ok-path.ensures w (remembers (g.D.Device.disk c.args.dev.now) c.args.engine.now w stands))
    (subst (λ (p : List ℕ). IfOk c.sets_at.result (λ sets. ShowsRoom (medium_at w.media p) (Ok (Some sets)))) c.as_str.ensures (c.sets_at.ensures.sets tells w stands.media))

pub returns-in-None-clause-sets : goal.returns-in-None-clause-sets
returns-in-None-clause-sets g c tells w stands = no-sets w 0 (sym c.in-None.is ∙ c.in_ok-path.ensures w (remembers (g.D.Device.disk c.args.dev.now) c.args.engine.now w stands))
