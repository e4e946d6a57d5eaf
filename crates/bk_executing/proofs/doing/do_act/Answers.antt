use Rattle.std.proofs.Common.{ℕ, List, sym, subst}
use Rattle.std.specs.Prelude.{OnOk}
use Rattle.bk_acts.specs.declared.act.StoredAct.{StoredAct}
use Rattle.bk_device.specs.Effects.{Effect}
use Rattle.bk_engine.specs.Acts.{CutsAct, DoesAct, MayMark, marking}
use Rattle.bk_engine.specs.Stands.{IsOurs, StandsFor}
use Rattle.bk_machine.specs.Acts.{based, done, dropped}
use Rattle.bk_machine.specs.World.{Database, World}
use Rattle.bk_executing.specs.Parts.{CutsStored, DoesStored}
use Rattle.bk_executing.proofs.Stored.{based-cuts, based-does, dropped-cuts, dropped-does, marked-cuts, marked-does}
use Rattle.bk_executing.proofs.doing.do_act.Goals as goal

pub returns-in-Created-clause-does : goal.returns-in-Created-clause-does
returns-in-Created-clause-does g c tells = subst (λ (x : StoredAct). OnOk c.create.result (DoesStored c.args.engine.now (g.D.Device.disk c.args.dev.now) x c.create.new.engine (g.D.Device.disk c.create.new.dev))) (sym c.in-Created.is) (c.create.ensures.does tells)

pub returns-in-Created-clause-crash : goal.returns-in-Created-clause-crash
returns-in-Created-clause-crash g c tells = subst (λ (x : StoredAct). CutsStored c.args.engine.now (g.D.Device.disk c.args.dev.now) x (g.D.Device.disk c.create.new.dev)) (sym c.in-Created.is) (c.create.ensures.crash tells)

pub returns-in-Logged-clause-does : goal.returns-in-Logged-clause-does
returns-in-Logged-clause-does g c tells = subst (λ (x : StoredAct). OnOk c.say.result (DoesStored c.args.engine.now (g.D.Device.disk c.args.dev.now) x c.say.new.engine (g.D.Device.disk c.say.new.dev))) (sym c.in-Logged.is) (c.say.ensures.does tells)

pub returns-in-Logged-clause-crash : goal.returns-in-Logged-clause-crash
returns-in-Logged-clause-crash g c tells = subst (λ (x : StoredAct). CutsStored c.args.engine.now (g.D.Device.disk c.args.dev.now) x (g.D.Device.disk c.say.new.dev)) (sym c.in-Logged.is) (c.say.ensures.crash tells)

pub returns-in-Dropped-clause-does : goal.returns-in-Dropped-clause-does
returns-in-Dropped-clause-does g c tells = subst (λ (x : StoredAct). OnOk c.drop.result (DoesStored c.args.engine.now (g.D.Device.disk c.args.dev.now) x c.drop.new.self (g.D.Device.disk c.drop.new.dev))) (sym c.in-Dropped.is) (dropped-does c.drop.result c.args.engine.now c.drop.new.self (g.D.Device.disk c.args.dev.now) (g.D.Device.disk c.drop.new.dev) c.in-Dropped.name (subst (λ (n : List ℕ). OnOk c.drop.result (DoesAct c.args.engine.now (g.D.Device.disk c.args.dev.now) (dropped n) c.drop.new.self (g.D.Device.disk c.drop.new.dev))) c.as_str.ensures.spelling (c.drop.ensures.stands tells)))

pub returns-in-Dropped-clause-crash : goal.returns-in-Dropped-clause-crash
returns-in-Dropped-clause-crash g c tells = subst (λ (x : StoredAct). CutsStored c.args.engine.now (g.D.Device.disk c.args.dev.now) x (g.D.Device.disk c.drop.new.dev)) (sym c.in-Dropped.is) (dropped-cuts c.drop.result c.args.engine.now c.drop.new.self (g.D.Device.disk c.args.dev.now) (g.D.Device.disk c.drop.new.dev) c.in-Dropped.name (subst (λ (n : List ℕ). (w : World) → StandsFor (g.D.Device.disk c.args.dev.now) c.args.engine.now w → Effect IsOurs (CutsAct w (dropped n)) (g.D.Device.disk c.args.dev.now) (g.D.Device.disk c.drop.new.dev)) c.as_str.ensures.spelling (c.drop.ensures.crash tells)))

pub returns-in-Checkpointed-clause-does : goal.returns-in-Checkpointed-clause-does
returns-in-Checkpointed-clause-does g c tells = subst (λ (x : StoredAct). OnOk c.checkpoint.result (DoesStored c.args.engine.now (g.D.Device.disk c.args.dev.now) x c.checkpoint.new.self (g.D.Device.disk c.checkpoint.new.dev))) (sym c.in-Checkpointed.is) (marked-does c.checkpoint.result c.args.engine.now c.checkpoint.new.self (g.D.Device.disk c.args.dev.now) (g.D.Device.disk c.checkpoint.new.dev) c.in-Checkpointed.name c.in-Checkpointed.time c.in-Checkpointed.kept (subst (λ (n : List ℕ). (w : World) (db : Database) → StandsFor (g.D.Device.disk c.args.dev.now) c.args.engine.now w → MayMark w n c.in-Checkpointed.time c.in-Checkpointed.kept db → OnOk c.checkpoint.result (StandsFor (g.D.Device.disk c.checkpoint.new.dev) c.checkpoint.new.self (done w (marking n c.in-Checkpointed.time db)))) c.as_str-in-Checkpointed.ensures.spelling (c.checkpoint.ensures.stands tells)))

pub returns-in-Checkpointed-clause-crash : goal.returns-in-Checkpointed-clause-crash
returns-in-Checkpointed-clause-crash g c tells = subst (λ (x : StoredAct). CutsStored c.args.engine.now (g.D.Device.disk c.args.dev.now) x (g.D.Device.disk c.checkpoint.new.dev)) (sym c.in-Checkpointed.is) (marked-cuts c.checkpoint.result c.args.engine.now c.checkpoint.new.self (g.D.Device.disk c.args.dev.now) (g.D.Device.disk c.checkpoint.new.dev) c.in-Checkpointed.name c.in-Checkpointed.time c.in-Checkpointed.kept (subst (λ (n : List ℕ). (w : World) (db : Database) → StandsFor (g.D.Device.disk c.args.dev.now) c.args.engine.now w → MayMark w n c.in-Checkpointed.time c.in-Checkpointed.kept db → Effect IsOurs (CutsAct w (marking n c.in-Checkpointed.time db)) (g.D.Device.disk c.args.dev.now) (g.D.Device.disk c.checkpoint.new.dev)) c.as_str-in-Checkpointed.ensures.spelling (c.checkpoint.ensures.crash tells)))

pub returns-in-Based-clause-does : goal.returns-in-Based-clause-does
returns-in-Based-clause-does g c tells = subst (λ (x : StoredAct). OnOk c.base.result (DoesStored c.args.engine.now (g.D.Device.disk c.args.dev.now) x c.base.new.self (g.D.Device.disk c.base.new.dev))) (sym c.in-Based.is) (based-does c.base.result c.args.engine.now c.base.new.self (g.D.Device.disk c.args.dev.now) (g.D.Device.disk c.base.new.dev) c.in-Based.name c.in-Based.header (subst (λ (n : List ℕ). OnOk c.base.result (DoesAct c.args.engine.now (g.D.Device.disk c.args.dev.now) (based n c.in-Based.header) c.base.new.self (g.D.Device.disk c.base.new.dev))) c.as_str-in-Based.ensures.spelling (c.base.ensures.stands tells)))

pub returns-in-Based-clause-crash : goal.returns-in-Based-clause-crash
returns-in-Based-clause-crash g c tells = subst (λ (x : StoredAct). CutsStored c.args.engine.now (g.D.Device.disk c.args.dev.now) x (g.D.Device.disk c.base.new.dev)) (sym c.in-Based.is) (based-cuts c.base.result c.args.engine.now c.base.new.self (g.D.Device.disk c.args.dev.now) (g.D.Device.disk c.base.new.dev) c.in-Based.name c.in-Based.header (subst (λ (n : List ℕ). (w : World) → StandsFor (g.D.Device.disk c.args.dev.now) c.args.engine.now w → Effect IsOurs (CutsAct w (based n c.in-Based.header)) (g.D.Device.disk c.args.dev.now) (g.D.Device.disk c.base.new.dev)) c.as_str-in-Based.ensures.spelling (c.base.ensures.crash tells)))
