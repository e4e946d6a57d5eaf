use Rattle.std.proofs.Common.{subst}
use Rattle.bk_paged.specs.StandLaws.{none-touches}
use Rattle.bk_store.specs.Store.{Crashes, IsStore}
use Rattle.bk_store.specs.Told.{Told}
use Rattle.bk_world.specs.Cut.{end_behind}
use Rattle.bk_world.specs.Records.{checkpointed, numbered}
use Rattle.bk_world.specs.Says.{alone}
use Rattle.bk_hosting.proofs.Answered.{answered, so}
use Rattle.bk_hosting.proofs.Checked.{marked-is}
use Rattle.bk_hosting.proofs.Said.{crash-none, rest-store}
use Rattle.bk_hosting.proofs.checkpointing.mark_store.Goals as goal

pub returns-then-end-clause-crash : goal.returns-then-end-clause-crash
returns-then-end-clause-crash g c = λ tells told is.
    let a = g.D.Device.disk c.args.dev.now in
    crash-none c.args.store.now told (numbered (end_behind told.records) (alone (checkpointed c.args.time))) a a is (rest-store c.args.store.now told a is)

pub returns-clause-stands : goal.returns-clause-stands
returns-clause-stands g c = λ tells told is.
    answered c.checkpoint.result
    (λ _ got.
    subst (λ (t : Told). IsStore (g.D.Device.disk c.checkpoint.new.dev) c.checkpoint.new.self t) (marked-is c.args.store.now told c.args.time (g.D.Device.disk c.args.dev.now) is)
    (so c.checkpoint.result got (c.checkpoint.ensures.stands tells told is)))

pub returns-clause-crash : goal.returns-clause-crash
returns-clause-crash g c = λ tells told is.
    subst (λ (t : Told). Crashes c.args.store.now t (g.D.Device.disk c.args.dev.now) (g.D.Device.disk c.checkpoint.new.dev)) (marked-is c.args.store.now told c.args.time (g.D.Device.disk c.args.dev.now) is)
    (c.checkpoint.ensures.crash tells told is)

pub returns-then-end-clause-touches : goal.returns-then-end-clause-touches
returns-then-end-clause-touches g c = λ tells. none-touches c.args.store.now.paged (g.D.Device.disk c.args.dev.now)
