use Rattle.std.proofs.lemmas.Result.{on_ok_weaker}
use Rattle.bk_archive.specs.DiskLaws.{one-durable}
use Rattle.bk_archive.proofs.Clears.{finish-crash, finish-has}
use Rattle.bk_archive.proofs.finishing.finish_medium.Goals as goal

pub returns-clause-crash : goal.returns-clause-crash
returns-clause-crash g c tells = finish-crash (g.D.Device.disk c.args.dev.now) (g.D.Device.disk c.clear.new.dev) c.args.path.now c.clear.ensures.bytes (c.clear.ensures.crash tells)

pub returns-clause-finished : goal.returns-clause-finished
returns-clause-finished g c tells =
    on_ok_weaker c.clear.result
    (λ k. finish-has (g.D.Device.disk c.args.dev.now) (g.D.Device.disk c.clear.new.dev) c.args.path.now c.clear.ensures.bytes (c.clear.ensures.crash tells) k)
    (c.clear.ensures.cleared tells)

pub returns-clause-media : goal.returns-clause-media
returns-clause-media g c tells durable =
    on_ok_weaker c.clear.result
    (λ k. one-durable (g.D.Device.disk c.args.dev.now) (g.D.Device.disk c.clear.new.dev) c.args.path.now (c.clear.ensures.crash tells) k durable)
    (c.clear.ensures.durable tells (durable c.args.path.now c.clear.ensures.bytes))
