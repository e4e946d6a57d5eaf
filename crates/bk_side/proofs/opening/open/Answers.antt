use Rattle.std.proofs.Common.{rules, sym, ◌∙◌}
use Rattle.bk_side.proofs.Files.{foreign_sealed, on_ok, made_effect}
use Rattle.bk_side.proofs.opening.open.Goals as goal

pub returns-in-Err-Foreign-clause-same : goal.returns-in-Err-Foreign-clause-same
returns-in-Err-Foreign-clause-same g c t =
    let none = foreign_sealed ((g.D.Device.disk c.args.dev.now).files c.args.name.now) (c.load.ensures.foreign t (search rules)) in
    on_ok c.make.result (λ empty. empty ∙ sym none) (c.make.ensures.empty t)

pub returns-in-Err-Foreign-clause-crash : goal.returns-in-Err-Foreign-clause-crash
returns-in-Err-Foreign-clause-crash g c t durable =
    made_effect (g.met.D.Device.lawful t c.args.dev.now) (c.load.ensures.effect t) durable
    (foreign_sealed ((g.D.Device.disk c.args.dev.now).files c.args.name.now) (c.load.ensures.foreign t (search rules))) (c.make.ensures.crash t)

pub returns-in-Err-Foreign-clause-still : goal.returns-in-Err-Foreign-clause-still
returns-in-Err-Foreign-clause-still g c t is = absurd (c.load.ensures.foreign t (search rules) is)
