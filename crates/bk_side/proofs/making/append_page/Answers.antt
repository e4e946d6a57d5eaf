use Rattle.std.proofs.lemmas.Result.{on_ok_weaker}
use Rattle.std.proofs.Common.{◌*◌, ℕ, ap}
use Rattle.bk_device.specs.Calls.{contents}
use Rattle.bk_side.proofs.Files.{fresh_more}
use Rattle.bk_side.proofs.making.append_page.Goals as goal

pub returns-clause-fresh : goal.returns-clause-fresh
returns-clause-fresh g c t =
    on_ok_weaker c.write.result (λ wrote. fresh_more c.args.file c.args.number (contents ((g.D.Device.disk c.args.dev.now).files c.args.name.now)) _ c.format_page.new.page _ (c.requires t) (ap (λ (n : ℕ). 8192 * n) c.from.ensures) c.format_page.ensures c.format_page.array_long
    (ap contents wrote)) (c.write.ensures.written t)
