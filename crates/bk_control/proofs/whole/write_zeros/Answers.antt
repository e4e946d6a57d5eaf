use Rattle.std.proofs.lemmas.Result.{on_ok_weaker}
use Rattle.std.proofs.Common.{◌∙◌, ap, Some, List, ℕ}
use Rattle.std.proofs.lemmas.List.{take-replicate}
use Rattle.bk_device.specs.Calls.{contents, written}
use Rattle.bk_control.proofs.whole.write_zeros.Goals as goal

pub returns-clause-written : goal.returns-clause-written
returns-clause-written g c t =
    on_ok_weaker c.write.result (λ wrote. wrote ∙ ap (λ (zeros : List ℕ). Some (written (contents ((g.D.Device.disk c.args.dev.now).files c.args.name.now)) c.args.at zeros)) (take-replicate {X = ℕ} c.args.n 4096 0 c.requires.most)) (c.write.ensures.written t)
