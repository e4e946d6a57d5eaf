use Rattle.std.proofs.lemmas.Result.{on_ok_weaker}
use Rattle.bk_device.specs.Compose.{effect_weaken}
use Rattle.std.proofs.Common.{List, ℕ, [], ◌∷◌, ◌++◌, inl, ap, ◌∙◌}
use Rattle.bk_msdb.proofs.Steps.{sealed_crash}
use Rattle.bk_msdb.proofs.making.seal_blob.Goals as goal

pub returns-in_err-see_to_file-clause-crash : goal.returns-in_err-see_to_file-clause-crash
returns-in_err-see_to_file-clause-crash g c t = effect_weaken (λ image kept. inl kept) (c.see_to_file.ensures.crash t)

pub returns-clause-crash : goal.returns-clause-crash
returns-clause-crash g c t =
    sealed_crash c.args.gate.now.name c.args.bytes.now (g.D.Device.disk c.args.dev.now) (g.D.Device.disk c.see_to_file.new.dev) (g.D.Device.disk c.append_reserved.new.dev) (c.in_ok-see_to_file.ensures.same t)
    (c.see_to_file.ensures.crash t) (c.append_reserved.ensures.crash t)

pub returns-clause-sealed : goal.returns-clause-sealed
returns-clause-sealed g c t =
    on_ok_weaker c.append_reserved.result (λ sealed. sealed ∙ ap (λ (blobs : List (List ℕ)). blobs ++ c.args.bytes.now ∷ []) (c.in_ok-see_to_file.ensures.same t)) (c.append_reserved.ensures.sealed t)
