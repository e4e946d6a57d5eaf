use Rattle.std.proofs.Common.{◌≡◌, ◌∙◌, ap, refl, length}
use Rattle.std.specs.Prelude.{nat_eq}
use Rattle.bk_archive.proofs.Begun.{begun-count, begun-foreign}
use Rattle.bk_archive.proofs.finishing.is_begun.Goals as goal

pub returns-in-Ok-clause-begun : goal.returns-in-Ok-clause-begun
returns-in-Ok-clause-begun g c t =
    let count : nat_eq c.count.result 0 ≡ nat_eq (length c.in-Ok.gate.spans) 0 = ap (λ n. nat_eq n 0) c.count.ensures in
    count ∙ begun-count ((g.D.Device.disk c.args.dev.now).files c.args.file.now) c.in-Ok.gate.spans (c.in-Ok.ensures.gate_file t) (c.in-Ok.ensures.spans t)

pub returns-in-Err-Foreign-clause-begun : goal.returns-in-Err-Foreign-clause-begun
returns-in-Err-Foreign-clause-begun g c t =
    let foreign = rw c.in-Err-Foreign.field-0-is at (c.in-Err-Foreign.ensures.foreign t) in
    begun-foreign ((g.D.Device.disk c.args.dev.now).files c.args.file.now) (foreign refl)
