use Rattle.std.proofs.lemmas.Result.{on_ok_weaker}
use Rattle.std.proofs.Common.{ap, ◌∙◌}
use Rattle.bk_gate.specs.Gate.{Kept}
use Rattle.bk_volume.proofs.Blobs.{parts_put}
use Rattle.bk_volume.proofs.sealing.put_parts.Goals as goal

pub returns-clause-added : goal.returns-clause-added
returns-clause-added g c t =
    on_ok_weaker c.copy_part-2.result (parts_put c.args.parts.file.now c.args.parts.front.now c.args.parts.size.now c.args.parts.extents c.args.parts.log c.args.gate.now c.put.new.gate c.copy_part.new.gate c.put-2.new.gate c.copy_part-2.new.gate
    c.put.new.hasher c.copy_part.new.hasher c.put-2.new.hasher c.copy_part-2.new.hasher c.requires.apart c.put.ensures.name c.copy_part.ensures.name c.put-2.ensures.name
    (c.in_ok-put.ensures.added t) (c.put.ensures.crash t) (c.in_ok-copy_part.ensures.copied t) (c.in_ok-put-2.ensures.added t) (c.put-2.ensures.crash t)) (c.copy_part-2.ensures.copied t)

pub returns-clause-same : goal.returns-clause-same
returns-clause-same g c =
    let last = c.copy_part-2.new.gate in
    let Last : Kept → Kept = λ k. record k { begun = last.begun; is_closed = last.is_closed } in
    on_ok_weaker c.copy_part-2.result (λ same. same ∙ ap Last c.in_ok-put-2.ensures.same ∙ ap Last c.in_ok-copy_part.ensures.same ∙ ap Last c.in_ok-put.ensures.same) c.copy_part-2.ensures.same
