use Rattle.std.proofs.Common.{◌≡◌, ap, ◌∙◌, arith}
use Rattle.std.proofs.lemmas.Grind.{common_steps}
use Rattle.bk_segments.specs.Control.{control_bytes, read_control}
use Rattle.bk_segments.proofs.Heads.{control_read}
use Rattle.bk_segments.proofs.head.spell.Goals as goal

pub returns-clause-reads : goal.returns-clause-reads
unfolding control_bytes
returns-clause-reads c =
    let same : c.add.new.out.items ≡ control_bytes c.args.head c.args.note.now = grind (arith, common_steps) in
    ap read_control same ∙ control_read c.args.head c.args.note.now c.add_number.ensures.small c.add_number-2.ensures.small c.add_number-3.ensures.small c.add_number-4.ensures.small c.add_number-5.ensures.small
