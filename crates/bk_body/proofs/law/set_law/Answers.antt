use Rattle.bk_body.specs.Laws.{one_body}
use Rattle.bk_body.specs.SlotLaws.{slot_reads, slot_spelled, one_reading}
use Rattle.bk_body.proofs.law.set_law.Goals as goal

pub returns : goal.returns
returns c = record { one_spelling = one_body; reads = slot_reads; one_reading = one_reading; spelled = slot_spelled }
