use Rattle.bk_record.specs.Laws.{one_record}
use Rattle.bk_record.specs.WalkLaws.{one_log, log_of_records}
use Rattle.bk_record.proofs.check.log_law.Goals as goal

pub returns : goal.returns
returns c = record { one_spelling = one_record; read_back = log_of_records; one_list = one_log }
