use Rattle.bk_record.specs.RecordsLaws.{no_records, one_more, no_bad_one}
use Rattle.bk_record.proofs.check.records_law.Goals as goal

pub returns : goal.returns
returns c = record { none = no_records; one_more = one_more; no_bad_one = no_bad_one }
