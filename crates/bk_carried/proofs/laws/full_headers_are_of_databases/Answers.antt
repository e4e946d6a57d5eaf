use Rattle.bk_carried.proofs.Backups.{full-header}
use Rattle.bk_carried.proofs.laws.full_headers_are_of_databases.Goals as goal

pub returns : goal.returns
returns c = full-header
