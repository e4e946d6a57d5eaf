use Rattle.bk_carried.proofs.Backups.{job-is-of}
use Rattle.bk_carried.proofs.Copies.{read-later, read-now}
use Rattle.bk_carried.proofs.laws.job_headers_are_of_databases.Goals as goal

pub returns : goal.returns
returns c = record { header = job-is-of; later = read-later; read = read-now }
