use Rattle.bk_paths.specs.PathLaws.{kept_numbers, path_front, path_more}
use Rattle.bk_paths.proofs.laws.path_law.Goals as goal

pub returns : goal.returns
returns c = record { front = path_front; more = path_more; kept = kept_numbers }
