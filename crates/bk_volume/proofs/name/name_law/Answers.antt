use Rattle.bk_volume.specs.GuidNames.{staging_files_differ}
use Rattle.bk_volume.specs.Laws.{names_differ, medium_letter, staging_letter, staging_apart, no_medium, no_staging}
use Rattle.bk_volume.proofs.name.name_law.Goals as goal

pub returns : goal.returns
returns c = record { different = names_differ; media = medium_letter; staging = staging_letter; sets = staging_files_differ; apart = staging_apart; no_medium = no_medium; no_staging = no_staging }
