use Rattle.bk_machine.proofs.RunsBuilt.{added-built, changed-built, file-built, page-built, removed-built, standby-built}
use Rattle.bk_machine.proofs.built_laws.events_keep_worlds_built.Goals as goal

pub returns-clause-page_damaged : goal.returns-clause-page_damaged
returns-clause-page_damaged c = page-built

pub returns-clause-file_removed : goal.returns-clause-file_removed
returns-clause-file_removed c = file-built

pub returns-clause-medium_removed : goal.returns-clause-medium_removed
returns-clause-medium_removed c = removed-built

pub returns-clause-standby_removed : goal.returns-clause-standby_removed
returns-clause-standby_removed c = standby-built

pub returns-clause-medium_changed : goal.returns-clause-medium_changed
returns-clause-medium_changed c = changed-built

pub returns-clause-medium_added : goal.returns-clause-medium_added
returns-clause-medium_added c = added-built
