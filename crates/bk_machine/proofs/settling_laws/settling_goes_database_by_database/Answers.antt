use Rattle.bk_machine.proofs.SettledSteps.{settle-found, settle-keeps, settle-log, settle-logs, settle-may, settle-media, settle-nothing, settle-place, settle-plain, settle-sound}
use Rattle.bk_machine.proofs.settling_laws.settling_goes_database_by_database.Goals as goal

pub returns-clause-may : goal.returns-clause-may
returns-clause-may c = settle-may

pub returns-clause-sound : goal.returns-clause-sound
returns-clause-sound c = settle-sound

pub returns-clause-settled : goal.returns-clause-settled
returns-clause-settled c = settle-keeps

pub returns-clause-found : goal.returns-clause-found
returns-clause-found c = settle-found

pub returns-clause-log : goal.returns-clause-log
returns-clause-log c = settle-log

pub returns-clause-nothing_pends : goal.returns-clause-nothing_pends
returns-clause-nothing_pends c = settle-nothing

pub returns-clause-place : goal.returns-clause-place
returns-clause-place c = settle-place

pub returns-clause-logs : goal.returns-clause-logs
returns-clause-logs c = settle-logs

pub returns-clause-media : goal.returns-clause-media
returns-clause-media c = settle-media

pub returns-clause-says_no_load : goal.returns-clause-says_no_load
returns-clause-says_no_load c = settle-plain
