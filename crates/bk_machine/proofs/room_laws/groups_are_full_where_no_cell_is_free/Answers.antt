use Rattle.bk_machine.proofs.Room.{alone, full-where, own-where, room-where, well}
use Rattle.bk_machine.proofs.room_laws.groups_are_full_where_no_cell_is_free.Goals as goal

pub returns-clause-lies : goal.returns-clause-lies
returns-clause-lies c = well

pub returns-clause-alone : goal.returns-clause-alone
returns-clause-alone c = alone

pub returns-clause-room : goal.returns-clause-room
returns-clause-room c = room-where

pub returns-clause-free : goal.returns-clause-free
returns-clause-free c = full-where

pub returns-clause-own : goal.returns-clause-own
returns-clause-own c = own-where
