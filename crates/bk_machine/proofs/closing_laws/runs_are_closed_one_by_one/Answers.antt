use Rattle.std.proofs.Common.{inl, inr, refl}
use Rattle.bk_machine.proofs.Acting.{act-sound, acts-sound}
use Rattle.bk_machine.proofs.closing_laws.runs_are_closed_one_by_one.Goals as goal
use Rattle.bk_machine.proofs.statements.Closing.{dropped-idle, front-may}
use Rattle.bk_machine.proofs.statements.Counting.{first, rolled-fewer}
use Rattle.bk_machine.proofs.statements.Jobless.{dropped-jobless, front-jobless, jobless-idle}
use Rattle.bk_machine.proofs.statements.Transactions.{rollback-may, rollback-plain}
use Rattle.bk_machine.specs.ClosingLaws.{closing-joined, closing-parts, first-alone, first-found, front-joined, none-open}
use Rattle.bk_machine.specs.statements.Rollback.{rolls_back}

pub returns-clause-comes : goal.returns-clause-comes
returns-clause-comes c = first

pub returns-clause-found : goal.returns-clause-found
returns-clause-found c = first-found

pub returns-clause-alone : goal.returns-clause-alone
returns-clause-alone c = first-alone

pub returns-clause-may : goal.returns-clause-may
returns-clause-may c = λ w held sound first. rollback-may w held.transaction.session held sound first.there

pub returns-clause-sound : goal.returns-clause-sound
returns-clause-sound c = λ w held sound first. act-sound w (rolls_back w held) sound (rollback-may w held.transaction.session held sound first.there)

pub returns-clause-says_no_load : goal.returns-clause-says_no_load
returns-clause-says_no_load c = rollback-plain

pub returns-clause-fewer : goal.returns-clause-fewer
returns-clause-fewer c = λ w held sound first. rolled-fewer w held sound first.there

pub returns-clause-none : goal.returns-clause-none
returns-clause-none c = λ w none. (inl refl, dropped-idle w (none-open w.databases none))

pub returns-clause-drops : goal.returns-clause-drops
returns-clause-drops c = dropped-jobless

pub returns-clause-jobless : goal.returns-clause-jobless
returns-clause-jobless c = front-jobless

pub returns-clause-closed : goal.returns-clause-closed
returns-clause-closed c = jobless-idle

pub returns-clause-front_may : goal.returns-clause-front_may
returns-clause-front_may c = front-may

pub returns-clause-front_sound : goal.returns-clause-front_sound
returns-clause-front_sound c = λ w acts sound front. acts-sound w acts sound (front-may w acts sound front)

pub returns-clause-front_more : goal.returns-clause-front_more
returns-clause-front_more c = λ w acts held front first. front-joined w acts _ front (inr (held, first, refl), tt)

pub returns-clause-joined : goal.returns-clause-joined
returns-clause-joined c = closing-joined

pub returns-clause-parts : goal.returns-clause-parts
returns-clause-parts c = closing-parts
