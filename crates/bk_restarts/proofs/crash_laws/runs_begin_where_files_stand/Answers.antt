use Rattle.bk_restarts.proofs.Beginnings.{begun-leaves, ended-leaves, stands-idle, stands-same}
use Rattle.bk_restarts.proofs.crash_laws.runs_begin_where_files_stand.Goals as goal

pub returns-clause-same : goal.returns-clause-same
returns-clause-same c = stands-same

pub returns-clause-idle : goal.returns-clause-idle
returns-clause-idle c = stands-idle

pub returns-clause-begins : goal.returns-clause-begins
returns-clause-begins c =
    begun-leaves (record { begins = c.runs_begin_and_end_in_sound_worlds.ensures.begins; leaves = c.runs_are_cut_between_acts.ensures.leaves; sound_left = c.runs_keep_worlds_sound.ensures.crash })

pub returns-clause-ends : goal.returns-clause-ends
returns-clause-ends c =
    λ number old statements moments outcomes acts sound run closing.
    ended-leaves number old outcomes acts
    (λ least done k counter idle enough within no_less no_more. c.closings_are_cut_between_acts.ensures.leaves old statements moments outcomes acts least done k counter sound run closing idle enough within no_less no_more)
    (λ least left leaves. c.closings_are_cut_in_whole_worlds.ensures.sound old statements moments outcomes acts least left sound run closing leaves)
