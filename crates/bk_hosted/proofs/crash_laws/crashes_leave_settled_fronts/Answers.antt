use Rattle.bk_hosted.proofs.Crashes.{CrashLaws, fronts-left, left-of-run}
use Rattle.bk_hosted.proofs.crash_laws.crashes_leave_settled_fronts.Goals as goal

pub returns-clause-runs : goal.returns-clause-runs
returns-clause-runs c =
    let laws : CrashLaws = record { stay = c.fronts_may_stay.ensures; leave = c.crashes_leave_what_stays.ensures; sets = c.crashes_keep_worlds_sound.ensures.sets } in
    λ old statements moments outcomes least before cut whole hosted fronts counter sound run cuts hosts are no_less no_more.
    left-of-run old outcomes least before cut whole counter fronts cuts
    (fronts-left laws before whole cut (c.runs_are_cut_in_whole_worlds.ensures.whole old statements moments outcomes least before cut whole sound run cuts)
    (c.runs_are_cut_in_whole_worlds.ensures.cut old statements moments outcomes least before cut whole sound run cuts) hosted fronts hosts are counter no_less no_more)

pub returns-clause-closings : goal.returns-clause-closings
returns-clause-closings c =
    let laws : CrashLaws = record { stay = c.fronts_may_stay.ensures; leave = c.crashes_leave_what_stays.ensures; sets = c.crashes_keep_worlds_sound.ensures.sets } in
    λ old statements moments outcomes acts least before cut whole hosted fronts counter sound run closing cuts hosts are no_less no_more.
    left-of-run old _ least before cut whole counter fronts cuts
    (fronts-left laws before whole cut (c.closings_are_cut_in_whole_worlds.ensures.whole old statements moments outcomes acts least before cut whole sound run closing cuts)
    (c.closings_are_cut_in_whole_worlds.ensures.cut old statements moments outcomes acts least before cut whole sound run closing cuts) hosted fronts hosts are counter no_less no_more)
