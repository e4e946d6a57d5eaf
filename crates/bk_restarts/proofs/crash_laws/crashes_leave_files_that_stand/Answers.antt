use Rattle.bk_restarts.proofs.Leaving.{leaves-from}
use Rattle.bk_restarts.proofs.Runs.{closing-last, run-last}
use Rattle.bk_restarts.proofs.crash_laws.crashes_leave_files_that_stand.Goals as goal

pub returns-clause-runs : goal.returns-clause-runs
returns-clause-runs c = λ number old statements moments outcomes sound run.
    leaves-from c.what_waits_may_be_lost.ensures.front number old outcomes (record {
      sound = λ n k. c.runs_are_cut_between_acts.ensures.sound old statements moments outcomes n k sound run;
      opens = λ n k. c.runs_are_cut_between_acts.ensures.open old statements moments outcomes n k sound run;
      last = run-last c.acts_tell_last.ensures.statements old statements moments outcomes run;
      fronts = λ least before cut whole hosted fronts counter cuts hosts are no_less no_more.
          c.crashes_leave_settled_fronts.ensures.runs old statements moments outcomes least before cut whole hosted fronts counter sound run cuts hosts are no_less no_more;
      sound_left = λ least left leaves. c.runs_keep_worlds_sound.ensures.crash old statements moments outcomes least left sound run leaves;
    })

pub returns-clause-closings : goal.returns-clause-closings
returns-clause-closings c = λ number old statements moments outcomes acts sound run closing.
    leaves-from c.what_waits_may_be_lost.ensures.front number old _ (record {
      sound = λ n k. c.closings_are_cut_between_acts.ensures.sound old statements moments outcomes acts n k sound run closing;
      opens = λ n k. c.closings_are_cut_between_acts.ensures.open old statements moments outcomes acts n k sound run closing;
      last = closing-last outcomes acts (run-last c.acts_tell_last.ensures.statements old statements moments outcomes run) (c.acts_tell_last.ensures.closings _ acts closing);
      fronts = λ least before cut whole hosted fronts counter cuts hosts are no_less no_more.
          c.crashes_leave_settled_fronts.ensures.closings old statements moments outcomes acts least before cut whole hosted fronts counter sound run closing cuts hosts are no_less no_more;
      sound_left = λ least left leaves. c.closings_are_cut_in_whole_worlds.ensures.sound old statements moments outcomes acts least left sound run closing leaves;
    })
