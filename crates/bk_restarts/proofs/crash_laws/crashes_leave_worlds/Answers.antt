use Rattle.bk_restarts.proofs.crash_laws.crashes_leave_worlds.Goals as goal

pub returns : goal.returns
returns c = record {
  same = c.runs_begin_where_files_stand.ensures.same;
  idle = c.runs_begin_where_files_stand.ensures.idle;
  begins = c.runs_begin_where_files_stand.ensures.begins;
  runs = c.crashes_leave_files_that_stand.ensures.runs;
  closes = λ first statements moments outcomes sound run. c.runs_are_closed.ensures.comes _ (c.runs_keep_worlds_sound.ensures.run first statements moments outcomes sound run);
  closings = c.crashes_leave_files_that_stand.ensures.closings;
  ends = c.runs_begin_where_files_stand.ensures.ends;
}
