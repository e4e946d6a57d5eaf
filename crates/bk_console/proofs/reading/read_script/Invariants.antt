use Rattle.std.proofs.Common.{◌≡◌, ◌≤◌, ◌-◌, ◌++◌, length, vec_len}
use Rattle.bk_console.proofs.reading.read_script.Given as goal

abbrev pub invariant-loop-chunk : goal.invariant-loop-chunk
invariant-loop-chunk g l = record {
  read : g.S.Source.tells → g.S.Source.rest l.fn.source ≡ l.script.items ++ g.S.Source.rest l.source;
  short : length l.script.items ≤ 16777217;
  never_falls : g.S.Source.read_faults l.fn.source ≤ g.S.Source.read_faults l.source;
}

abbrev pub decreases-loop-chunk : goal.decreases-loop-chunk
decreases-loop-chunk g l = 16777217 - vec_len l.script
