use Rattle.std.proofs.Common.{◌≡◌, ◌-◌}
use Rattle.bk_bytes.specs.Codec.{string, times_at}
use Rattle.bk_bytes.specs.LoopLaws.{with_front}
use Rattle.bk_master.proofs.reading.read_so_many_paths.Given as goal

abbrev pub invariant-loop : goal.invariant-loop
invariant-loop l = with_front l.paths.items (times_at (string 1 100).reading (l.count - l.counter) l.rest) ≡ times_at (string 1 100).reading l.count l.bytes
