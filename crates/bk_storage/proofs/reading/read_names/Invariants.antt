use Rattle.std.proofs.Common.{◌≡◌, ◌-◌}
use Rattle.bk_bytes.specs.Codec.{times_at, string_at}
use Rattle.bk_bytes.specs.LoopLaws.{with_front}
use Rattle.bk_storage.proofs.reading.read_names.Given as goal

abbrev pub invariant-loop : goal.invariant-loop
invariant-loop l = with_front l.names.items (times_at (string_at 1 64) (l.count - l.counter) l.rest) ≡ times_at (string_at 1 64) l.count l.bytes
