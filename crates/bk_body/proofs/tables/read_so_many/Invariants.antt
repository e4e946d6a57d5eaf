use Rattle.std.proofs.Common.{◌≡◌, ◌-◌}
use Rattle.bk_bytes.specs.Codec.{times_at}
use Rattle.bk_bytes.specs.LoopLaws.{with_front}
use Rattle.bk_body.specs.Reading.{table_form}
use Rattle.bk_body.proofs.tables.read_so_many.Given as goal

abbrev pub invariant-loop : goal.invariant-loop
invariant-loop l = with_front l.tables.items (times_at table_form.reading (l.count - l.counter) l.rest) ≡ times_at table_form.reading l.count l.bytes
