use Rattle.std.proofs.Common.{◌≡◌, ◌-◌}
use Rattle.bk_bytes.specs.Codec.{times_at}
use Rattle.bk_bytes.specs.LoopLaws.{with_front}
use Rattle.bk_fields.specs.Guids.{guid_form}
use Rattle.bk_master.proofs.reading.read_so_many_sets.Given as goal

abbrev pub invariant-loop : goal.invariant-loop
invariant-loop l = with_front l.sets.items (times_at guid_form.reading (l.count - l.counter) l.rest) ≡ times_at guid_form.reading l.count l.bytes
