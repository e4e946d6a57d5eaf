use Rattle.std.proofs.Common.{◌≡◌, ◌-◌}
use Rattle.bk_bytes.specs.Codec.{times_at}
use Rattle.bk_bytes.specs.LoopLaws.{with_front}
use Rattle.bk_storage.specs.Storage.{spec_form}
use Rattle.bk_storage.proofs.reading.read_specs.Given as goal

abbrev pub invariant-loop : goal.invariant-loop
invariant-loop l = with_front l.specs.items (times_at spec_form.reading (l.count - l.counter) l.rest) ≡ times_at spec_form.reading l.count l.bytes
