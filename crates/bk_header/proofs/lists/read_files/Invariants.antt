use Rattle.std.proofs.Common.{◌≡◌, ◌-◌}
use Rattle.bk_bytes.specs.Codec.{times_at}
use Rattle.bk_bytes.specs.LoopLaws.{with_front}
use Rattle.bk_header.specs.Reading.{file_form}
use Rattle.bk_header.proofs.lists.read_files.Given as goal

abbrev pub invariant-loop : goal.invariant-loop
invariant-loop l = with_front l.files.items (times_at file_form.reading (l.count - l.counter) l.rest) ≡ times_at file_form.reading l.count l.bytes
