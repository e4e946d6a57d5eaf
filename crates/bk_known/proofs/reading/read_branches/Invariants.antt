use Rattle.std.proofs.Common.{◌≡◌, ◌-◌}
use Rattle.bk_bytes.specs.Codec.{times_at}
use Rattle.bk_bytes.specs.LoopLaws.{with_front}
use Rattle.bk_header.specs.Reading.{branch_form}
use Rattle.bk_known.proofs.reading.read_branches.Given as goal

abbrev pub invariant-loop : goal.invariant-loop
invariant-loop l = with_front l.branches.items (times_at branch_form.reading (l.count - l.counter) l.rest) ≡ times_at branch_form.reading l.count l.bytes
