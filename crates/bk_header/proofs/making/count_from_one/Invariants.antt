use Rattle.std.proofs.Common.{◌≡◌, ◌+◌, drop}
use Rattle.bk_header.specs.Reading.{are_numbered}
use Rattle.bk_header.proofs.making.count_from_one.Given as goal

abbrev pub invariant-loop-file : goal.invariant-loop-file
invariant-loop-file l = record {
  rest : are_numbered l.number (drop l.file-index l.files) ≡ are_numbered 1 l.files;
  at : l.number ≡ l.file-index + 1;
}
