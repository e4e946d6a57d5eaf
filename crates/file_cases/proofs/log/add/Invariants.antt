use Rattle.std.proofs.Common.{◌≡◌, false}
use Rattle.file_cases.proofs.log.add.Given as goal

abbrev pub invariant-records : goal.invariant-records
invariant-records l = record {
  failed : l.log.failed ≡ false;
}
