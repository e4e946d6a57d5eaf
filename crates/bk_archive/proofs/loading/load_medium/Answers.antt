use Rattle.std.proofs.Common.{refl, ap}
use Rattle.bk_machine.specs.statements.Restore.{slots_of}
use Rattle.bk_archive.specs.MediumLaws.{nothing-read}
use Rattle.bk_archive.proofs.loading.load_medium.Goals as goal

pub returns-in-Err-Missing-clause-refused : goal.returns-in-Err-Missing-clause-refused
returns-in-Err-Missing-clause-refused g c tells =
    let missing = rw c.in-Err-Missing.field-0-is at (c.in-Err-Missing.ensures.missing tells) in
    ap slots_of (nothing-read _ (missing refl))
