use Rattle.std.proofs.Common.{◌≡◌, ℕ, refl}
use Rattle.bk_redo.specs.declared.error.RedoError.TheVariants.{BadRecord, NoMemory}
use Rattle.bk_redo.proofs.Whole.{bad_there, never_bad}
use Rattle.bk_redo.proofs.listing.no_list.Goals as goal

pub returns-in-Ok : goal.returns-in-Ok
returns-in-Ok c = never_bad c.args.log.now c.in-Ok.ensures.0 (λ (at : ℕ). NoMemory ≡ BadRecord at) (λ at bad. cc) c.in-Ok.ensures.1

pub returns-in-Err : goal.returns-in-Err
returns-in-Err c = bad_there c.args.log.now (BadRecord c.in-Err.bad.at) c.in-Err.bad.at c.in-Err.ensures.0 refl c.in-Err.ensures.1
