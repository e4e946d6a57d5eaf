use Rattle.std.proofs.Common.{◌≡◌, ℕ, Ok, Err, refl}
use Rattle.bk_redo.specs.declared.error.RedoError.TheVariants.{BadRecord}
use Rattle.bk_redo.proofs.Whole.{bad_answer, never_bad}
use Rattle.bk_redo.proofs.listing.list_log.Goals as goal

pub returns-in_default-clause-bad : goal.returns-in_default-clause-bad
returns-in_default-clause-bad g c = bad_answer c.args.log.now (Err c.no_list.result) c.no_list.result refl c.no_list.ensures

pub returns-in_default-list_share-clause-bad : goal.returns-in_default-list_share-clause-bad
returns-in_default-list_share-clause-bad g c =
    bad_answer c.args.log.now (Err c.no_list-in_default-list_share.result) c.no_list-in_default-list_share.result refl c.no_list-in_default-list_share.ensures

pub returns-clause-bad : goal.returns-clause-bad
returns-clause-bad g c =
    let listed = c.in-Some.ensures in
    never_bad c.args.log.now listed.records (λ (at : ℕ). Ok c.in-Some.writes ≡ Err (BadRecord at)) (λ at bad. cc) listed.whole
