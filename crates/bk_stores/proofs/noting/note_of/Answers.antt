use Rattle.std.proofs.Common.{rules}
use Rattle.std.specs.Prelude.{IsErrOf}
use Rattle.bk_segments.specs.declared.error.LogError.TheVariants.{Foreign}
use Rattle.bk_stores.proofs.noting.note_of.Goals as goal

pub returns-in_err-found-clause-broken : goal.returns-in_err-found-clause-broken
returns-in_err-found-clause-broken g c t broken log is =
    let foreign : IsErrOf c.find.result Foreign = search rules in
    c.find.ensures.foreign t foreign log is
