use Rattle.std.proofs.Common.{None, sym, ◌∙◌, ap}
use Rattle.std.specs.Prelude.{fold, reverse}
use Rattle.bk_asked.specs.Asked.{least_in}
use Rattle.bk_kept.specs.declared.kept.Kept.{Kept}
use Rattle.bk_asked.proofs.Opened.{least-of-all, with_database}
use Rattle.bk_asked.proofs.opens.least_open.Goals as goal

pub returns : goal.returns
returns c = λ w sees.
    c.least_among.ensures ∙ ap (λ ds. fold with_database None (reverse ds)) (c.deref.ensures.value ∙ ap (λ (k : Kept). k.databases.items) c.kept.view_is) ∙ least-of-all c.args.kept.now.databases.items ∙ ap least_in (sym sees.databases)
