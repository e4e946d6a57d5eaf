use Rattle.std.proofs.Common.{sym, subst}
use Rattle.std.specs.Prelude.{◌||◌}
use Rattle.bk_log.specs.Log.{Kept as KeptLog}
use Rattle.bk_paged.specs.contracts.paged.Paged.{the_view}
use Rattle.bk_paged.specs.Paged.{Kept, Standing}
use Rattle.bk_paged.specs.StandLaws.{standing-waits}
use Rattle.bk_paged.proofs.paged.Paged.append.Goals as goal

pub returns-clause-standing : goal.returns-clause-standing
returns-clause-standing g c t =
    let b = g.D.Device.disk c.set_page.new.dev in
    let view : Kept = the_view c.self.inside in
    let At : Kept → Type 0 = λ k. Standing b k in
    let Of : KeptLog → Type 0 = λ l. Standing b (record view { log = l; failed = l.failed || view.side.failed }) in
    subst Of (sym c.in_ok-append.ensures.more) (standing-waits (the_view c.self.inside) _ _ _ _ (subst At (sym c.self.view_is) (c.in_ok-set_page.ensures.standing t)))
