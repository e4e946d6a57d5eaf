use Rattle.std.proofs.Common.{◌≡◌, [], sym, subst}
use Rattle.bk_log.specs.contracts.log.Log.{the_view}
use Rattle.bk_log.specs.Laws.{log_waits}
use Rattle.bk_log.specs.Log.{Kept, IsLog, value_of}
use Rattle.bk_segments.specs.Files.{with_more}
use Rattle.bk_log.proofs.Steps.{none_added, nothing_added, none_crash}
use Rattle.bk_log.proofs.log.Log.flush_reserved.Goals as goal

pub returns-then-self-clause-stands : goal.returns-then-self-clause-stands
returns-then-self-clause-stands g c t = log_waits _ _ _ _ (subst (IsLog (g.D.Device.disk c.args.dev.now)) (sym c.self.view_is) (c.requires.stands t))

pub returns-then-self-clause-value : goal.returns-then-self-clause-value
returns-then-self-clause-value g c t =
    let a = g.D.Device.disk c.args.dev.now in
    let log : Kept = the_view c.self.inside in
    let none : log.waiting ≡ [] = none_added c.self.inside.stored c.self.inside.end c.self.inside.waiting.items c.self.invariant.4 c.if-self.true in
    let W : Kept → Type 0 = λ k. value_of a.files log ≡ with_more (value_of a.files k) k.waiting in
    subst W c.self.view_is (nothing_added (value_of a.files log) log.waiting none)

pub returns-then-self-clause-crash : goal.returns-then-self-clause-crash
returns-then-self-clause-crash g c t = none_crash c.args.self.now (g.D.Device.disk c.args.dev.now) (c.requires.stands t)
