use Rattle.std.proofs.Common.{inl, ◌∙◌}
use Rattle.bk_device.specs.Laws.{nothing_by_sync}
use Rattle.bk_segments.proofs.Settled.{left_sync}
use Rattle.bk_segments.proofs.settling.sync_control.Goals as goal

pub returns-in_err-sync-clause-crash : goal.returns-in_err-sync-clause-crash
returns-in_err-sync-clause-crash g c t = left_sync c.args.db (inl (c.deref.ensures ∙ c.in_ok-name.ensures)) (c.sync.ensures.effect t)

pub returns-clause-effect : goal.returns-clause-effect
returns-clause-effect g c t = nothing_by_sync (c.sync.ensures.effect t) (c.in_ok-sync.ensures.same t)

pub returns-clause-crash : goal.returns-clause-crash
returns-clause-crash g c t = left_sync c.args.db (inl (c.deref.ensures ∙ c.in_ok-name.ensures)) (c.sync.ensures.effect t)
