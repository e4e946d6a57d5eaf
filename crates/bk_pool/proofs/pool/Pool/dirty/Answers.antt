use Rattle.std.proofs.Common.{sym, subst}
use Rattle.bk_pool.specs.Sound.{HoldsPage}
use Rattle.bk_pool.specs.Pool.{Pool}
use Rattle.bk_pool.proofs.Sounds.{dirty_sound}
use Rattle.bk_pool.proofs.pool.Pool.dirty.Goals as goal

pub invariant_of-self : goal.invariant_of-self
invariant_of-self c = dirty_sound c.args.i c.self.invariant (subst (λ (p : Pool). HoldsPage p.pages c.args.i) (sym c.self.view_is) c.requires)
