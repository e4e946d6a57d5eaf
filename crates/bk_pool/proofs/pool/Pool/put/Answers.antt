use Rattle.std.proofs.Common.{rules, sym, subst}
use Rattle.bk_pool.specs.Pool.{Pool, IsAbsent}
use Rattle.bk_pool.proofs.Sounds.{put_sound}
use Rattle.bk_pool.proofs.pool.Pool.put.Goals as goal

pub invariant_of-self : goal.invariant_of-self
invariant_of-self c =
    put_sound c.self.inside.pages.items c.self.inside.dirty.items c.self.inside.used.items _ _ c.self.inside.is_whole c.note-is_noted.result c.args.i c.args.file c.args.page c.index.result.now c.self.invariant (search rules)
    (subst (λ (p : Pool). IsAbsent p.pages c.args.file c.args.page) (sym c.self.view_is) c.requires.absent) c.index.ensures c.note-is_noted.ensures
