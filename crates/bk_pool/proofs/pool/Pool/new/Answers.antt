use Rattle.bk_pool.proofs.Sounds.{new_sound}
use Rattle.bk_pool.proofs.pool.Pool.new.Goals as goal

pub invariant_of-result : goal.invariant_of-result
invariant_of-result c = let p = c.in_ok-no_pages.ensures in let d = c.in_ok-no_marks.ensures in let u = c.in_ok-no_marks-2.ensures in rw (p, d, u) (new_sound c.args.frames _)
