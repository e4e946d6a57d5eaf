use Rattle.std.proofs.Common.{false, refl, arith}
use Rattle.std.proofs.lemmas.Bool.{false≢true}
use Rattle.std.proofs.lemmas.Option.{slice_get_within}
use Rattle.bk_side.proofs.Names.{all_different, not_different}
use Rattle.bk_side.proofs.name.are_different.Goals as goal

pub returns-then-has_before : goal.returns-then-has_before
returns-then-has_before c = (λ is. absurd (false≢true is), λ different. absurd (not_different c.args.names.now c.loop-i.i (rw c.if-has_before.true at c.has_before.ensures) different))

pub returns : goal.returns
returns c = (λ _. all_different c.args.names.now (λ i j name less one two. c.loop-i.invariant i j name (omega (arith, slice_get_within c.args.names.now i name two)) less one two), λ _. refl)
