use Rattle.std.proofs.Common.{List}
use Rattle.bk_hosted.specs.Hosted.{Hosted}
use Rattle.bk_engine.proofs.Viewed.{SoFar}
use Rattle.bk_engine.proofs.viewing.views_of.Given as goal
use Rattle.bk_engine.specs.Viewing.{AreInMemory, IsSeenAs}

abbrev pub invariant-loop-at : goal.invariant-loop-at
invariant-loop-at l = (hosted : List Hosted) → AreInMemory l.hosting hosted → SoFar IsSeenAs hosted l.views.items l.at
