use Rattle.std.proofs.Common.{refl}
use Rattle.bk_shown.proofs.Starts.{starts}
use Rattle.bk_shown.proofs.shown.Shown.new.Goals as goal

pub returns : goal.returns
returns c = starts _ _ c.requires c.new.ensures.items c.new-2.ensures c.new-3.ensures.items c.in_ok-new.ensures refl refl refl
