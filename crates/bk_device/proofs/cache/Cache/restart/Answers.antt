-- What is kept or forgotten goes by the choice.
use Rattle.bk_device.proofs.cache.Cache.restart.Goals as goal

pub returns-then-keep-clause-current : goal.returns-then-keep-clause-current
returns-then-keep-clause-current c = rw c.if-keep.true c.keep.ensures.current

pub returns-clause-current : goal.returns-clause-current
returns-clause-current c = rw c.if-keep.false c.forget.ensures.current
