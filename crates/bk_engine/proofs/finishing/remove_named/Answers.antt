use Rattle.bk_device.specs.Compose.{effect_then}
use Rattle.bk_engine.proofs.finishing.remove_named.Goals as goal

pub returns-clause-crash : goal.returns-clause-crash
returns-clause-crash g c = λ tells. effect_then (c.remove_set.ensures.crash tells) (c.remove_sets.ensures.crash tells)

pub returns-clause-touches : goal.returns-clause-touches
returns-clause-touches g c = λ tells. effect_then (c.remove_set.ensures.touches tells) (c.remove_sets.ensures.touches tells)
