use Rattle.bk_device.specs.Compose.{effect_widen}
use Rattle.bk_engine.specs.TouchLaws.{staged-touch}
use Rattle.std.proofs.Common.{refl}
use Rattle.bk_volume.specs.Names.{staging_file}
use Rattle.bk_engine.proofs.finishing.remove_at.Goals as goal

pub returns-clause-crash : goal.returns-clause-crash
returns-clause-crash g c = λ tells. effect_widen (λ name is. (c.args.set, is)) (λ image left others. tt) (c.remove_staged.ensures.crash tells)

pub returns-in_err-remove_staged-clause-crash : goal.returns-in_err-remove_staged-clause-crash
returns-in_err-remove_staged-clause-crash g c = λ tells. effect_widen (λ name is. (c.args.set, is)) (λ image left others. tt) (c.remove_staged.ensures.crash tells)

pub returns-clause-touches : goal.returns-clause-touches
returns-clause-touches g c = λ tells. staged-touch (staging_file c.args.set) (c.args.set, refl) (c.remove_staged.ensures.crash tells)

pub returns-in_err-remove_staged-clause-touches : goal.returns-in_err-remove_staged-clause-touches
returns-in_err-remove_staged-clause-touches g c = λ tells. staged-touch (staging_file c.args.set) (c.args.set, refl) (c.remove_staged.ensures.crash tells)
