use Rattle.std.proofs.lemmas.Result.{on_ok_weaker}
use Rattle.std.proofs.Common.{ap, ◌∙◌}
use Rattle.bk_device.specs.Calls.{contents}
use Rattle.bk_filling.proofs.filling.append_last.Goals as goal

pub returns-clause-more : goal.returns-clause-more
returns-clause-more g c t = on_ok_weaker c.sync.result (λ same. ap contents same ∙ c.in_ok-append_page.ensures.more t) (c.sync.ensures.same t)
