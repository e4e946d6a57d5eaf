use Rattle.std.proofs.Common.{◌∙◌, drop, lit≤}
use Rattle.std.proofs.lemmas.List.{take-take}
use Rattle.bk_page.proofs.digest.stored_digest.Goals as goal

pub returns : goal.returns
returns c = c.in-Some.ensures.cases.same ∙ take-take 32 8160 (drop 32 c.args.page.now) (lit≤ tt)
