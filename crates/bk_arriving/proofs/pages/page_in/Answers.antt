use Rattle.std.proofs.Common.{◌-◌, ◌*◌, ◌∙◌, length, drop, arith}
use Rattle.std.proofs.lemmas.List.{take-take}
use Rattle.bk_arriving.proofs.pages.page_in.Goals as goal

pub returns : goal.returns
returns c = c.in-Some.ensures.cases.same ∙ take-take 8192 (length c.args.bytes.now - 8192 * c.args.j) (drop (8192 * c.args.j) c.args.bytes.now) (omega arith)
