use Rattle.std.proofs.Common.{sym, ◌∙◌}
use Rattle.bk_page.specs.PartLaws.{number_of-part}
use Rattle.bk_page.proofs.header.page_number.Goals as goal

pub returns : goal.returns
returns c = c.in-Some.ensures.1 ∙ sym (number_of-part 4 8 c.args.page.now)
