use Rattle.std.proofs.Common.{sym, ◌∙◌}
use Rattle.bk_page.specs.PartLaws.{number_of-part}
use Rattle.bk_page.proofs.header.page_file.Goals as goal

pub returns : goal.returns
returns c = c.in-Some.ensures.1 ∙ sym (number_of-part 2 12 c.args.page.now)
