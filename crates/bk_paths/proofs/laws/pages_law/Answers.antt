use Rattle.bk_paths.specs.PageLaws.{last_more, page_last, page_more}
use Rattle.bk_paths.proofs.Redone.{redone}
use Rattle.bk_paths.proofs.laws.pages_law.Goals as goal

pub returns : goal.returns
returns c = record {
  more = page_more;
  last = page_last;
  changes = last_more;
  redone = redone c.page_law.ensures.redone c.chain_law.ensures.copied;
}
