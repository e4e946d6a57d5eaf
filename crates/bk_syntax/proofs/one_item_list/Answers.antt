use Rattle.bk_syntax.proofs.ItemsLaw as law
use Rattle.bk_syntax.proofs.one_item_list.Goals as goal

pub returns : goal.returns
returns c = record {
  one = law.one_item_list;
  some = λ src. let tokens = c.one_token_list.ensures.some src in law.some_items src tokens.0 tokens.1;
  of_tokens = law.some_entries;
}
