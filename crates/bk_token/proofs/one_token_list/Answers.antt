use Rattle.bk_token.specs.Laws.{one_list}
use Rattle.bk_token.proofs.SomeTokens.{some_tokens}
use Rattle.bk_token.proofs.one_token_list.Goals as goal

pub returns : goal.returns
returns c = record {
  one = one_list;
  some = some_tokens;
}
