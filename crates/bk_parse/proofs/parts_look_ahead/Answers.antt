use Rattle.bk_parse.specs.Laws.{keyword-ahead, sign-ahead, number-ahead, name-ahead, text-ahead}
use Rattle.bk_parse.proofs.parts_look_ahead.Goals as goal

pub returns : goal.returns
returns c = record {
  keyword = keyword-ahead;
  sign = sign-ahead;
  number = number-ahead;
  name = name-ahead;
  text = text-ahead;
}
