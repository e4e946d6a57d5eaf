use Rattle.std.proofs.Common.{◌∙◌, ap}
use Rattle.bk_kept.specs.declared.kept.Database.{Database as KeptDatabase}
use Rattle.bk_machine.specs.Checks.{is_path}
use Rattle.bk_media_plans.proofs.planning_wait.finish_at.Goals as goal

pub returns-clause-is : goal.returns-clause-is
returns-clause-is c = record {
  name = c.in_ok-copy.ensures ∙ ap (λ (d : KeptDatabase). d.name) c.database.view_is;
  path = c.in_ok-copy-2.ensures;
  transactions = c.in_ok-copy_transactions.ensures ∙ c.as_slice.ensures ∙ ap (λ (d : KeptDatabase). d.transactions) c.database.view_is;
  spell = c.in_ok-stamp_of.ensures.says;
  header = c.in_ok-header_at.ensures.header;
  base = c.in_ok-header_at-2.ensures.header;
  row = c.in_ok-row_at.ensures.header;
  position = c.in_ok-row_at.ensures.position;
  replies = c.reply_at.ensures;
  low = c.requires.left;
}

pub returns-clause-keeps : goal.returns-clause-keeps
returns-clause-keeps c = record {
  path = ap is_path c.in_ok-copy-2.ensures ∙ c.requires.path;
  records = c.in_ok-stamp_of.ensures.keep;
  header = c.in_ok-header_at.ensures.keeps;
  row = c.in_ok-row_at.ensures.keeps;
}
