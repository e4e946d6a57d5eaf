use Rattle.bk_forms.specs.CreatingLaws.{create_database-ahead}
use Rattle.bk_forms.specs.RowsLaws.{row_statement-ahead}
use Rattle.bk_forms.specs.StatementsLaws.{create_table-ahead, begin-ahead, use_database-ahead, alter-ahead, drop_database-ahead}
use Rattle.bk_forms.proofs.forms_look_ahead.Goals as goal

pub returns : goal.returns
returns c = record {
  create_database = create_database-ahead;
  create_table = create_table-ahead;
  row_statement = row_statement-ahead;
  begin = begin-ahead;
  use_database = use_database-ahead;
  alter = alter-ahead;
  drop_database = drop_database-ahead;
}
