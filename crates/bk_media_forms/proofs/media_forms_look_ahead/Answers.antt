use Rattle.bk_media_forms.specs.BackupLaws.{backup-ahead}
use Rattle.bk_media_forms.specs.RestoreLaws.{restore-ahead}
use Rattle.bk_media_forms.proofs.media_forms_look_ahead.Goals as goal

pub returns : goal.returns
returns c = record {
  backup = backup-ahead;
  restore = restore-ahead;
}
