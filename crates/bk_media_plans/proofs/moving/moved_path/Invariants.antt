use Rattle.std.proofs.Common.{◌≡◌, drop}
use Rattle.bk_machine.specs.statements.Restore.{moved_path}
use Rattle.bk_media_plans.proofs.moving.moved_path.Given as goal

abbrev pub invariant-loop-file : goal.invariant-loop-file
invariant-loop-file l = moved_path (drop l.file-index l.moves) l.name l.path ≡ moved_path l.moves l.name l.own
