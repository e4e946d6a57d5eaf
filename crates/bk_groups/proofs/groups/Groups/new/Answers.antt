use Rattle.bk_groups.proofs.Rows.{IsSound-new}
use Rattle.bk_groups.proofs.groups.Groups.new.Goals as goal

pub invariant_of-result : goal.invariant_of-result
invariant_of-result c = IsSound-new c.args.files.now _ _ c.requires.few c.in_ok-file_spaces.ensures c.new-2.ensures.empty
