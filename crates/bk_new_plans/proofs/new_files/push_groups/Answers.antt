use Rattle.std.proofs.Common.{◌≡◌, ◌+◌, ◌++◌, length, map, ◌∙◌, ap}
use Rattle.bk_machine.specs.statements.CreateDatabase.{files_in}
use Rattle.bk_new_plans.specs.NewFiles.{capped}
use Rattle.bk_new_plans.proofs.NewFiles.{next-group, room-left}
use Rattle.bk_new_plans.proofs.new_files.push_groups.Goals as goal

pub loop-i-preserved : goal.loop-i-preserved
loop-i-preserved c =
    let before = c.loop-i.files.items in
    let made : c.push_files.new.files.items ≡ c.loop-i.files.items ++ map capped (files_in (length c.loop-i.files.items + 1) (c.loop-i.i + 1) c.index-groups-i.result.files) =
    c.in_ok-push_files.ensures ∙ ap (λ fs. c.loop-i.files.items ++ map capped (files_in (length c.loop-i.files.items + 1) (c.loop-i.i + 1) fs)) c.as_slice.ensures in
    record {
      so_far = next-group before c.push_files.new.files.items c.loop-i.i c.args.groups.now c.index-groups-i.result _ c.loop-i-test.true c.index-groups-i.is made c.loop-i.invariant.so_far;
      few = room-left before c.push_files.new.files.items (length c.loop-i.files.items + 1) c.loop-i.i c.args.groups.now c.index-groups-i.result c.loop-i-test.true c.index-groups-i.is made c.loop-i.invariant.few;
    }
