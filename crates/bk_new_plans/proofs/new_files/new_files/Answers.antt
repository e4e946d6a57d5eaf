use Rattle.std.proofs.Common.{arith}
use Rattle.bk_new_plans.proofs.NewFiles.{all-made, primary-made}
use Rattle.bk_new_plans.proofs.new_files.new_files.Goals as goal

pub push_groups-requires-clause-few : goal.push_groups-requires-clause-few
push_groups-requires-clause-few c = omega (arith, c.requires.few, primary-made c.args.name.now c.args.primary.now c.in_ok-files.files.items c.in_ok-files.ensures)

pub returns : goal.returns
returns c = all-made c.args.name.now c.args.primary.now c.args.groups.now c.in_ok-files.files.items c.push_groups.new.files.items c.in_ok-files.ensures c.in_ok-push_groups.ensures
