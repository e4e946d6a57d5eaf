use Rattle.std.proofs.Common.{◌≡◌, false, rules}
use Rattle.bk_media_plans.specs.Restoring.{is_built}
use Rattle.bk_media_plans.proofs.PlannedRestore.{unbuilt-refused}
use Rattle.bk_media_plans.proofs.planning_restore.unbuilt_restore.Goals as goal

pub returns : goal.returns
returns c = λ w now.
    let isnt : is_built c.args.database.now c.args.units.now c.args.disk.now c.args.options.now ≡ false = search rules in
    unbuilt-refused c.args.line c.args.database.now c.args.units.now c.args.disk.now c.args.options.now w now isnt
