use Rattle.std.proofs.Common.{List, [], ◌∙◌, arith}
use Rattle.bk_world.specs.Records.{Said}
use Rattle.bk_plans.proofs.planning_parts.say_one.Goals as goal

pub returns-clause-said : goal.returns-clause-said
returns-clause-said c = λ s is.
    let none : List Said = [] in
    c.new.ensures ∙ c.in_ok-say.ensures.said c.args.lsn none s c.new-records.ensures.items (omega arith) is
