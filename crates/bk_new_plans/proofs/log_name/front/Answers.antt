use Rattle.std.proofs.Common.{◌≡◌, ◌∙◌, ℕ, List, sym, take, arith}
use Rattle.bk_machine.specs.statements.CreateDatabase.{text_front}
use Rattle.bk_new_plans.proofs.Cuts.{front-cut}
use Rattle.bk_new_plans.proofs.log_name.front.Goals as goal

pub returns-else-text-le60-clause-front : goal.returns-else-text-le60-clause-front
returns-else-text-le60-clause-front c =
    let text : List ℕ = c.args.text.now in
    let e = c.floor_char_boundary.ensures in
    let is : text_front 60 text ≡ take c.floor_char_boundary.result text = front-cut text c.floor_char_boundary.result c.if-text-le60.false e.bound e.boundary e.nearest in
    c.range.ensures.value ∙ grind arith ∙ sym is
