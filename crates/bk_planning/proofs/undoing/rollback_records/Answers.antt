use Rattle.std.proofs.Common.{ℕ, ◌+◌, List, map, reverse, refl, sym, ◌∙◌, ap}
use Rattle.bk_shown.specs.Shown.{pending_of}
use Rattle.bk_world.specs.Pending.{Pending, of_transaction}
use Rattle.bk_world.specs.Records.{rolled_back}
use Rattle.bk_world.specs.Says.{undoing}
use Rattle.bk_world.specs.SettledLaws.{length-undoing}
use Rattle.bk_planning.proofs.undoing.rollback_records.Goals as goal

pub returns-clause-said : goal.returns-clause-said
returns-clause-said c =
    let own : List Pending = reverse (of_transaction c.args.begin (map pending_of c.args.written.now)) in
    c.new.ensures
    ∙ c.in_ok-say.ensures.said c.args.first (undoing own) (record { begin = c.args.begin; deed = rolled_back }) c.in_ok-said.ensures.undoes.spell
    (c.in_ok-said.ensures.undoes.next ∙ ap (λ (k : ℕ). c.args.first + k) (sym (length-undoing own))) refl
