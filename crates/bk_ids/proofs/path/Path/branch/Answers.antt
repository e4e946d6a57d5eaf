use Rattle.std.proofs.Common.{◌≡◌, ◌∙◌, sym, ap, None}
use Rattle.bk_ids.specs.Path.{branch_at}
use Rattle.bk_ids.specs.Laws.{branch_at-there}
use Rattle.bk_ids.proofs.path.Path.branch.Goals as goal

pub unreachable-requires : goal.unreachable-requires
unreachable-requires c =
    let same : c.deref.result.now ≡ c.args.self.now = c.deref.ensures.value ∙ c.self.view_is in
    branch_at-there c.args.self.now c.args.n c.requires.path c.requires.from_1
    (sym (ap (λ p. branch_at p c.args.n) same) ∙ sym c.branch_of.ensures ∙ c.in-None.is)
