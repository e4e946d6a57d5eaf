use Rattle.std.proofs.Common.{◌≡◌, ◌∷◌, codes, map, take}
use Rattle.bk_new_plans.proofs.new_storage.new_groups.Given as goal

abbrev pub invariant-loop-group : goal.invariant-loop-group
invariant-loop-group l = l.names.items ≡ codes "PRIMARY" ∷ map (λ g. g.name) (take l.group-index l.groups)
