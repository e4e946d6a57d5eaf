use Rattle.std.proofs.Common.{◌≡◌, ◌+◌, ◌-◌, ◌*◌, ℕ, Option, Some, None, length, sym, subst, ◌∙◌}
use Rattle.std.proofs.lemmas.Option.{same_Some}
use Rattle.bk_device.specs.Calls.{contents, read_at}
use Rattle.bk_volume.specs.Opening.{AreBehind}
use Rattle.bk_volume.proofs.Behind.{are_behind, set_of_parts}
use Rattle.bk_volume.proofs.opening.behind_front.Goals as goal

pub returns-in-Ok-Some-clause-set : goal.returns-in-Ok-Some-clause-set
returns-in-Ok-Some-clause-set g c = λ t body is spelled of.
    let file = contents ((g.D.Device.disk c.args.dev.now).files c.args.from.now) in
    let Of : ℕ → Type 0 = λ n. AreBehind body (65542 * n) (read_at file (c.args.at + c.args.size) (c.args.len - c.args.size)) in
    let are = subst Of (sym c.from-extents.ensures) (are_behind file c.args.at c.args.len body c.args.front c.args.size c.requires.there (c.requires.inside t) is spelled of) in
    set_of_parts file c.args.at c.args.len body c.args.front c.args.size c.in-Ok-Some.log c.requires.there (c.requires.inside t) is spelled of
    (same_Some c.in-Ok-Some.log (length body.log) (sym c.in-Ok-Some.field-0-is ∙ c.in-Ok-Some.ensures.size t body are))

none_some : (n : ℕ) → ◌≡◌ {A = Option ℕ} None (Some n) → ⊥
none_some n is = absurd cc

pub returns-in-Ok-None-clause-set : goal.returns-in-Ok-None-clause-set
returns-in-Ok-None-clause-set g c = λ t body is spelled of.
    let file = contents ((g.D.Device.disk c.args.dev.now).files c.args.from.now) in
    let Of : ℕ → Type 0 = λ n. AreBehind body (65542 * n) (read_at file (c.args.at + c.args.size) (c.args.len - c.args.size)) in
    let are = subst Of (sym c.from-extents.ensures) (are_behind file c.args.at c.args.len body c.args.front c.args.size c.requires.there (c.requires.inside t) is spelled of) in
    none_some (length body.log) (sym c.in-Ok-None.field-0-is ∙ c.in-Ok-None.ensures.size t body are)
