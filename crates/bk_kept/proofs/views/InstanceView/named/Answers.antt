use Rattle.std.proofs.Common.{◌≡◌, subst}
use Rattle.std.specs.Option.{option_map}
use Rattle.bk_kept.specs.declared.kept.Kept.{Kept}
use Rattle.bk_kept.proofs.Named.{first, found-named, found-seen}
use Rattle.bk_kept.proofs.views.InstanceView.named.Goals as goal

same : (c : goal.After-first_named) → option_map (λ d. d.now) c.first_named.result ≡ first c.args.name.now c.args.self.now.databases.items
same c =
    subst (λ (k : Kept). option_map (λ d. d.now) c.first_named.result ≡ first c.args.name.now k.databases.items) c.self.view_is (rw (← c.deref.ensures.value) c.first_named.ensures)

pub returns-clause-found : goal.returns-clause-found
returns-clause-found c = λ w sees. found-named w c.args.self.now c.args.name.now c.first_named.result (same c) sees

pub returns-clause-seen : goal.returns-clause-seen
returns-clause-seen c = λ w sees. found-seen w c.args.self.now c.args.name.now c.first_named.result (same c) sees
