use Rattle.std.proofs.Common.{◌≡◌, Some, length, map, refl, subst, List, ℕ}
use Rattle.std.specs.Prelude.{slice_get}
use Rattle.std.proofs.lemmas.Option.{slice_get_read}
use Rattle.bk_device.specs.Effects.{Effect}
use Rattle.bk_device.specs.Laws.{cause_then}
use Rattle.bk_filling.specs.Removing.{IsPart}
use Rattle.bk_side.specs.Names.{data_file as data_name}
use Rattle.bk_stores.proofs.Any.{any-more}
use Rattle.bk_stores.proofs.loading.remove_all.Goals as goal

pub returns-in_err-remove_parts-clause-crash : goal.returns-in_err-remove_parts-clause-crash
returns-in_err-remove_parts-clause-crash g c t =
    let u = c.it-item.result in
    let there : slice_get c.args.unfinished.now c.stores.it-index ≡ Some u = slice_get_read c.args.unfinished.now (length c.args.unfinished.now) c.stores.it-index u refl c.stores-test.true c.it-item.is in
    any-more c.args.unfinished.now c.stores.it-index u there (c.stores.invariant.removed t)
    (subst (λ (paths : List (List ℕ)). Effect (IsPart u.store (map data_name paths)) (λ _. Unit {0}) (g.D.Device.disk c.stores.dev) (g.D.Device.disk c.remove_parts.new.dev)) c.as_slice.ensures (c.remove_parts.ensures.crash t))

pub stores-preserved : goal.stores-preserved
stores-preserved g c = record {
  removed = λ t.
      let u = c.it-item.result in
      let there : slice_get c.args.unfinished.now c.stores.it-index ≡ Some u = slice_get_read c.args.unfinished.now (length c.args.unfinished.now) c.stores.it-index u refl c.stores-test.true c.it-item.is in
      any-more c.args.unfinished.now c.stores.it-index u there (c.stores.invariant.removed t)
      (subst (λ (paths : List (List ℕ)). Effect (IsPart u.store (map data_name paths)) (λ _. Unit {0}) (g.D.Device.disk c.stores.dev) (g.D.Device.disk c.remove_parts.new.dev)) c.as_slice.ensures (c.remove_parts.ensures.crash t));
  cause = cause_then c.stores.invariant.cause c.in_ok-remove_parts.ensures.cause (λ none. absurd none);
}
