use Rattle.std.proofs.Common.{◌≡◌, ◌∙◌, ◌+◌, List, Some, length, slice_get, refl, sym, ap, subst, arith}
use Rattle.std.proofs.lemmas.Option.{slice_get_read}
use Rattle.bk_kept.specs.declared.kept.Database.{Database as KeptDatabase}
use Rattle.bk_kept.specs.declared.kept.Kept.{Kept}
use Rattle.bk_executing.proofs.Closings.{count-more}
use Rattle.bk_world.specs.declared.transaction.Open.{Open}
use Rattle.bk_executing.proofs.closing.count_seen.Goals as goal

pub loop-database-preserved : goal.loop-database-preserved
loop-database-preserved c =
    let items = c.args.seen.now.databases.items in
    let read : slice_get c.deref-database-items.result.now c.loop-database.database-index ≡ Some c.database-item.result =
    slice_get_read c.deref-database-items.result.now (length c.deref-database-items.result.now) c.loop-database.database-index c.database-item.result refl c.loop-database-test.true c.database-item.is in
    let whole : c.deref-database-items.result.now ≡ items = c.deref-database-items.ensures.value ∙ ap (λ (k : Kept). k.databases.items) c.seen.view_is in
    let there : slice_get items c.loop-database.database-index ≡ Some c.database-item.result = subst (λ (ds : List KeptDatabase). slice_get ds c.loop-database.database-index ≡ Some c.database-item.result) whole read in
    let more : c.loop-database.count + length c.as_slice.result.now ≡ c.loop-database.count + length c.database-item.result.transactions = ap (λ (ts : List Open). c.loop-database.count + length ts) (c.as_slice.ensures ∙ ap (λ (d : KeptDatabase). d.transactions) c.database.view_is) in
    record {
      counted = more ∙ ap (λ n. n + length c.database-item.result.transactions) c.loop-database.invariant.counted ∙ sym (count-more items c.loop-database.database-index c.database-item.result there);
      low = omega arith;
    }
