use Rattle.std.proofs.Common.{◌≡◌, ◌<◌, ◌∙◌, ℕ, Bool, List, Option, None, Some, false, length, refl, ap, arith}
use Rattle.std.specs.Prelude.{slice_get, slice_index_or}
use Rattle.std.proofs.lemmas.List.{length-replicate, length-set}
use Rattle.std.proofs.lemmas.Option.{slice_get-get_or}
use Rattle.bk_redo.specs.declared.place.PageAt.{PageAt}
use Rattle.bk_opening.proofs.Places.{put_absent, put_more, put_none, replicated}
use Rattle.bk_opening.proofs.reading.pool_of.Goals as goal

pub loop-i-init : goal.loop-i-init
loop-i-init c = record {
  put = put_none c.args.places.now c.max.result c.in_ok-pool.pool.pages c.in_ok-pool.ensures.pages;
  size = refl;
  frames = refl;
  dirty = refl;
}

pub put-requires-clause-clean : goal.put-requires-clause-clean
put-requires-clause-clean c =
    ap (λ (ds : List Bool). slice_get ds c.loop-i.i) (c.loop-i.invariant.dirty ∙ c.in_ok-pool.ensures.dirty) ∙ replicated c.max.result c.loop-i.i false (omega (arith, c.max.ensures, c.loop-i-test.true))

pub put-requires-clause-absent : goal.put-requires-clause-absent
put-requires-clause-absent c =
    let at : PageAt = slice_index_or c.args.places.now c.loop-i.i (record { file = 0; page = 0 }) in
    put_absent c.args.places.now c.loop-i.i c.loop-i.pool.pages at c.loop-i.invariant.put c.requires (slice_get-get_or c.args.places.now c.loop-i.i (record { file = 0; page = 0 }) c.loop-i-test.true)

pub loop-i-preserved : goal.loop-i-preserved
loop-i-preserved c =
    let at : PageAt = slice_index_or c.args.places.now c.loop-i.i (record { file = 0; page = 0 }) in
    let held : slice_get c.args.places.now c.loop-i.i ≡ Some at = slice_get-get_or c.args.places.now c.loop-i.i (record { file = 0; page = 0 }) c.loop-i-test.true in
    let size : length c.in_ok-pool.pool.pages ≡ c.max.result = ap (λ (ps : List (Option (ℕ × ℕ))). length ps) c.in_ok-pool.ensures.pages ∙ length-replicate {A = Option (ℕ × ℕ)} c.max.result None in
    let inside : c.loop-i.i < length c.loop-i.pool.pages = omega (arith, c.loop-i.invariant.size, size, c.max.ensures, c.loop-i-test.true) in
    record {
      put = put_more c.args.places.now c.loop-i.i c.loop-i.pool.pages c.put.new.self.pages at c.loop-i.invariant.put held inside c.put.ensures.pages;
      size = ap (λ (ps : List (Option (ℕ × ℕ))). length ps) c.put.ensures.pages ∙ length-set c.loop-i.pool.pages c.loop-i.i (Some (at.file, at.page)) ∙ c.loop-i.invariant.size;
      frames = c.put.ensures.frames ∙ c.loop-i.invariant.frames;
      dirty = c.put.ensures.dirty ∙ c.loop-i.invariant.dirty;
    }
