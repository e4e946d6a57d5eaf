use Rattle.std.proofs.Common.{◌≡◌, ◌+◌, ◌++◌, ◌∷◌, [], List, ℕ, ap, sym, subst, ◌∙◌}
use Rattle.std.proofs.lemmas.Result.{on_ok_weaker}
use Rattle.std.specs.Prelude.{length, slice_index_or}
use Rattle.bk_page.specs.Page.{sealed}
use Rattle.bk_side.specs.Side.{added_of}
use Rattle.bk_paged.specs.Pooled.{Batches}
use Rattle.bk_paged.proofs.Adding.{side_none}
use Rattle.bk_paged.proofs.Batching.{batch_more, skip_clean, skip_empty}
use Rattle.bk_paged.proofs.placing.add_frame.Goals as goal

pub returns-then-not-is_dirty-clause-added : goal.returns-then-not-is_dirty-clause-added
returns-then-not-is_dirty-clause-added g c t = skip_clean c.args.pool.now c.args.i (added_of (g.D.Device.disk c.args.dev.now) c.args.side.now) c.if-not-is_dirty.ensures

pub returns-then-not-is_dirty-clause-crash : goal.returns-then-not-is_dirty-clause-crash
returns-then-not-is_dirty-clause-crash g c t = side_none c.args.side.now (g.D.Device.disk c.args.dev.now) (c.requires.stands t)

pub returns-in_default-clause-added : goal.returns-in_default-clause-added
returns-in_default-clause-added g c t = skip_empty c.args.pool.now c.args.i (added_of (g.D.Device.disk c.args.dev.now) c.args.side.now) c.in_default.ensures

pub returns-in_default-clause-crash : goal.returns-in_default-clause-crash
returns-in_default-clause-crash g c t = side_none c.args.side.now (g.D.Device.disk c.args.dev.now) (c.requires.stands t)

pub returns-clause-added : goal.returns-clause-added
returns-clause-added g c t before =
    let entries = added_of (g.D.Device.disk c.args.dev.now) c.args.side.now in
    let page : List ℕ = slice_index_or c.args.pool.now.frames c.args.i [] in
    let bytes : c.seal_digest.new.page ≡ sealed page = c.seal_digest.ensures ∙ ap sealed c.copy_frame-bytes.ensures.page in
    let whole : length page ≡ 8192 = ap length (sym c.copy_frame-bytes.ensures.page) ∙ c.copy_frame-bytes.ensures.whole in
    let more = batch_more c.args.pool.now c.args.i c.in-Some.file c.in-Some.page entries c.if-not-is_dirty.ensures c.in-Some.ensures whole before in
    on_ok_weaker c.add.result (λ added. subst (Batches c.args.pool.now (c.args.i + 1)) (sym (added ∙ ap (λ (p : List ℕ). entries ++ ((c.in-Some.file, c.in-Some.page), p) ∷ []) bytes)) more) (c.add.ensures.added t)
