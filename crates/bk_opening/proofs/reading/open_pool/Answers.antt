use Rattle.std.proofs.lemmas.Result.{err_from_is_err_and}
use Rattle.bk_lemmas.specs.Tests.{same_error}
use Rattle.bk_paths.specs.Paths.{kept_from}
use Rattle.bk_side.specs.Side.{pages_of}
use Rattle.bk_paged.specs.declared.error.PagedError.TheVariants.{Foreign}
use Rattle.bk_opening.proofs.Bringing.{brought_clean, brought_frames, is_brought}
use Rattle.bk_opening.proofs.Places.{all_in, all_sound}
use Rattle.bk_opening.proofs.reading.open_pool.Goals as goal

pub returns-in_err-redo_frames-clause-foreign : goal.returns-in_err-redo_frames-clause-foreign
returns-in_err-redo_frames-clause-foreign g c t =
    let p = err_from_is_err_and c.from_residual-in_err-redo_frames.result c.from_residual-in_err-redo_frames.ensures.1 in
    rw (p.1, p.2) (λ is records brings few. c.in_err-redo_frames.ensures.foreign (same_error c.in_err-redo_frames.field-0.0 Foreign is) (kept_from brings.kept records) brings.held)

pub returns-clause-frames : goal.returns-clause-frames
returns-clause-frames g c t records brings i at here =
    brought_frames c.pages_law.ensures.redone c.args.facts.now (pages_of c.args.side.now (g.D.Device.disk c.args.dev.now).files) c.args.log.now c.args.end c.mark_pages.new.pool records
    (is_brought c.as_slice.result.now c.in_ok-places.places.items c.deref.result.now c.deref-2.result.now c.deref-3.result.now c.load_frames.new.frames c.frames-2.result.now c.mark_pages.ensures.marks c.as_slice.ensures
    c.in_ok-places.ensures.places c.deref.ensures.value c.in_ok-pool.ensures.put c.deref-2.ensures.value (c.in_ok-load_frames.ensures.read t) c.frames-2.ensures.value c.deref-3.ensures.value c.in_ok-redo_frames.ensures.redone)
    brings i at here

pub returns-clause-clean : goal.returns-clause-clean
returns-clause-clean g c t records brings at there clean =
    brought_clean c.pages_law.ensures.redone c.args.facts.now (pages_of c.args.side.now (g.D.Device.disk c.args.dev.now).files) c.args.log.now c.args.end c.mark_pages.new.pool records
    (is_brought c.as_slice.result.now c.in_ok-places.places.items c.deref.result.now c.deref-2.result.now c.deref-3.result.now c.load_frames.new.frames c.frames-2.result.now c.mark_pages.ensures.marks c.as_slice.ensures
    c.in_ok-places.ensures.places c.deref.ensures.value c.in_ok-pool.ensures.put c.deref-2.ensures.value (c.in_ok-load_frames.ensures.read t) c.frames-2.ensures.value c.deref-3.ensures.value c.in_ok-redo_frames.ensures.redone)
    brings at there clean

pub returns-clause-whole : goal.returns-clause-whole
returns-clause-whole g c =
    all_in c.args.facts.now.files c.as_slice.result.now c.in_ok-places.places.items c.deref.result.now _ c.mark_pages.new.pool.pages c.as_slice.ensures c.in_ok-places.ensures.places c.deref.ensures.value c.in_ok-pool.ensures.put
    c.mark_pages.ensures.marks.pages

pub returns-clause-sound : goal.returns-clause-sound
returns-clause-sound g c t =
    all_sound c.args.facts.now.files c.as_slice.result.now c.in_ok-places.places.items c.deref-2.result.now (pages_of c.args.side.now (g.D.Device.disk c.args.dev.now).files) c.load_frames.new.frames c.as_slice.ensures c.in_ok-places.ensures.places
    c.deref-2.ensures.value (c.in_ok-load_frames.ensures.read t) c.in_ok-load_frames.ensures.sound
