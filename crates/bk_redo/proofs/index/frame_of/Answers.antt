use Rattle.std.proofs.Common.{length, sym, subst, ◌∙◌}
use Rattle.bk_record.specs.View.{place_of}
use Rattle.bk_redo.specs.Frames.{IsFrameOf}
use Rattle.bk_redo.proofs.Indexes.{page_at, on_frame}
use Rattle.bk_redo.proofs.index.frame_of.Goals as goal

pub returns : goal.returns
returns c =
    let places = c.args.places.now in
    let place = place_of c.args.place in
    let found : IsFrameOf places (length places) (page_at place) c.copied.result =
    subst (IsFrameOf places (length places) (page_at place)) (sym (c.copied.ensures ∙ c.get.ensures.value)) (c.requires.indexed (page_at place)) in
    on_frame places place c.copied.result c.requires.different found
