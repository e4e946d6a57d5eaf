use Rattle.std.proofs.Common.{◌≡◌, ◌∙◌, Some, refl, arith}
use Rattle.std.specs.Prelude.{slice_get, slice_index_or, slice_set}
use Rattle.std.proofs.lemmas.List.{length-set}
use Rattle.std.proofs.lemmas.Option.{slice_get-get_or}
use Rattle.bk_device.specs.Compose.{keeps_by_nothing}
use Rattle.bk_device.specs.Laws.{cause_then, nothing_then, nothing_yet}
use Rattle.bk_redo.specs.declared.place.PageAt.{PageAt}
use Rattle.bk_side.specs.Laws.{shown_kept, side_kept}
use Rattle.bk_side.specs.Side.{pages_of}
use Rattle.bk_opening.proofs.Places.{read_more}
use Rattle.bk_opening.proofs.reading.read_frames.Goals as goal

pub pages-init : goal.pages-init
pages-init g c = record {
  nothing = λ t. nothing_yet (g.D.Device.disk c.args.dev.now);
  read = λ t i at below. absurd (omega (arith, below));
  size = refl;
  cause = record { rose = λ none. absurd none; never_falls = omega arith; tell_faults = refl };
}

pub read_frame-requires : goal.read_frame-requires
read_frame-requires g c t = side_kept (keeps_by_nothing (c.pages.invariant.nothing t)) (c.requires.stands t)

pub pages-preserved : goal.pages-preserved
pages-preserved g c =
    let places = c.args.places.now in
    let i = c.pages.i in
    let at : PageAt = slice_index_or places i (record { file = 0; page = 0 }) in
    let held : slice_get places i ≡ Some at = slice_get-get_or places i (record { file = 0; page = 0 }) c.pages-test.true in
    let side = c.args.side.now in
    let page = c.read_frame.new.page in
    record {
      nothing = λ t. nothing_then (g.met.D.Device.lawful t c.args.dev.now) (c.pages.invariant.nothing t) (c.read_frame.ensures.effect t);
      read = λ t. read_more (pages_of side (g.D.Device.disk c.args.dev.now).files) places i c.pages.frames (slice_set c.pages.frames i page) at page (pages_of side (g.D.Device.disk c.pages.dev).files (at.file, at.page)) (c.pages.invariant.read t) held (omega (arith, c.pages.invariant.size, c.requires.enough, c.pages-test.true)) refl
          (c.in_ok-read_frame.ensures.page t) (shown_kept side.gate.name side.names (keeps_by_nothing (c.pages.invariant.nothing t)) (at.file, at.page));
      size = length-set c.pages.frames i page ∙ c.pages.invariant.size;
      cause = cause_then c.pages.invariant.cause c.read_frame.ensures.cause (λ none. absurd none);
    }
