use Rattle.std.proofs.Common.{[], ◌<◌, refl, arith}
use Rattle.bk_frames.proofs.Pairs.{set-cut_above, set-cut_below, slice_get-front, slice_get-back}
use Rattle.bk_frames.proofs.frames_mut.lend_pair.Goals as goal

pub returns-then-i-j : goal.returns-then-i-j
returns-then-i-j c =
    let pages = c.args.pages.now in
    rw (c.split_at_mut-front.ensures.front, c.split_at_mut-front.ensures.back) (
      ((refl, refl), λ x y. set-cut_above pages c.args.i c.args.j x y c.if-i-j.true c.requires.second),
      record {
        writes_back = tt;
        first = slice_get-front pages c.args.i c.args.j [] c.if-i-j.true c.requires.second;
        second = slice_get-back pages c.args.j [] c.requires.second;
      },
    )

pub returns-else-i-j : goal.returns-else-i-j
returns-else-i-j c =
    let pages = c.args.pages.now in
    let below : c.args.j < c.args.i = omega arith in
    rw (c.split_at_mut-front-else-i-j.ensures.front, c.split_at_mut-front-else-i-j.ensures.back) (
      ((refl, refl), λ x y. set-cut_below pages c.args.i c.args.j x y below c.requires.first),
      record {
        writes_back = tt;
        first = slice_get-back pages c.args.i [] c.requires.first;
        second = slice_get-front pages c.args.j c.args.i [] below c.requires.first;
      },
    )
