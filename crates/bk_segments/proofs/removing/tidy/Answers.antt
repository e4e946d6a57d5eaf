use Rattle.std.proofs.lemmas.Result.{on_ok_weaker}
use Rattle.bk_segments.proofs.Removals.{beside_first, beside_second, beside_gone, beside_still}
use Rattle.bk_segments.proofs.removing.tidy.Goals as goal

pub returns-in_err-remove_segments-clause-crash : goal.returns-in_err-remove_segments-clause-crash
returns-in_err-remove_segments-clause-crash g c t = beside_first c.args.db c.args.head (g.D.Device.disk c.args.dev.now) (g.D.Device.disk c.remove_segments.new.dev) c.requires.order (c.remove_segments.ensures.crash t)

pub returns-clause-crash : goal.returns-clause-crash
returns-clause-crash g c t =
    beside_second c.args.db c.args.head (g.D.Device.disk c.args.dev.now) (g.D.Device.disk c.remove_segments.new.dev) (g.D.Device.disk c.remove_segment.new.dev) c.requires.order (c.remove_segments.ensures.crash t) (c.remove_segment.ensures.crash t)

pub returns-in_err-remove_segments-clause-still : goal.returns-in_err-remove_segments-clause-still
returns-in_err-remove_segments-clause-still g c t none = c.remove_segments.ensures.still t none.below

pub returns-clause-still : goal.returns-clause-still
returns-clause-still g c t none = beside_still c.args.db c.args.head (g.met.D.Device.lawful t c.args.dev.now) none (c.remove_segments.ensures.still t) (c.remove_segment.ensures.still t)

pub returns-clause-gone : goal.returns-clause-gone
returns-clause-gone g c t =
    let disk = g.D.Device.disk in
    on_ok_weaker c.remove_segment.result (beside_gone c.args.db c.args.head (disk c.remove_segments.new.dev) (disk c.remove_segment.new.dev) (c.in_ok-remove_segments.ensures.gone t) (c.remove_segment.ensures.crash t)) (c.remove_segment.ensures.gone t)
