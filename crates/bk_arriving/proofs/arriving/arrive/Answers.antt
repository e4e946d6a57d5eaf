use Rattle.std.proofs.Common.{ℕ, sym, subst}
use Rattle.bk_restored.specs.Reopening.{IsClosed}
use Rattle.bk_segments.specs.Files.{AreDurable as LogsAreDurable}
use Rattle.bk_arriving.specs.Sets.{pages_of}
use Rattle.bk_arriving.proofs.Logs.{suffices_as}
use Rattle.bk_arriving.proofs.Making.{made_effect, medium_kept}
use Rattle.bk_arriving.proofs.arriving.arrive.Goals as goal

pub returns-in_err-finish-clause-crash : goal.returns-in_err-finish-clause-crash
returns-in_err-finish-clause-crash g c t =
    made_effect c.in_ok-arriving.arriving c.args.db c.args.files.items (g.D.Device.disk c.args.dev.now) (g.D.Device.disk c.begin_with_set.new.dev) (g.D.Device.disk c.finish.new.dev) c.in_ok-arriving.ensures.numbers.0 c.in_ok-arriving.ensures.files
    (c.begin_with_set.ensures.crash t) (c.finish.ensures.crash t)

pub returns-in_err-finish-clause-medium : goal.returns-in_err-finish-clause-medium
returns-in_err-finish-clause-medium g c t =
    medium_kept c.args.db c.args.files.items c.args.medium.now.name (g.D.Device.disk c.args.dev.now) (g.D.Device.disk c.finish.new.dev) c.requires.apart
    (made_effect c.in_ok-arriving.arriving c.args.db c.args.files.items (g.D.Device.disk c.args.dev.now) (g.D.Device.disk c.begin_with_set.new.dev) (g.D.Device.disk c.finish.new.dev) c.in_ok-arriving.ensures.numbers.0 c.in_ok-arriving.ensures.files
    (c.begin_with_set.ensures.crash t) (c.finish.ensures.crash t))

pub returns-clause-closed : goal.returns-clause-closed
returns-clause-closed g c t durable body records told is log enough =
    let k = c.in_ok-arriving.arriving in
    let b = g.D.Device.disk c.begin_with_set.new.dev in
    let d = g.D.Device.disk c.finish.new.dev in
    let numbers = c.in_ok-arriving.ensures.numbers in
    subst (λ (n : ℕ). IsClosed n told d) numbers.0
    (c.in_ok-finish.ensures.closed t (subst (λ (n : ℕ). LogsAreDurable n b) (sym numbers.0) (c.in_ok-arriving.ensures.durable t durable)) (pages_of body) records told (c.in_ok-arriving.ensures.arrives t body records is log)
    (suffices_as k c.args.files.items c.args.db c.args.set.now.header.first c.args.checkpoint c.args.note.now (pages_of body) records c.args.known.now told c.in_ok-arriving.ensures.files numbers.1 enough))

pub returns-clause-medium : goal.returns-clause-medium
returns-clause-medium g c t =
    medium_kept c.args.db c.args.files.items c.args.medium.now.name (g.D.Device.disk c.args.dev.now) (g.D.Device.disk c.finish.new.dev) c.requires.apart
    (made_effect c.in_ok-arriving.arriving c.args.db c.args.files.items (g.D.Device.disk c.args.dev.now) (g.D.Device.disk c.begin_with_set.new.dev) (g.D.Device.disk c.finish.new.dev) c.in_ok-arriving.ensures.numbers.0 c.in_ok-arriving.ensures.files
    (c.begin_with_set.ensures.crash t) (c.finish.ensures.crash t))

pub returns-clause-crash : goal.returns-clause-crash
returns-clause-crash g c t =
    made_effect c.in_ok-arriving.arriving c.args.db c.args.files.items (g.D.Device.disk c.args.dev.now) (g.D.Device.disk c.begin_with_set.new.dev) (g.D.Device.disk c.finish.new.dev) c.in_ok-arriving.ensures.numbers.0 c.in_ok-arriving.ensures.files
    (c.begin_with_set.ensures.crash t) (c.finish.ensures.crash t)
