use Rattle.std.proofs.Common.{sym, subst}
use Rattle.bk_device.specs.Compose.{effect_weaken}
use Rattle.bk_engine.specs.Bringing.{IsSetOn}
use Rattle.bk_engine.specs.Stands.{StandsFor}
use Rattle.bk_restarts.specs.CutLaws.{cut-first}
use Rattle.bk_executing.proofs.RestoringSet.{bring-cuts, bring-does, bring-never, park-cuts}
use Rattle.bk_executing.proofs.Results.{moved, of-ok, on-all}
use Rattle.bk_executing.proofs.restoring.bring_up.Goals as goal

pub returns-in_err-known-clause-crash : goal.returns-in_err-known-clause-crash
returns-in_err-known-clause-crash g c tells w log acts stands there are = effect_weaken (λ image covers. cut-first w acts image covers) (c.at_rest.ensures.crash tells w stands)

pub returns-in_err-park-clause-crash : goal.returns-in_err-park-clause-crash
returns-in_err-park-clause-crash g c tells w log acts stands there are =
    moved g.D.Device.disk c.args.dev.now c.at_rest.new.dev c.at_rest.ensures.same
    (park-cuts c.name_law.ensures.different c.args.engine.now (g.D.Device.disk c.at_rest.new.dev) (g.D.Device.disk c.park.new.dev) c.args.name.now c.args.opened.now.set c.args.header.now c.tables.result.now c.tables.ensures c.in_ok-known.known c.in_ok-known.ensures.known c.in_ok-known.ensures.spelled c.args.branch c.args.last (c.park.ensures.crash tells)
    w log acts (subst (λ d. StandsFor (g.D.Device.disk d) c.args.engine.now w) (sym c.at_rest.ensures.same) stands) are)

pub returns-clause-crash : goal.returns-clause-crash
returns-clause-crash g c tells w log acts stands there are =
    moved g.D.Device.disk c.args.dev.now c.at_rest.new.dev c.at_rest.ensures.same
    (bring-cuts c.name_law.ensures.different c.args.engine.now (g.D.Device.disk c.at_rest.new.dev) (g.D.Device.disk c.park.new.dev) c.args.name.now c.args.opened.now.set c.args.header.now c.tables.result.now c.tables.ensures c.in_ok-known.known c.in_ok-known.ensures.known c.in_ok-known.ensures.spelled c.args.branch c.args.last
    c.park.new.self (c.in_ok-park.ensures.stands tells) c.args.opened.now.medium.name c.requires.medium (c.park.ensures.touches tells) (g.D.Device.disk c.bring_up.new.dev) c.as_str.result.now c.as_str.ensures.spelling
    (c.park.ensures.crash tells) (c.bring_up.ensures.crash tells) w log acts (subst (λ d. StandsFor (g.D.Device.disk d) c.args.engine.now w) (sym c.at_rest.ensures.same) stands)
    (subst (λ d. IsSetOn (g.D.Device.disk d).files c.args.opened.now.medium.name c.args.opened.now.set) (sym c.at_rest.ensures.same) there) are)

pub returns-clause-does : goal.returns-clause-does
returns-clause-does g c tells w log acts stands there are =
    on-all c.bring_up.result (λ value ok. bring-does c.name_law.ensures.different c.args.engine.now (g.D.Device.disk c.at_rest.new.dev) (g.D.Device.disk c.park.new.dev) c.args.name.now c.args.opened.now.set c.args.header.now c.tables.result.now c.tables.ensures c.in_ok-known.known c.in_ok-known.ensures.known c.in_ok-known.ensures.spelled c.args.branch c.args.last
    c.park.new.self (c.in_ok-park.ensures.stands tells) c.args.opened.now.medium.name c.requires.medium (c.park.ensures.touches tells) (g.D.Device.disk c.bring_up.new.dev) c.as_str.result.now c.as_str.ensures.spelling
    c.bring_up.new.self (λ v up on may. of-ok c.bring_up.result value ok (c.bring_up.ensures.stands tells v up on may)) w log acts (subst (λ d. StandsFor (g.D.Device.disk d) c.args.engine.now w) (sym c.at_rest.ensures.same) stands)
    (subst (λ d. IsSetOn (g.D.Device.disk d).files c.args.opened.now.medium.name c.args.opened.now.set) (sym c.at_rest.ensures.same) there) are)

pub returns-clause-broken : goal.returns-clause-broken
returns-clause-broken g c tells =
    λ is w log acts stands there are. bring-never c.name_law.ensures.different c.args.engine.now (g.D.Device.disk c.at_rest.new.dev) (g.D.Device.disk c.park.new.dev) c.args.name.now c.args.opened.now.set c.args.header.now c.tables.result.now c.tables.ensures c.in_ok-known.known c.in_ok-known.ensures.known c.in_ok-known.ensures.spelled c.args.branch c.args.last
    c.park.new.self (c.in_ok-park.ensures.stands tells) c.args.opened.now.medium.name c.requires.medium (c.park.ensures.touches tells) (g.D.Device.disk c.bring_up.new.dev) c.as_str.result.now c.as_str.ensures.spelling
    (c.bring_up.ensures.broken tells is) w log acts (subst (λ d. StandsFor (g.D.Device.disk d) c.args.engine.now w) (sym c.at_rest.ensures.same) stands)
    (subst (λ d. IsSetOn (g.D.Device.disk d).files c.args.opened.now.medium.name c.args.opened.now.set) (sym c.at_rest.ensures.same) there) are
