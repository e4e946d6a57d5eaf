use Rattle.std.proofs.Common.{◌≡◌, ◌∙◌, Some, ap, sym}
use Rattle.std.specs.List.{position}
use Rattle.bk_engine.specs.HostingAskLaws.{described}
use Rattle.bk_hosted.specs.Hosted.{names}
use Rattle.bk_machine.specs.World.{database_named}
use Rattle.bk_sealing.proofs.Named.{place-of}
use Rattle.bk_sealing.proofs.copying.place_of.Goals as goal

pub returns-in-Some-clause-there : goal.returns-in-Some-clause-there
returns-in-Some-clause-there g c = λ tells w set is.
    let found : Some c.in-Some.at ≡ position (names c.as_str.result.now) is.hosted = sym c.in-Some.is ∙ c.find.ensures.found is.hosted (described (g.D.Device.disk c.args.dev.now) c.args.engine.now.hosting is.hosted is.hosting) in
    let named : database_named w.databases c.as_str.result.now ≡ Some set.db = ap (database_named w.databases) c.as_str.ensures.spelling ∙ set.found in
    place-of (g.D.Device.disk c.args.dev.now) c.args.engine.now w c.as_str.result.now set.db c.in-Some.at is (sym found) named
