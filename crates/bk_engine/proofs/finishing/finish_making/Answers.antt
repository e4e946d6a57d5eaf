use Rattle.std.proofs.Common.{rules, ◌≡◌, List, ℕ, Option, Some, sym, subst}
use Rattle.bk_archive.specs.DiskLaws.{media-left}
use Rattle.bk_archive.specs.Media.{KeepsMedia}
use Rattle.bk_archive.specs.MediaLaws.{media-in}
use Rattle.bk_archive.specs.TextLaws.{text-bytes}
use Rattle.bk_device.specs.Compose.{effect_none, effect_weaken}
use Rattle.bk_engine.specs.TouchLaws.{medium-touch}
use Rattle.bk_engine.proofs.finishing.finish_making.Goals as goal

pub returns-in-Some-clause-crash : goal.returns-in-Some-clause-crash
returns-in-Some-clause-crash g c = λ tells.
    let a = g.D.Device.disk c.args.dev.now in
    let named : c.args.making.now ≡ Some c.as_str.result.now = search rules in
    effect_weaken (λ image left calm w media. subst (λ (m : Option (List ℕ)). KeepsMedia w m image) (sym named) (left calm w (subst (λ (m : Option (List ℕ)). KeepsMedia w m a.files) named media))) (c.finish_medium.ensures.crash tells)

pub returns-in-None-clause-crash : goal.returns-in-None-clause-crash
returns-in-None-clause-crash g c = λ tells.
    let a = g.D.Device.disk c.args.dev.now in
    effect_none a (λ image mine calm w media. media-in w c.args.making.now a.files image (media-left a image calm mine) media)

pub returns-in-Some-clause-touches : goal.returns-in-Some-clause-touches
returns-in-Some-clause-touches g c = λ tells. medium-touch c.as_str.result.now (search rules) (text-bytes c.as_str.result.now c.as_str.utf8) (c.finish_medium.ensures.spares tells)

pub returns-in-None-clause-touches : goal.returns-in-None-clause-touches
returns-in-None-clause-touches g c = λ tells. effect_none (g.D.Device.disk c.args.dev.now) (λ image left. tt)
