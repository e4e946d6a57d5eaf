use Rattle.std.proofs.Common.{◌≡◌, ap, ◌∙◌}
use Rattle.bk_machine.specs.statements.Restore.{slots_of}
use Rattle.bk_volume.specs.Names.{medium_file}
use Rattle.bk_archive.specs.OpenedLaws.{set-refused}
use Rattle.bk_archive.specs.TextLaws.{text-bytes}
use Rattle.bk_archive.proofs.Openings.{found-at, found-refused, found-world}
use Rattle.bk_archive.proofs.opening.open_set.Goals as goal

pub returns-in-Ok-Ok-clause-set : goal.returns-in-Ok-Ok-clause-set
returns-in-Ok-Ok-clause-set g c tells w media =
    let a = g.D.Device.disk c.args.dev.now in
    let named : c.in-Ok-Ok.medium.name ≡ medium_file c.args.path.now = rw c.in-Ok-Ok.field-0-is at c.in-Ok-Ok.ensures.name in
    found-world c.args.position w a c.args.path.now c.open_on.result (text-bytes c.args.path.now c.utf8.path) media
    (found-at c.args.position a (g.D.Device.disk c.load_medium.new.dev) c.args.path.now c.in-Ok-Ok.medium.name c.open_on.result named (c.load_medium.ensures.effect tells) (c.open_on.ensures.answer tells))

pub returns-in-Ok-Err-clause-answer : goal.returns-in-Ok-Err-clause-answer
returns-in-Ok-Err-clause-answer g c tells =
    let refused = rw c.in-Ok-Err.field-0-is at (c.in-Ok-Err.ensures.refused tells) in
    found-refused c.args.position _ c.in-Ok-Err.rule refused

pub returns-in-Ok-Err-clause-set : goal.returns-in-Ok-Err-clause-set
returns-in-Ok-Err-clause-set g c tells w media =
    let refused = rw c.in-Ok-Err.field-0-is at (c.in-Ok-Err.ensures.refused tells) in
    set-refused c.args.position _ c.in-Ok-Err.rule (ap slots_of (media.read c.args.path.now (text-bytes c.args.path.now c.utf8.path)) ∙ refused)
