use Rattle.bk_device.specs.Laws.{nothing_then}
use Rattle.bk_archive.proofs.listing.list_all.Goals as goal

pub returns-in-Ok-Ok-clause-effect : goal.returns-in-Ok-Ok-clause-effect
returns-in-Ok-Ok-clause-effect g c tells = nothing_then (g.met.D.Device.lawful tells c.args.dev.now) (c.load_medium.ensures.effect tells) (c.list_on.ensures.effect tells)
