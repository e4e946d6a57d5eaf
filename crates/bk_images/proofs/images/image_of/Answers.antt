use Rattle.std.proofs.Common.{◌∙◌, ap, sym}
use Rattle.bk_shown.specs.UndoSpelled.{image}
use Rattle.bk_images.proofs.images.image_of.Goals as goal

pub returns-in-None-clause-image : goal.returns-in-None-clause-image
returns-in-None-clause-image c = c.free_image.ensures.image c.args.table c.args.key ∙ ap (image c.args.table c.args.key) (sym c.in-None.is)
