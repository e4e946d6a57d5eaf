use Rattle.std.proofs.Common.{Some}
use Rattle.bk_images.proofs.images.row_image.Goals as goal

pub returns-clause-is_cell : goal.returns-clause-is_cell
returns-clause-is_cell c = (Some (record { table = c.args.table; key = c.args.key; value = c.as_bytes.result.now }), (c.image.ensures.fits, c.image.ensures.bytes))
