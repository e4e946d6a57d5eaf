use Rattle.std.proofs.Common.{◌+◌, ◌<◌, ◌^◌, arith}
use Rattle.bk_side.specs.Side.{pages_of}
use Rattle.bk_paged.proofs.Ends.{both_ok}
use Rattle.bk_paged.proofs.Made.{first_more}
use Rattle.bk_paged.proofs.making.make_file.Goals as goal

pub returns-clause-first : goal.returns-clause-first
returns-clause-first g c t first =
    let few : c.args.i + 1 < 2 ^ 16 = omega (arith, c.requires.few, c.requires.there) in
    both_ok c.make.result (first_more c.page_law.ensures.fresh c.args.files.now c.args.i c.index-files-i.result (pages_of c.args.side.now (g.D.Device.disk c.args.dev.now).files) (pages_of c.args.side.now (g.D.Device.disk c.make.new.dev).files) c.requires.there
    few c.index-files-i.element_fits.fits first) (c.make.ensures.fresh t) (c.make.ensures.others t)
