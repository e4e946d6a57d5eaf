use Rattle.bk_executing.proofs.Catalogued.{rows-listed}
use Rattle.bk_executing.proofs.listing.list.Goals as goal

pub returns-clause-replies : goal.returns-clause-replies
returns-clause-replies g c tells w shows =
    rows-listed (g.D.Device.disk c.args.dev.now).files w c.args.line c.args.catalog c.in_ok-tables.tables c.listing_of-listing.result _ (c.in_ok-tables.ensures.shows tells) shows c.listing_of-listing.ensures c.reply_with.ensures
