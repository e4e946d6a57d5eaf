use Rattle.bk_header.specs.Conditions.{IsHeader}
use Rattle.bk_header.proofs.Kept.{always, header_kept}
use Rattle.bk_header.proofs.encoding.encode.Goals as goal

pub returns-clause-fits : goal.returns-clause-fits
returns-clause-fits c = always c.extend_from_slice.result (IsHeader c.args.h.now) (header_kept c.args.h.now c.requires c.in_ok-append_fixed.ensures.fits c.in_ok-append_lists.ensures.fits)
