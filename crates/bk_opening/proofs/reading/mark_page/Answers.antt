use Rattle.std.proofs.Common.{◌∙◌, ap, not}
use Rattle.bk_opening.proofs.Places.{holds_page}
use Rattle.bk_opening.proofs.reading.mark_page.Goals as goal

pub dirty-requires : goal.dirty-requires
dirty-requires c = holds_page c.args.pool.now.pages c.args.i c.page.result c.page.ensures (c.is_none.ensures ∙ ap not c.if-is_none.false)
