use Rattle.std.proofs.Common.{refl, length}
use Rattle.std.proofs.lemmas.Option.{slice_get_read}
use Rattle.std.specs.String.{string_bytes}
use Rattle.bk_report.specs.Listing.{set_line}
use Rattle.bk_report.proofs.Lines.{front-next}
use Rattle.bk_report.proofs.listing.sets_text.Goals as goal

pub loop-position-preserved : goal.loop-position-preserved
loop-position-preserved c =
    let rows = c.args.sets.now in
    let i = c.loop-position.position-index in
    let row = c.loop-position-item.result in
    front-next set_line rows i row (slice_get_read rows (length rows) i row refl c.loop-position-test.true c.loop-position-item.is) (string_bytes c.loop-position.text)
    (string_bytes c.push_header.new.text) c.loop-position.invariant c.in_ok-push_header.ensures.ok
