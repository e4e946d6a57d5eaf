use Rattle.std.proofs.Common.{refl, length}
use Rattle.std.proofs.lemmas.Option.{slice_get_read}
use Rattle.std.specs.String.{string_bytes}
use Rattle.bk_report.specs.Histories.{restore_line}
use Rattle.bk_report.specs.Listing.{restore_lines}
use Rattle.bk_report.proofs.Lines.{numbered-next}
use Rattle.bk_report.proofs.listing.restores_text.Goals as goal

pub loop-i-preserved : goal.loop-i-preserved
loop-i-preserved c =
    let rows = c.args.rows.now in
    let i = c.loop-i.i in
    let row = c.index-rows-i.result in
    numbered-next restore_line restore_lines (λ id first rest. refl) rows i row (slice_get_read rows (length rows) i row refl c.loop-i-test.true c.index-rows-i.is)
    (string_bytes c.loop-i.text) (string_bytes c.push_restore.new.text) (restore_lines 1 rows) c.loop-i.invariant c.in_ok-push_restore.ensures.ok
