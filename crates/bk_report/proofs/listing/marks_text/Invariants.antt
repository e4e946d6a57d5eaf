use Rattle.std.proofs.Common.{◌≡◌, take, flat_map}
use Rattle.std.specs.String.{string_bytes}
use Rattle.bk_report.specs.Histories.{mark_line}
use Rattle.bk_report.proofs.listing.marks_text.Given as goal

abbrev pub invariant-loop-row : goal.invariant-loop-row
invariant-loop-row l = string_bytes l.text ≡ flat_map mark_line (take l.row-index l.rows)
