use Rattle.std.proofs.Common.{◌≡◌, ◌++◌, ◌+◌, drop}
use Rattle.std.specs.String.{string_bytes}
use Rattle.bk_report.specs.Listing.{restore_lines}
use Rattle.bk_report.proofs.listing.restores_text.Given as goal

abbrev pub invariant-loop-i : goal.invariant-loop-i
invariant-loop-i l = string_bytes l.text ++ restore_lines (l.i + 1) (drop l.i l.rows) ≡ restore_lines 1 l.rows
