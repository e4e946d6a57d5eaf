use Rattle.std.proofs.Common.{◌≡◌, ◌++◌, ◌+◌, drop}
use Rattle.std.specs.String.{string_bytes}
use Rattle.bk_report.specs.Listing.{backup_lines}
use Rattle.bk_report.proofs.listing.backups_text.Given as goal

abbrev pub invariant-loop-i : goal.invariant-loop-i
invariant-loop-i l = string_bytes l.text ++ backup_lines (l.i + 1) (drop l.i l.rows) ≡ backup_lines 1 l.rows
