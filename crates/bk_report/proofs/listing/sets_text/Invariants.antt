use Rattle.std.proofs.Common.{◌≡◌, take, flat_map}
use Rattle.std.specs.String.{string_bytes}
use Rattle.bk_report.specs.Listing.{set_line}
use Rattle.bk_report.proofs.listing.sets_text.Given as goal

abbrev pub invariant-loop-position : goal.invariant-loop-position
invariant-loop-position l = string_bytes l.text ≡ flat_map set_line (take l.position-index l.sets)
