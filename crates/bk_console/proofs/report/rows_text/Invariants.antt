use Rattle.std.proofs.Common.{◌≡◌, take, flat_map}
use Rattle.std.specs.String.{string_bytes}
use Rattle.bk_world.specs.Text.{row_text}
use Rattle.bk_console.proofs.report.rows_text.Given as goal

abbrev pub invariant-loop-key : goal.invariant-loop-key
invariant-loop-key l = string_bytes l.text ≡ flat_map row_text (take l.key-index l.rows)
