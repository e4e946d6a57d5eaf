use Rattle.std.proofs.Common.{◌≡◌, map, drop}
use Rattle.std.specs.String.{string_bytes}
use Rattle.bk_console.specs.Given.{meant_before}
use Rattle.bk_console.specs.Words.{options_of}
use Rattle.bk_console.proofs.command_line.words.Given as goal

abbrev pub invariant-loop-word : goal.invariant-loop-word
invariant-loop-word l = options_of (map string_bytes l.words) ≡ meant_before l.given (map string_bytes (drop l.word-index l.words))
