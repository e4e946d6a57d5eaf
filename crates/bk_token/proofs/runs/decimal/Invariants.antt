use Rattle.std.proofs.Common.{◌<◌, ◌^◌, take}
use Rattle.std.specs.Prelude.{SomeIff}
use Rattle.bk_token.specs.Pieces.{decimal}
use Rattle.bk_token.proofs.runs.decimal.Given as goal

abbrev pub invariant-loop-digit : goal.invariant-loop-digit
invariant-loop-digit l = SomeIff l.value (decimal (take l.digit-index l.digits) < 2 ^ 64) (decimal (take l.digit-index l.digits))
