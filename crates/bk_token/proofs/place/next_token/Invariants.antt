use Rattle.std.proofs.Common.{◌≤◌, ◌-◌, List, length}
use Rattle.bk_token.specs.Places.{IsPlace, AreTokensAt}
use Rattle.bk_token.specs.declared.token.Token.{Token}
use Rattle.bk_token.proofs.place.next_token.Given as goal

abbrev pub invariant-loop-place : goal.invariant-loop-place
invariant-loop-place l =
    IsPlace l.src l.place × (l.initial.place.at ≤ l.place.at) × ((ts : List Token) → AreTokensAt l.src l.initial.place ts → AreTokensAt l.src l.place ts)

abbrev pub decreases-loop-place : goal.decreases-loop-place
decreases-loop-place l = length l.src - l.place.at
