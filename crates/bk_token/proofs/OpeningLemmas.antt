-- What an opening says of the first bytes.
use Rattle.std.proofs.Common.{◌≡◌, ℕ, List, [], ◌∷◌, length, get_or, ◌≤◌, arith}
use Rattle.bk_token.specs.Pieces.{opening_mark}
use Rattle.bk_token.specs.Reading.{Opens}
use Rattle.bk_token.specs.declared.opening.Opening.{Opening}
use Rattle.bk_token.specs.Laws.{opens_mark}

pub opens_first : (bytes : List ℕ) (o : Opening) → 1 ≤ length bytes → o ≡ opening_mark (get_or bytes 0 0) → Opens o bytes
opens_first [] o some e = absurd (omega arith)
opens_first (b ∷ bs) o some e = rw e (opens_mark b bs)
