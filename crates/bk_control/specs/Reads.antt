-- Parts of a read.
use Rattle.std.proofs.Common.{◌≡◌, ◌<◌, ◌≤◌, ℕ, ◌+◌, ◌-◌, List, take, drop, get_or, ◌∙◌, ap, arith}
use Rattle.std.proofs.lemmas.List.{get_or-take, get_or-drop, take-take, drop-take, drop-drop}
use Rattle.bk_device.specs.Calls.{read_at}

-- a part of a read is read from further on
pub read_at-within : (from room at n : ℕ) (file : List ℕ) → at + n ≤ room → read_at (read_at file from room) at n ≡ read_at file (from + at) n
read_at-within from room at n file inside =
    let split : room ≡ at + (room - at) = omega arith in
    ap (λ (m : ℕ). take n (drop at (take m (drop from file)))) split
    ∙ ap (take n) (drop-take at (room - at) (drop from file))
    ∙ take-take n (room - at) (drop at (drop from file)) (omega arith)
    ∙ ap (take n) (drop-drop at from file)

-- a byte of a read
pub index-within : (from room k : ℕ) (file : List ℕ) → k < room → get_or (read_at file from room) k 0 ≡ get_or file (from + k) 0
index-within from room k file inside = get_or-take room (drop from file) k 0 inside ∙ get_or-drop from file k 0
