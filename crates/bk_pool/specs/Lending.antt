-- What becomes of a pool once its frames are given back.
use Rattle.std.specs.Prelude.{ℕ, List}
use Rattle.std.specs.Borrow.{Lends, MutBor, Fml}
use Rattle.bk_frames.specs.contracts.frames.Frames as frames
use Rattle.bk_pool.specs.Pool.{Pool}
use Rattle.bk_pool.specs.contracts.pool.Pool.{the_row}

-- the pool ends with the frames as they were left
abbrev pub LendsFrames : MutBor Pool → MutBor (List (List ℕ)) → Fml
LendsFrames pool left = Lends the_row frames.the_row pool left (λ pages. record pool.now { frames = pages })
