-- How pages are shared among workers.
use Rattle.std.specs.Prelude.{ℕ, ◌+◌, ◌*◌, ◌^◌, ◌<◌, ◌≤◌}
use Rattle.bk_redo.specs.declared.share.Share.{Share}

-- workers share so many pages evenly: each gets the least number of them or one more
pub record IsShare (share : Share) (count : ℕ) : Type 0 where
  pub some : 0 < share.workers
  pub at_least : share.workers * share.least ≤ count
  pub at_most : count ≤ share.workers * share.least + share.workers
  pub numbered : share.worker + share.workers < 2 ^ 64
