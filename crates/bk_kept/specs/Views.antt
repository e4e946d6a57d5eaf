-- What is kept, as it is seen.
use Rattle.std.specs.Prelude.{◌≡◌}
use Rattle.bk_kept.specs.declared.kept.Kept.{Kept}

-- This is seen of what is kept: all of it, with the same databases in a list of their own.
pub record IsSeen (k seen : Kept) : Type 0 where
  pub same : seen ≡ record k { databases = seen.databases }
  pub databases : seen.databases.items ≡ k.databases.items
