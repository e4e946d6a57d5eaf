pub mod Restored
pub use Rattle.bk_reopening.specs.Paged
pub use Rattle.bk_reopening.specs.PagedHolds
pub use Rattle.bk_reopening.specs.PagedNames
pub use Rattle.bk_reopening.specs.Paths
pub use Rattle.bk_reopening.specs.Reopening
pub use Rattle.bk_reopening.specs.Store
pub use Rattle.bk_reopening.specs.StoreCopying
pub use Rattle.bk_reopening.specs.StoreTold
pub use Rattle.bk_restoring.specs.Arriving as RestoringArriving
