pub mod Cells
pub mod Errors
pub mod QuietLaws
pub mod Reopening
pub mod Troubles
pub use Rattle.bk_log.specs.Laws as LogLaws
pub use Rattle.bk_opening.specs.Opening
pub use Rattle.bk_opening.specs.Quiet as OpeningQuiet
pub use Rattle.bk_opening.specs.QuietLaws as OpeningQuietLaws
pub use Rattle.bk_opening.specs.TouchLaws as OpeningTouchLaws
pub use Rattle.bk_paged.specs.Holds as PagedHolds
pub use Rattle.bk_paged.specs.Names as PagedNames
pub use Rattle.bk_paged.specs.Paged
pub use Rattle.bk_paths.specs.Paths
pub use Rattle.bk_shown.specs.Shown
pub use Rattle.bk_store.specs.Copying as StoreCopying
pub use Rattle.bk_store.specs.Store
pub use Rattle.bk_store.specs.Told as StoreTold
