pub mod Closing
pub mod Executing
pub mod Parts
pub mod Planned
pub mod Listing
pub mod Querying
pub mod Restoring
pub mod Waiting
pub use Rattle.bk_archive.specs.MediaLaws as ArchiveMediaLaws
pub use Rattle.bk_engine.specs.BesideLaws as EngineBesideLaws
pub use Rattle.bk_engine.specs.CopiedLaws as EngineCopiedLaws
pub use Rattle.bk_engine.specs.HostingLoading
pub use Rattle.bk_engine.specs.Loading as EngineLoading
pub use Rattle.bk_engine.specs.Rows as EngineRows
pub use Rattle.bk_engine.specs.Stands as EngineStands
pub use Rattle.bk_engine.specs.TouchLaws as EngineTouchLaws
pub use Rattle.bk_engine.specs.Touched as EngineTouched
