pub mod Names
pub mod Holds
pub mod Paged
pub mod Appends
pub mod Pooled
pub mod Errors
pub mod Making
pub mod Laws
pub mod Named
pub mod Leaving
pub mod StandLaws
pub use Rattle.bk_log.specs.Laws as LogLaws
pub use Rattle.bk_log.specs.Log
pub use Rattle.bk_paths.specs.Paths
pub use Rattle.bk_redo.specs.declared.place.PageAt
pub use Rattle.bk_segments.specs.Control as SegmentsControl
pub use Rattle.bk_segments.specs.Files as SegmentsFiles
pub use Rattle.bk_segments.specs.declared.head.Head
pub use Rattle.bk_side.specs.Names as SideNames
