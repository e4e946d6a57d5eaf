pub mod Arriving
pub use Rattle.bk_paged.specs.Holds as PagedHolds
pub use Rattle.bk_paged.specs.Names as PagedNames
pub use Rattle.bk_segments.specs.Files as SegmentsFiles
