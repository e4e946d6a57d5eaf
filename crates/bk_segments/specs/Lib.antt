pub mod BatchLaws
pub mod Control
pub mod FileLaws
pub mod Files
pub mod Making
pub mod Records
pub mod RunLaws
pub mod SegmentLaws
pub mod Troubles
pub use Rattle.bk_record.specs.Spelling as RecordSpelling
