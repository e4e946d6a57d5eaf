pub mod Effects
pub mod Frames
pub mod PageStates
pub mod Redo
pub mod Shares
pub mod CellWrites
pub mod Listing
pub mod Chains
pub mod Tasks
pub mod Laws
pub mod CellLaws
pub use Rattle.bk_record.specs.Spelling as RecordSpelling
