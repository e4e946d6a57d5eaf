pub mod Rows
pub mod Writes
pub mod Values
pub mod Ends
pub mod ReadLaws
pub mod Shown
pub mod Steps
pub mod Readings
pub use Rattle.bk_undo.specs.Spelled as UndoSpelled
