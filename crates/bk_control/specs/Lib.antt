pub mod Control
pub mod Found
pub mod Reads
pub mod Slots
pub mod Stands
pub use Rattle.bk_lemmas.specs.Tests as LemmasTests
