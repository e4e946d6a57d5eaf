pub mod Carried
pub mod Copied
pub mod CopyLaws
pub mod Arrived
pub use Rattle.bk_restored.specs.Restored
