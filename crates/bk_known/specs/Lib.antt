pub mod Known
pub mod KnownLaws
pub use Rattle.bk_storage.specs.Storage
